-- Drafts, which take one key after another.
use Rattle.std.specs.Prelude.{ℕ, ◌^◌, ◌-◌, Bool, List, Some, None, Result, Ok, Err, ok_or, if◌then◌else◌}
use Rattle.std.specs.Option.{is_some}
use Rattle.objective.specs.Limits
use Rattle.plain_text.specs.Results.{◌>>=◌}
use Rattle.scenario_files.specs.declared.draft.Draft.{Draft}
use Rattle.scenario_files.specs.declared.faults.ScenarioWhat.{ScenarioWhat}
use Rattle.scenario_files.specs.declared.faults.ScenarioWhat.TheVariants.{Twice, UnknownKey}
use Rattle.scenario_files.specs.declared.keys.Key.{Key}
use Rattle.scenario_files.specs.declared.keys.Key.TheVariants.{Algo, Execdir, Deterministic, RunObj, OverallObj, CutoffTime, CutoffLength, TunerTimeout, Paramfile, Outdir, ValidN, InstanceFile, TestInstanceFile, Approach, N, NumRun, MaxComparisons, Workers, R, S, PRestart, CapFloor, PairOrder}
use Rattle.scenario_files.specs.Keys.{key_of}
use Rattle.scenario_files.specs.Values.{text_of, flag_of, run_obj_of, overall_of, approach_of, pair_order_of, count_within, cutoff_length_of, time_within, share_of}

-- no key is given
abbrev pub no_keys : Draft
no_keys = record {
  algo = None;
  execdir = None;
  deterministic = None;
  run_obj = None;
  overall_obj = None;
  cutoff_time = None;
  cutoff_length = None;
  tuner_timeout = None;
  paramfile = None;
  outdir = None;
  valid_n = None;
  instance_file = None;
  test_instance_file = None;
  approach = None;
  n = None;
  num_run = None;
  max_comparisons = None;
  workers = None;
  r = None;
  s = None;
  p_restart = None;
  cap_floor = None;
  pair_order = None;
}

-- whether a draft has a key
abbrev pub has_key : Draft → Key → Bool
has_key d Algo = is_some d.algo
has_key d Execdir = is_some d.execdir
has_key d Deterministic = is_some d.deterministic
has_key d RunObj = is_some d.run_obj
has_key d OverallObj = is_some d.overall_obj
has_key d CutoffTime = is_some d.cutoff_time
has_key d CutoffLength = is_some d.cutoff_length
has_key d TunerTimeout = is_some d.tuner_timeout
has_key d Paramfile = is_some d.paramfile
has_key d Outdir = is_some d.outdir
has_key d ValidN = is_some d.valid_n
has_key d InstanceFile = is_some d.instance_file
has_key d TestInstanceFile = is_some d.test_instance_file
has_key d Approach = is_some d.approach
has_key d N = is_some d.n
has_key d NumRun = is_some d.num_run
has_key d MaxComparisons = is_some d.max_comparisons
has_key d Workers = is_some d.workers
has_key d R = is_some d.r
has_key d S = is_some d.s
has_key d PRestart = is_some d.p_restart
has_key d CapFloor = is_some d.cap_floor
has_key d PairOrder = is_some d.pair_order

-- the draft with a key at what its value is read as
unfoldable pub with_value : Draft → Key → List ℕ → Result Draft ScenarioWhat
with_value d Algo text = text_of text >>= λ x. Ok (record d { algo = Some x })
with_value d Execdir text = text_of text >>= λ x. Ok (record d { execdir = Some x })
with_value d Deterministic text = flag_of text >>= λ x. Ok (record d { deterministic = Some x })
with_value d RunObj text = run_obj_of text >>= λ x. Ok (record d { run_obj = Some x })
with_value d OverallObj text = overall_of text >>= λ x. Ok (record d { overall_obj = Some x })
with_value d CutoffTime text = time_within 1 Limits.max_cutoff text >>= λ x. Ok (record d { cutoff_time = Some x })
with_value d CutoffLength text = cutoff_length_of text >>= λ x. Ok (record d { cutoff_length = Some x })
with_value d TunerTimeout text = Ok (record d { tuner_timeout = Some text })
with_value d Paramfile text = text_of text >>= λ x. Ok (record d { paramfile = Some x })
with_value d Outdir text = Ok (record d { outdir = Some text })
with_value d ValidN text = Ok (record d { valid_n = Some text })
with_value d InstanceFile text = text_of text >>= λ x. Ok (record d { instance_file = Some x })
with_value d TestInstanceFile text = text_of text >>= λ x. Ok (record d { test_instance_file = Some x })
with_value d Approach text = approach_of text >>= λ x. Ok (record d { approach = Some x })
with_value d N text = count_within 1 Limits.max_runs text >>= λ x. Ok (record d { n = Some x })
with_value d NumRun text = count_within 0 (2 ^ 32 - 1) text >>= λ x. Ok (record d { num_run = Some x })
with_value d MaxComparisons text = count_within 0 Limits.max_comparisons text >>= λ x. Ok (record d { max_comparisons = Some x })
with_value d Workers text = count_within 1 Limits.max_workers text >>= λ x. Ok (record d { workers = Some x })
with_value d R text = count_within 0 Limits.max_initial text >>= λ x. Ok (record d { r = Some x })
with_value d S text = count_within 1 Limits.max_strength text >>= λ x. Ok (record d { s = Some x })
with_value d PRestart text = share_of text >>= λ x. Ok (record d { p_restart = Some x })
with_value d CapFloor text = time_within 1 (2 ^ 64 - 1) text >>= λ x. Ok (record d { cap_floor = Some x })
with_value d PairOrder text = pair_order_of text >>= λ x. Ok (record d { pair_order = Some x })

-- the same, where the key wasn't given before
abbrev pub with_key : Draft → Key → List ℕ → Result Draft ScenarioWhat
with_key d k text = if has_key d k then Err Twice else with_value d k text

-- the draft with the key of this name at the value
abbrev pub with_name : Draft → List ℕ → List ℕ → Result Draft ScenarioWhat
with_name d name text = ok_or (key_of name) UnknownKey >>= λ k. with_key d k text
