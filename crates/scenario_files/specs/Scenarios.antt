-- A scenario from a file and words: each key is taken of the words, else of the file, else by default.
use Rattle.std.specs.Prelude.{ℕ, false, List, Option, Result, Ok, ok_or, codes}
use Rattle.std.specs.Option.{option_or, unwrap_or}
use Rattle.objective.specs.declared.Micros.{Micros}
use Rattle.plain_text.specs.Faults.{LineFault, in_line}
use Rattle.plain_text.specs.Results.{◌>>=◌}
use Rattle.scenario_files.specs.Limits.{max_length}
use Rattle.scenario_files.specs.declared.draft.Draft.{Draft}
use Rattle.scenario_files.specs.declared.draft.Approach.TheVariants.{Focused}
use Rattle.scenario_files.specs.declared.draft.Overall.TheVariants.{Mean}
use Rattle.scenario_files.specs.declared.draft.PairOrder.TheVariants.{Shuffled}
use Rattle.scenario_files.specs.declared.draft.RunObj.TheVariants.{Runtime}
use Rattle.scenario_files.specs.declared.faults.ScenarioWhat.{ScenarioWhat}
use Rattle.scenario_files.specs.declared.faults.ScenarioWhat.TheVariants.{Missing}
use Rattle.scenario_files.specs.declared.filling.Essentials.{Essentials}
use Rattle.scenario_files.specs.declared.filling.Scenario.{Scenario}

-- each key of the first draft, or else of the second
abbrev pub draft_or : Draft → Draft → Draft
draft_or d e = record {
  algo = option_or d.algo e.algo;
  execdir = option_or d.execdir e.execdir;
  deterministic = option_or d.deterministic e.deterministic;
  run_obj = option_or d.run_obj e.run_obj;
  overall_obj = option_or d.overall_obj e.overall_obj;
  cutoff_time = option_or d.cutoff_time e.cutoff_time;
  cutoff_length = option_or d.cutoff_length e.cutoff_length;
  tuner_timeout = option_or d.tuner_timeout e.tuner_timeout;
  paramfile = option_or d.paramfile e.paramfile;
  outdir = option_or d.outdir e.outdir;
  valid_n = option_or d.valid_n e.valid_n;
  instance_file = option_or d.instance_file e.instance_file;
  test_instance_file = option_or d.test_instance_file e.test_instance_file;
  approach = option_or d.approach e.approach;
  n = option_or d.n e.n;
  num_run = option_or d.num_run e.num_run;
  max_comparisons = option_or d.max_comparisons e.max_comparisons;
  workers = option_or d.workers e.workers;
  r = option_or d.r e.r;
  s = option_or d.s e.s;
  p_restart = option_or d.p_restart e.p_restart;
  cap_floor = option_or d.cap_floor e.cap_floor;
  pair_order = option_or d.pair_order e.pair_order;
}

-- the keys that have no default, each of which must be given
abbrev pub essentials_of : Option (List ℕ) → Option Micros → Option (List ℕ) → Option (List ℕ) → Result Essentials ScenarioWhat
essentials_of algo cutoff_time paramfile instance_file = do
  a ← ok_or algo Missing
  t ← ok_or cutoff_time Missing
  p ← ok_or paramfile Missing
  i ← ok_or instance_file Missing
  Ok (record { algo = a; cutoff_time = t; paramfile = p; instance_file = i })

-- a draft as a scenario, with the defaults of the other keys
abbrev pub with_defaults : Draft → Essentials → Scenario
with_defaults d e = record {
  algo = e.algo;
  execdir = unwrap_or d.execdir (codes ".");
  deterministic = unwrap_or d.deterministic false;
  run_obj = unwrap_or d.run_obj Runtime;
  overall_obj = unwrap_or d.overall_obj Mean;
  cutoff_time = e.cutoff_time;
  cutoff_length = unwrap_or d.cutoff_length max_length;
  tuner_timeout = d.tuner_timeout;
  paramfile = e.paramfile;
  outdir = d.outdir;
  valid_n = d.valid_n;
  instance_file = e.instance_file;
  test_instance_file = d.test_instance_file;
  approach = unwrap_or d.approach Focused;
  n = unwrap_or d.n 100;
  num_run = unwrap_or d.num_run 0;
  max_comparisons = unwrap_or d.max_comparisons 1000;
  workers = unwrap_or d.workers 1;
  r = unwrap_or d.r 10;
  s = unwrap_or d.s 3;
  p_restart = unwrap_or d.p_restart 100;
  cap_floor = unwrap_or d.cap_floor (record { 0 = 100000 });
  pair_order = unwrap_or d.pair_order Shuffled;
}

-- the scenario of a draft, or that a key without a default is missing
unfoldable pub scenario_of : Draft → Result Scenario ScenarioWhat
scenario_of d = essentials_of d.algo d.cutoff_time d.paramfile d.instance_file >>= λ e. Ok (with_defaults d e)

-- the scenario of a file's keys and of words', which go before
abbrev pub filled_scenario : Draft → Draft → Result Scenario (LineFault ScenarioWhat)
filled_scenario file words = in_line 0 (scenario_of (draft_or words file))
