-- A scenario of keys within their limits lies within its limits.
use Rattle.std.specs.Prelude.{ℕ, ◌≡◌, ◌^◌, ◌-◌, List, Option, Some, None, Result, Ok, Err, IfSome, refl, codes}
use Rattle.std.specs.Option.{option_or, unwrap_or}
use Rattle.std.proofs.Common.{arith, subst}
use Rattle.objective.specs.Limits
use Rattle.objective.specs.declared.Micros.{Micros}
use Rattle.plain_text.specs.Results.{◌>>=◌}
use Rattle.scenario_files.specs.declared.draft.Draft.{Draft}
use Rattle.scenario_files.specs.declared.faults.ScenarioWhat.{ScenarioWhat}
use Rattle.scenario_files.specs.declared.filling.Essentials.{Essentials}
use Rattle.scenario_files.specs.declared.filling.Scenario.{Scenario}
use Rattle.scenario_files.specs.Limits.{max_length}
use Rattle.scenario_files.specs.Ranges.{IsFrom, IsTime, IsFilled, AreWithin, IsScenarioWithin}
use Rattle.scenario_files.specs.Scenarios.{draft_or, essentials_of, with_defaults, scenario_of}
use Rattle.scenario_files.proofs.ValueRanges.{same_ok}

first_within : {A : Type 0} (P : A → Type 0) (x y : Option A) → IfSome x P → IfSome y P → IfSome (option_or x y) P
first_within P None y h k = k
first_within P (Some x) y h k = h

default_within : {A : Type 0} (P : A → Type 0) (x : Option A) (default : A) → IfSome x P → P default → P (unwrap_or x default)
default_within P None default h k = k
default_within P (Some x) default h k = h

draft_or_within : (d e : Draft) → AreWithin d → AreWithin e → AreWithin (draft_or d e)
draft_or_within d e w v = record {
  algo = first_within IsFilled d.algo e.algo w.algo v.algo;
  execdir = first_within IsFilled d.execdir e.execdir w.execdir v.execdir;
  cutoff_time = first_within (IsTime 1 Limits.max_cutoff) d.cutoff_time e.cutoff_time w.cutoff_time v.cutoff_time;
  cutoff_length = first_within (IsFrom 0 max_length) d.cutoff_length e.cutoff_length w.cutoff_length v.cutoff_length;
  paramfile = first_within IsFilled d.paramfile e.paramfile w.paramfile v.paramfile;
  instance_file = first_within IsFilled d.instance_file e.instance_file w.instance_file v.instance_file;
  test_instance_file = first_within IsFilled d.test_instance_file e.test_instance_file w.test_instance_file v.test_instance_file;
  n = first_within (IsFrom 1 Limits.max_runs) d.n e.n w.n v.n;
  num_run = first_within (IsFrom 0 (2 ^ 32 - 1)) d.num_run e.num_run w.num_run v.num_run;
  max_comparisons = first_within (IsFrom 0 Limits.max_comparisons) d.max_comparisons e.max_comparisons w.max_comparisons v.max_comparisons;
  workers = first_within (IsFrom 1 Limits.max_workers) d.workers e.workers w.workers v.workers;
  r = first_within (IsFrom 0 Limits.max_initial) d.r e.r w.r v.r;
  s = first_within (IsFrom 1 Limits.max_strength) d.s e.s w.s v.s;
  p_restart = first_within (IsFrom 0 Limits.max_restart) d.p_restart e.p_restart w.p_restart v.p_restart;
  cap_floor = first_within (IsTime 1 (2 ^ 64 - 1)) d.cap_floor e.cap_floor w.cap_floor v.cap_floor;
}

-- the keys without a default lie within their limits
record AreEssentialsWithin (e : Essentials) : Type 0 where
  algo : IsFilled e.algo
  cutoff_time : IsTime 1 Limits.max_cutoff e.cutoff_time
  paramfile : IsFilled e.paramfile
  instance_file : IsFilled e.instance_file

essentials_within : (algo : Option (List ℕ)) (time : Option Micros) (params instances : Option (List ℕ)) (e : Essentials) → IfSome algo IsFilled → IfSome time (IsTime 1 Limits.max_cutoff) → IfSome params IsFilled → IfSome instances IsFilled
    → essentials_of algo time params instances ≡ Ok e → AreEssentialsWithin e
essentials_within None time params instances e ha ht hp hi h = absurd (cc)
essentials_within (Some a) None params instances e ha ht hp hi h = absurd (cc)
essentials_within (Some a) (Some t) None instances e ha ht hp hi h = absurd (cc)
essentials_within (Some a) (Some t) (Some p) None e ha ht hp hi h = absurd (cc)
essentials_within (Some a) (Some t) (Some p) (Some i) e ha ht hp hi h =
    subst AreEssentialsWithin (same_ok (record { algo = a; cutoff_time = t; paramfile = p; instance_file = i }) e h)
    (record { algo = ha; cutoff_time = ht; paramfile = hp; instance_file = hi })

defaults_within : (d : Draft) (e : Essentials) → AreWithin d → AreEssentialsWithin e → IsScenarioWithin (with_defaults d e)
defaults_within d e w v = record {
  algo = v.algo;
  execdir = default_within IsFilled d.execdir (codes ".") w.execdir refl;
  cutoff_time = v.cutoff_time;
  cutoff_length = default_within (IsFrom 0 max_length) d.cutoff_length max_length w.cutoff_length (omega arith, omega arith);
  paramfile = v.paramfile;
  instance_file = v.instance_file;
  test_instance_file = w.test_instance_file;
  n = default_within (IsFrom 1 Limits.max_runs) d.n 100 w.n (omega arith, omega arith);
  num_run = default_within (IsFrom 0 (2 ^ 32 - 1)) d.num_run 0 w.num_run (omega arith, omega arith);
  max_comparisons = default_within (IsFrom 0 Limits.max_comparisons) d.max_comparisons 1000 w.max_comparisons (omega arith, omega arith);
  workers = default_within (IsFrom 1 Limits.max_workers) d.workers 1 w.workers (omega arith, omega arith);
  r = default_within (IsFrom 0 Limits.max_initial) d.r 10 w.r (omega arith, omega arith);
  s = default_within (IsFrom 1 Limits.max_strength) d.s 3 w.s (omega arith, omega arith);
  p_restart = default_within (IsFrom 0 Limits.max_restart) d.p_restart 100 w.p_restart (omega arith, omega arith);
  cap_floor = default_within (IsTime 1 (2 ^ 64 - 1)) d.cap_floor (record { 0 = 100000 }) w.cap_floor (omega arith, omega arith);
}

-- a scenario of a draft within its limits
pub scenario_within : (d : Draft) (x : Scenario) → AreWithin d → scenario_of d ≡ Ok x → IsScenarioWithin x
unfolding scenario_of
scenario_within d x w h = by (essentials_of d.algo d.cutoff_time d.paramfile d.instance_file) refl h
  where
    by : (r : Result Essentials ScenarioWhat) → essentials_of d.algo d.cutoff_time d.paramfile d.instance_file ≡ r → (r >>= λ e. Ok (with_defaults d e)) ≡ Ok x → IsScenarioWithin x
    by (Err what) is h = absurd (cc)
    by (Ok e) is h =
        let v = essentials_within d.algo d.cutoff_time d.paramfile d.instance_file e w.algo w.cutoff_time w.paramfile w.instance_file is in
        subst IsScenarioWithin (same_ok (with_defaults d e) x h) (defaults_within d e w v)

-- a scenario of two drafts within their limits
pub filled_within : (file words : Draft) (x : Scenario) → AreWithin file → AreWithin words → scenario_of (draft_or words file) ≡ Ok x → IsScenarioWithin x
filled_within file words x f w h = scenario_within (draft_or words file) x (draft_or_within words file w f) h
