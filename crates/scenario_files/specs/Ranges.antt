-- From what to what each key's value may be, in drafts, words and scenarios.
use Rattle.std.specs.Prelude.{ℕ, ◌≡◌, ◌≤◌, ◌^◌, ◌-◌, false, List, IfSome}
use Rattle.std.specs.List.{list_all}
use Rattle.objective.specs.declared.Micros.{Micros}
use Rattle.objective.specs.Limits
use Rattle.plain_text.specs.Words.{is_blank}
use Rattle.scenario_files.specs.Limits.{max_length}
use Rattle.scenario_files.specs.declared.call.Words.{Words}
use Rattle.scenario_files.specs.declared.draft.Draft.{Draft}
use Rattle.scenario_files.specs.declared.filling.Scenario.{Scenario}

-- a number from one to another
abbrev pub IsFrom : ℕ → ℕ → ℕ → Type 0
IsFrom low high n = (low ≤ n) × (n ≤ high)

-- a time from one number of microseconds to another
abbrev pub IsTime : ℕ → ℕ → Micros → Type 0
IsTime low high t = IsFrom low high t.0

-- a text that isn't of blanks alone
abbrev pub IsFilled : List ℕ → Type 0
IsFilled text = list_all is_blank text ≡ false

-- the keys that a draft has lie within their limits
pub record AreWithin (d : Draft) : Type 0 where
  pub algo : IfSome d.algo IsFilled
  pub execdir : IfSome d.execdir IsFilled
  pub cutoff_time : IfSome d.cutoff_time (IsTime 1 Limits.max_cutoff)
  pub cutoff_length : IfSome d.cutoff_length (IsFrom 0 max_length)
  pub paramfile : IfSome d.paramfile IsFilled
  pub instance_file : IfSome d.instance_file IsFilled
  pub test_instance_file : IfSome d.test_instance_file IsFilled
  pub n : IfSome d.n (IsFrom 1 Limits.max_runs)
  pub num_run : IfSome d.num_run (IsFrom 0 (2 ^ 32 - 1))
  pub max_comparisons : IfSome d.max_comparisons (IsFrom 0 Limits.max_comparisons)
  pub workers : IfSome d.workers (IsFrom 1 Limits.max_workers)
  pub r : IfSome d.r (IsFrom 0 Limits.max_initial)
  pub s : IfSome d.s (IsFrom 1 Limits.max_strength)
  pub p_restart : IfSome d.p_restart (IsFrom 0 Limits.max_restart)
  pub cap_floor : IfSome d.cap_floor (IsTime 1 (2 ^ 64 - 1))

-- the file's name isn't blank, and the keys of words lie within their limits
pub record AreWordsWithin (w : Words) : Type 0 where
  pub scenario_file : IsFilled w.scenario_file
  pub draft : AreWithin w.draft

-- the values of a scenario lie within their limits
pub record IsScenarioWithin (x : Scenario) : Type 0 where
  pub algo : IsFilled x.algo
  pub execdir : IsFilled x.execdir
  pub cutoff_time : IsTime 1 Limits.max_cutoff x.cutoff_time
  pub cutoff_length : IsFrom 0 max_length x.cutoff_length
  pub paramfile : IsFilled x.paramfile
  pub instance_file : IsFilled x.instance_file
  pub test_instance_file : IfSome x.test_instance_file IsFilled
  pub n : IsFrom 1 Limits.max_runs x.n
  pub num_run : IsFrom 0 (2 ^ 32 - 1) x.num_run
  pub max_comparisons : IsFrom 0 Limits.max_comparisons x.max_comparisons
  pub workers : IsFrom 1 Limits.max_workers x.workers
  pub r : IsFrom 0 Limits.max_initial x.r
  pub s : IsFrom 1 Limits.max_strength x.s
  pub p_restart : IsFrom 0 Limits.max_restart x.p_restart
  pub cap_floor : IsTime 1 (2 ^ 64 - 1) x.cap_floor
