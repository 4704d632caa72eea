-- What a search comes to that made all comparisons, or that a child aborts.
use Rattle.std.specs.Prelude.{◌≡◌, List, map, Option, IsSome}
use Rattle.objective.specs.declared.Outcome.{Outcome}
use Rattle.wrapper_lines.specs.declared.runs.Key.{Key}
use Rattle.param_space.specs.Configurations.{IsConfig}
use Rattle.uncapped.specs.Procedure.{Incumbent, Finished, Aborted}
use Rattle.uncapped.specs.Uncapped.{Run}
use Rattle.ils_face.specs.ProcedureAborts.{entries_of}
use Rattle.ils_face.specs.Rules.{Rules}
use Rattle.ils_face.specs.Steady.{Grows}
use Rattle.ils_face.specs.Trajectories.{IsTrajectory, newest}
use Rattle.tuner.specs.Tasks.{true_run, quiet_run}
use Rattle.tune_front.specs.declared.task.Task.{Task}

-- entries and a last line of a search under these rules that made all comparisons
pub record IsSearched (rules : Rules) (entries : List Incumbent) (last : Incumbent) : Type 0 where
  pub trajectory : IsTrajectory rules.max_runs (IsConfig rules.space) entries last
  pub opened : IsSome (newest entries)
  pub spent : last.compared ≡ rules.budget

-- a run of the procedure finished with these entries and this last line
pub record RanTo (run : Run) (entries : List Incumbent) (last : Incumbent) : Type 0 where
  pub finished : run.end ≡ Finished
  pub all : entries ≡ map (λ added. added.entry) run.entries
  pub end : last ≡ run.last

-- where a truth is told, these are the first entries of the uncapped procedure over it with each abort as unsolved
abbrev pub AreFirst : Task → Option (Key → Outcome) → List Incumbent → Type 0
AreFirst task truth entries = IsSome truth → Grows entries (entries_of (quiet_run truth task))

-- what a search of a task comes to that made all comparisons: where a truth is told, what the uncapped procedure comes
-- to over it with each abort as unsolved; over the truth itself it comes to the same where it finishes, else to first entries
pub record IsTrajectoryOf (task : Task) (truth : Option (Key → Outcome)) (entries : List Incumbent) (last : Incumbent)
    : Type 0 where
  pub searched : IsSearched task.problem.rules entries last
  pub quiet : IsSome truth → RanTo (quiet_run truth task) entries last
  pub told : IsSome truth → (true_run truth task).end ≡ Finished → RanTo (true_run truth task) entries last
  pub holds : IsSome truth → Grows (entries_of (true_run truth task)) entries

-- what a search of a task comes to that a child aborts: where a truth is told, so is the uncapped procedure, whose
-- entries come first
pub record IsStoppedSearch (task : Task) (truth : Option (Key → Outcome)) (entries : List Incumbent) : Type 0 where
  pub first : AreFirst task truth entries
  pub holds : IsSome truth → Grows (entries_of (true_run truth task)) entries
  pub aborted : IsSome truth → (true_run truth task).end ≡ Aborted
