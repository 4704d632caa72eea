-- What a board shows of the procedure's entries: on the way, at the end, and where a run aborts.
use Rattle.std.specs.Prelude.{◌≡◌, Option}
use Rattle.objective.specs.Costs.{Table}
use Rattle.objective.specs.declared.Outcome.{Outcome}
use Rattle.wrapper_lines.specs.declared.runs.Key.{Key}
use Rattle.uncapped.specs.Procedure.{Finished, Aborted}
use Rattle.uncapped.specs.Uncapped.{Run}
use Rattle.ils_face.specs.ProcedureAborts.{entries_of}
use Rattle.ils_face.specs.Rules.{Rules}
use Rattle.ils_face.specs.Steady.{Grows}
use Rattle.ils_face.specs.Traces.{IsFinal}
use Rattle.ils_face.specs.Views.{View}
use Rattle.board_steps.specs.Problem.{Problem}
use Rattle.board_steps.specs.ProblemRuns.{table_of}

-- the run of a procedure over a problem's truth
abbrev pub true_by : (Rules → Table → Run) → Option (Key → Outcome) → Problem → Run
true_by procedure truth problem = procedure problem.rules (table_of truth problem)

-- all entries of the procedure where each abort counts as unsolved are shown, and its last line; the first ones are those of
-- the procedure itself, which comes to the same where it finishes
pub record ShowsAll (view : View) (run whole : Run) : Type 0 where
  pub final : IsFinal view whole
  pub first : Grows (entries_of run) view.entries
  pub same : run.end ≡ Finished → IsFinal view run

-- the procedure is aborted, its entries are the first ones of those that are shown, and these are the first ones of the
-- procedure where each abort counts as unsolved
pub record ShowsAborted (view : View) (run whole : Run) : Type 0 where
  pub aborted : run.end ≡ Aborted
  pub first : Grows (entries_of run) view.entries
  pub shown : Grows view.entries (entries_of whole)
