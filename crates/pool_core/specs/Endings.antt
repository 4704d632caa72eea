-- How a board's search ended, or that it runs, what is shown then, and why it is aborted.
use Rattle.std.specs.Prelude.{◌≡◌, ◌≢◌, ◌≤◌, List, Option, Some, None, IsSomeAnd}
use Rattle.objective.specs.Bounds.{Bounds}
use Rattle.objective.specs.Costs.{Table}
use Rattle.objective.specs.declared.Outcome.{Outcome}
use Rattle.wrapper_lines.specs.declared.runs.Key.{Key}
use Rattle.uncapped.specs.Procedure.{Question}
use Rattle.uncapped.specs.Uncapped.{Run}
use Rattle.ils_face.specs.ProcedureAborts.{entries_of}
use Rattle.ils_face.specs.declared.asks.Ask.TheVariants.{End}
use Rattle.ils_face.specs.declared.asks.Reply.{Reply}
use Rattle.ils_face.specs.Rules.{Rules}
use Rattle.ils_face.specs.Steady.{Grows}
use Rattle.ils_face.specs.Traces.{question_of}
use Rattle.ils_face.specs.Views.{View}
use Rattle.run_cache.specs.declared.cell.Cell.{Cell}
use Rattle.capping.specs.Decisions.{IsFirstAbort}
use Rattle.board_steps.specs.Boards.{BoardState}
use Rattle.board_steps.specs.RepliedAsks.{quiet_by}
use Rattle.board_steps.specs.ShownEntries.{true_by, ShowsAll, ShowsAborted}
use Rattle.pool_core.specs.declared.board.Ending.{Ending}
use Rattle.pool_core.specs.declared.board.Ending.TheVariants.{Running, Finished, Aborted}

-- the ending of a board
abbrev pub IsEnding : (Rules → List Reply → View) → BoardState → Ending → Type 0
IsEnding shown b Running = (b.aborted ≡ None) × ((shown b.problem.rules b.replies).ask ≢ End)
IsEnding shown b Finished = (b.aborted ≡ None) × ((shown b.problem.rules b.replies).ask ≡ End)
IsEnding shown b (Aborted cell) = b.aborted ≡ Some cell.now

-- what is shown at an ending, beside the procedure over the truth and the whole one, where each abort counts as unsolved:
-- the first entries of the whole one; at the end all of them and its last line, and where a run aborted all of the procedure's
abbrev pub ShowsEnding : View → Run → Run → Ending → Type 0
ShowsEnding view run whole Running = Grows view.entries (entries_of whole)
ShowsEnding view run whole Finished = ShowsAll view run whole
ShowsEnding view run whole (Aborted cell) = ShowsAborted view run whole

-- what a board shows at an ending, beside the procedure over a truth
abbrev pub ShowsTruth : (Rules → List Reply → View) → (Rules → Table → Run) → Option (Key → Outcome) → BoardState → Ending → Type 0
ShowsTruth shown procedure truth b e =
    ShowsEnding (shown b.problem.rules b.replies) (true_by procedure truth b.problem) (quiet_by procedure truth b.problem) e

-- the question is of the cell's configuration on at least its place, and its run there is the first that aborts: a cutoff is
-- due for it, and no run at a lower place aborts
pub record AbortsAt (limits : Bounds) (T : Table) (cell : Cell) (question : Question) : Type 0 where
  pub config : question.config ≡ cell.config
  pub place : cell.place ≤ question.places
  pub first : IsFirstAbort limits T cell.place question

-- over this table the run of the cell is the first one of a board's present ask that aborts
abbrev pub AbortsFirst : (Rules → List Reply → View) → Table → BoardState → Cell → Type 0
AbortsFirst shown T b cell = IsSomeAnd (question_of (shown b.problem.rules b.replies).ask) (AbortsAt b.problem.rules.limits T cell)

-- an ending by an abort is one over this table
abbrev pub IsTrueAbort : (Rules → List Reply → View) → Table → BoardState → Ending → Type 0
IsTrueAbort shown T b Running = Unit {0}
IsTrueAbort shown T b Finished = Unit {0}
IsTrueAbort shown T b (Aborted cell) = AbortsFirst shown T b cell.now
