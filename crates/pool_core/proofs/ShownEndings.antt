-- What a board shows at its ending, and why it is aborted.
use Rattle.std.proofs.Common.{◌≤◌, List, Option, IsSome}
use Rattle.std.specs.Prelude.{IsSomeAnd}
use Rattle.objective.specs.Bounds.{Bounds}
use Rattle.objective.specs.Costs.{Table}
use Rattle.objective.specs.declared.Outcome.{Outcome}
use Rattle.wrapper_lines.specs.declared.runs.Key.{Key}
use Rattle.uncapped.specs.Totals.{quiet}
use Rattle.uncapped.specs.Uncapped.{Run}
use Rattle.ils_face.specs.ProcedureAborts.{MeetsAborts}
use Rattle.ils_face.specs.declared.asks.Ask.{Ask}
use Rattle.ils_face.specs.declared.asks.Ask.TheVariants.{Full, Versus, End}
use Rattle.ils_face.specs.declared.asks.Reply.{Reply}
use Rattle.ils_face.specs.Follows.{Follows, sums_under}
use Rattle.ils_face.specs.Rules.{Rules, AreRules}
use Rattle.ils_face.specs.Steady.{IsSteady}
use Rattle.ils_face.specs.Traces.{question_of}
use Rattle.ils_face.specs.Views.{View}
use Rattle.run_cache.specs.declared.cell.Cell.{Cell}
use Rattle.capping.specs.Decisions.{place_count}
use Rattle.board_steps.specs.BoardInvariant.{BoardInvariant}
use Rattle.board_steps.specs.Boards.{BoardState, plain_board}
use Rattle.board_steps.specs.ProblemRuns.{table_of}
use Rattle.board_steps.proofs.AbortedBoards.{IsFirstAborting}
use Rattle.board_steps.proofs.ToldEntries.{told-abort, told-entries, told-finished, told-aborted}
use Rattle.pool_core.specs.declared.board.Ending.{Ending}
use Rattle.pool_core.specs.declared.board.Ending.TheVariants.{Running, Finished, Aborted}
use Rattle.pool_core.specs.Endings.{AbortsAt, IsEnding, IsTrueAbort, ShowsTruth}

-- what is shown where a truth is told, by the ending
pub ending-shows : (shown : Rules → List Reply → View) (procedure : Rules → Table → Run) (truth : Option (Key → Outcome))
    → ((rules : Rules) (T : Table) → AreRules rules → Follows (shown rules) (sums_under rules T) (procedure rules T))
    → ((rules : Rules) → AreRules rules → IsSteady rules (shown rules))
    → ((rules : Rules) (T : Table) → AreRules rules → MeetsAborts (sums_under rules T) (procedure rules T) (procedure rules (quiet T)))
    → (b : BoardState) (e : Ending) → IsEnding shown b e → BoardInvariant shown procedure truth b → IsSome truth
    → ShowsTruth shown procedure truth b e
ending-shows shown procedure truth follows steady aborts b Running is inv told = told-entries shown procedure truth follows steady b told inv
ending-shows shown procedure truth follows steady aborts b Finished is inv told = told-finished shown procedure truth follows steady aborts b is.1 told inv
ending-shows shown procedure truth follows steady aborts b (Aborted cell) is inv told = told-aborted shown procedure truth follows steady aborts b cell.now is told inv

-- an ask's question comes to the run of the cell, which aborts first
aborts-at : (limits : Bounds) (T : Table) (ask : Ask) (cell : Cell) → cell.place ≤ place_count ask → IsSomeAnd (question_of ask) (IsFirstAborting limits T cell)
    → IsSomeAnd (question_of ask) (AbortsAt limits T cell)
aborts-at limits T (Full θ n) cell within h = record { config = h.config; place = within; first = h.first }
aborts-at limits T (Versus θ n bound) cell within h = record { config = h.config; place = within; first = h.first }
aborts-at limits T End cell within h = absurd h

-- why a board is aborted where a truth is told, by the ending
pub ending-aborts : (shown : Rules → List Reply → View) (procedure : Rules → Table → Run) (truth : Option (Key → Outcome))
    → (b : BoardState) (e : Ending) → IsEnding shown b e → BoardInvariant shown procedure truth b → IsSome truth → IsTrueAbort shown (table_of truth b.problem) b e
unfolding plain_board
ending-aborts shown procedure truth b Running is inv told = tt
ending-aborts shown procedure truth b Finished is inv told = tt
ending-aborts shown procedure truth b (Aborted cell) is inv told =
    aborts-at b.problem.rules.limits (table_of truth b.problem) (shown b.problem.rules b.replies).ask cell.now (inv.aborting.at cell.now is).within
    (told-abort shown procedure truth b cell.now is told inv)
