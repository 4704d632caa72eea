-- What a board knows agrees with the outcomes of its problem.
use Rattle.std.specs.Prelude.{ℕ, ◌≡◌, List, Option, Some, All}
use Rattle.objective.specs.Costs.{Table, seen}
use Rattle.objective.specs.declared.Answer.{Answer}
use Rattle.objective.specs.declared.Outcome.{Outcome}
use Rattle.wrapper_lines.specs.declared.runs.Key.{Key}
use Rattle.run_cache.specs.Knowledge.{Agrees}
use Rattle.run_cache.specs.Runs.{CellRun}
use Rattle.board_steps.specs.Boards.{PlainBoard}
use Rattle.board_steps.specs.declared.tickets.Ticket.{Ticket}
use Rattle.board_steps.specs.ProblemRuns.{table_of}
use Rattle.board_steps.specs.JournalRuns.{runs_of}

-- the run shows what its cell's outcome does under its cutoff
abbrev pub IsShown : Table → CellRun → Type 0
IsShown T run = run.answer ≡ seen (T run.cell.config run.cell.place) run.cutoff

-- where a truth is told, the answer is what it shows of the ticket's run
abbrev pub IsTold : Option (Key → Outcome) → Ticket → Answer → Type 0
IsTold truth t answer = (outcome : Key → Outcome) → truth ≡ Some outcome → answer ≡ seen (outcome t.run.key) t.run.cutoff.0

-- what is known of each cell agrees with its outcome, no run contradicted what was known, and each recorded run shows its
-- cell's outcome
pub record IsAgreeing (truth : Option (Key → Outcome)) (b : PlainBoard) : Type 0 where
  pub known : (config : List ℕ) (place : ℕ) → Agrees b.problem.rules.limits (b.known config place) (table_of truth b.problem config place)
  pub conflicts : b.conflicts ≡ 0
  pub shown : All (IsShown (table_of truth b.problem)) (runs_of b.journal)
