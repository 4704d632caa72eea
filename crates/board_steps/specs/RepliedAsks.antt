-- The replies of a board are those of the procedure, where each abort counts as unsolved.
use Rattle.std.specs.Prelude.{Option}
use Rattle.objective.specs.Costs.{Table}
use Rattle.objective.specs.declared.Outcome.{Outcome}
use Rattle.wrapper_lines.specs.declared.runs.Key.{Key}
use Rattle.uncapped.specs.Procedure.{Sums}
use Rattle.uncapped.specs.Totals.{quiet}
use Rattle.uncapped.specs.Uncapped.{Run}
use Rattle.ils_face.specs.Follows.{sums_under}
use Rattle.ils_face.specs.Rules.{Rules}
use Rattle.ils_face.specs.Traces.{IsTraced}
use Rattle.board_steps.specs.Boards.{PlainBoard}
use Rattle.board_steps.specs.Problem.{Problem}
use Rattle.board_steps.specs.ProblemRuns.{table_of}

-- the total costs of a problem, where each abort counts as unsolved
abbrev pub quiet_sums : Option (Key → Outcome) → Problem → Sums
quiet_sums truth problem = sums_under problem.rules (quiet (table_of truth problem))

-- the run of a procedure over the same
abbrev pub quiet_by : (Rules → Table → Run) → Option (Key → Outcome) → Problem → Run
quiet_by procedure truth problem = procedure problem.rules (quiet (table_of truth problem))

-- the replies are those to the first asks of the procedure
pub record AreReplied (procedure : Rules → Table → Run) (truth : Option (Key → Outcome)) (b : PlainBoard) : Type 0 where
  pub traced : IsTraced (quiet_sums truth b.problem) (quiet_by procedure truth b.problem) b.replies
