-- Why Aborted is answered: a cell whose run aborts, and an ask that comes to it.
use Rattle.std.specs.Prelude.{◌≤◌, Option, IsSome, IsSomeAnd}
use Rattle.objective.specs.declared.Outcome.{Outcome}
use Rattle.param_space.specs.Configurations.{IsConfig}
use Rattle.wrapper_lines.specs.declared.runs.Key.{Key}
use Rattle.uncapped.specs.Procedure.{Question}
use Rattle.run_cache.specs.declared.cell.Cell.{Cell}
use Rattle.board_steps.specs.Problem.{Problem}
use Rattle.board_steps.specs.ProblemRuns.{table_of}
use Rattle.pool_core.specs.Endings.{AbortsAt}

-- a cell of the problem: an allowed canonical configuration at a place of a comparison
pub record IsCell (problem : Problem) (cell : Cell) : Type 0 where
  pub sound : IsConfig problem.rules.space cell.config
  pub first : 1 ≤ cell.place
  pub last : cell.place ≤ problem.rules.max_runs

-- this cell of the problem is why Aborted is answered: where a truth is told, its run is the first one of this question that
-- aborts
pub record IsAbortCause (problem : Problem) (truth : Option (Key → Outcome)) (question : Option Question) (cell : Cell)
    : Type 0 where
  pub in_problem : IsCell problem cell
  pub aborts : IsSome truth → IsSomeAnd question (AbortsAt problem.rules.limits (table_of truth problem) cell)
