-- What a board knows lies in its range.
use Rattle.std.specs.Prelude.{ℕ, List}
use Rattle.run_cache.specs.Knowledge.{IsInRange}
use Rattle.board_steps.specs.Boards.{PlainBoard}

-- what is known of each cell lies in the range of the problem's limits
pub record IsRanged (b : PlainBoard) : Type 0 where
  pub known : (config : List ℕ) (place : ℕ) → IsInRange b.problem.rules.limits (b.known config place)
