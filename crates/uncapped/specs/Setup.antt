-- What the uncapped procedure knows beside the sums.
use Rattle.std.specs.Prelude.{ℕ, Bool, List, Option}
use Rattle.uncapped.specs.Procedure.{Settings}

-- the rules of a tuning, as the procedure sees them
pub record Setup : Type 0 where
  pub start : Settings  -- the default configuration
  pub max_runs : ℕ  -- the places of a comparison, at most
  pub budget : ℕ  -- the comparisons of a tuning
  pub initial : ℕ  -- the random configurations that the default is compared with at first
  pub strength : ℕ  -- the random steps of a perturbation
  pub neighbours : Settings → List Settings
  -- draws, by the number of their event
  pub in_order : ℕ → List Settings → List Settings
  pub one_of : ℕ → List Settings → Option Settings
  pub random : ℕ → Settings
  pub coin : ℕ → Bool
