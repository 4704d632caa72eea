-- What bounds and prices a run, as plain numbers of microseconds.
use Rattle.std.specs.Prelude.{ℕ, ◌≤◌}
use Rattle.objective.specs.Limits.{max_cutoff}
use Rattle.objective.specs.declared.Factor.{Factor}

pub record Bounds : Type 0 where
  pub cutoff : ℕ  -- a run is given no more time
  pub factor : Factor  -- an unsolved run costs so many cutoffs
  pub floor : ℕ  -- no cutoff is shortened below

-- the limits that a scenario may set
pub record AreInRange (cutoff floor : ℕ) : Type 0 where
  pub floor_positive : 1 ≤ floor
  pub floor_at_most_cutoff : floor ≤ cutoff
  pub cutoff_in_range : cutoff ≤ max_cutoff
