-- The rules of a search as plain numbers and lists.
use Rattle.std.specs.Prelude.{ℕ, ◌≤◌, ◌<◌, ◌^◌, List, [], ◌∷◌}
use Rattle.objective.specs.Bounds.{Bounds, AreInRange}
use Rattle.objective.specs.Limits
use Rattle.param_space.specs.Space.{Lists}
use Rattle.param_space.specs.Faults.{IsSpace}

-- what a search goes by
pub record Rules : Type 0 where
  pub space : Lists
  pub seed : ℕ
  pub max_runs : ℕ  -- the pairs of a comparison, at most
  pub budget : ℕ  -- the comparisons of a tuning
  pub initial : ℕ  -- the random configurations at first
  pub strength : ℕ  -- the random steps of a perturbation
  pub restart : ℕ  -- in ten-thousandths
  pub limits : Bounds
  pub workers : ℕ

-- the numbers among the rules
abbrev pub numbers_of : Rules → List ℕ
numbers_of rules =
    rules.seed ∷ rules.max_runs ∷ rules.budget ∷ rules.initial ∷ rules.strength ∷ rules.restart ∷ rules.workers ∷ []

-- the lists make a space, and each number is within its limits
pub record AreRules (rules : Rules) : Type 0 where
  pub space : IsSpace rules.space
  pub limits : AreInRange rules.limits.cutoff rules.limits.floor
  pub seed_in_range : rules.seed < 2 ^ 32
  pub some_run : 1 ≤ rules.max_runs
  pub runs_in_range : rules.max_runs ≤ Limits.max_runs
  pub budget_in_range : rules.budget ≤ Limits.max_comparisons
  pub initial_in_range : rules.initial ≤ Limits.max_initial
  pub some_step : 1 ≤ rules.strength
  pub strength_in_range : rules.strength ≤ Limits.max_strength
  pub restart_in_range : rules.restart ≤ Limits.max_restart
  pub some_worker : 1 ≤ rules.workers
  pub workers_in_range : rules.workers ≤ Limits.max_workers
