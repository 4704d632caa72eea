-- The numbers that the uncapped procedure knows are those of the rules.
use Rattle.std.specs.Prelude.{◌≡◌, refl}
use Rattle.param_space.specs.Space.{defaults}
use Rattle.uncapped.specs.Setup.{Setup}
use Rattle.ils_face.specs.Rules.{Rules}
use Rattle.ils_face.specs.Setups.{setup_of}

-- what does not need the draws
pub record SetupOf (rules : Rules) (setup : Setup) : Type 0 where
  pub start : setup.start ≡ defaults rules.space.params
  pub max_runs : setup.max_runs ≡ rules.max_runs
  pub budget : setup.budget ≡ rules.budget
  pub initial : setup.initial ≡ rules.initial
  pub strength : setup.strength ≡ rules.strength

pub setup_of-numbers : (rules : Rules) → SetupOf rules (setup_of rules)
unfolding setup_of
setup_of-numbers rules = record { start = refl; max_runs = refl; budget = refl; initial = refl; strength = refl }
