-- From where the next comparison is made ready.
use Rattle.std.specs.Prelude.{ℕ, ◌<◌, ◌≤◌}
use Rattle.param_space.specs.Configurations.{IsConfig}
use Rattle.uncapped.specs.Procedure.{Settings}
use Rattle.ils_face.specs.Rules.{Rules}
use Rattle.ils_frame.specs.declared.moment.Moment.{Moment}

-- the search may go on from this configuration: it is one of the space, the comparisons that are begun are within the
-- budget, and there were fewer draws than so many
pub record GoesOnFrom (rules : Rules) (moment : Moment) (draws : ℕ) (θ : Settings) : Type 0 where
  pub config : IsConfig rules.space θ
  pub within : moment.compared ≤ rules.budget
  pub few : moment.event < draws
