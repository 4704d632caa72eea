use Rattle.std.proofs.Common.{◌≡◌, rules, sym, subst}
use Rattle.param_space.specs.Space.{defaults, Belongs}
use Rattle.param_space.specs.Faults.{IsSpace}
use Rattle.param_space.specs.Configurations.{IsConfig}
use Rattle.param_space.proofs.BelongsLemmas.{Belongs-defaults}
use Rattle.param_space.proofs.Soundness.{default_is_config}
use Rattle.param_space.proofs.space.Space.default_config.Goals as goal

pub returns-clause-belongs : goal.returns-clause-belongs
returns-clause-belongs c =
    let value : c.new.result ≡ defaults c.args.self.now.params = search rules in
    subst (Belongs c.args.self.now.params) (sym value) (Belongs-defaults c.args.self.now.params (search rules))

pub returns-clause-sound : goal.returns-clause-sound
returns-clause-sound c =
    let value : c.new.result ≡ defaults c.args.self.now.params = search rules in
    subst (IsConfig c.args.self.now) (sym value) (default_is_config c.args.self.now (subst IsSpace c.self.view_is c.self.invariant.0))
