use Rattle.std.proofs.Common.{◌≡◌, ◌∙◌, rules}
use Rattle.param_space.specs.Space.{Lists, defaults}
use Rattle.param_space.proofs.Checks.{default_made}
use Rattle.param_space.proofs.checking.default_fault.Goals as goal

pub returns : goal.returns
returns c =
    let lists : Lists = record { params = c.args.params.now; conditions = c.args.conditions.now; forbidden = c.args.forbidden.now } in
    let made : c.in_ok-values.values.items ≡ defaults lists.params = search rules in
    default_made lists c.as_slice.result.now c.as_slice-2.result.now c.activity-active.result c.forbidding_fault.result c.requires.few.0 c.requires.picks_named
    (c.as_slice.ensures.value ∙ made) (c.as_slice-2.ensures.value ∙ made) c.activity-active.ensures.value c.forbidding_fault.ensures
