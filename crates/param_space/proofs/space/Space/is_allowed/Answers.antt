use Rattle.std.proofs.Common.{◌∙◌, ap}
use Rattle.param_space.proofs.Checks.{picks_read, allowed_told}
use Rattle.param_space.proofs.space.Space.is_allowed.Goals as goal

pub forbids_any-requires-clause-named : goal.forbids_any-requires-clause-named
forbids_any-requires-clause-named c =
    picks_read c.args.self.now c.args.config.now c.as_slice.result.now c.values.result.now c.marks-active.ensures.space c.requires (c.as_slice.ensures ∙ ap (λ l. l.forbidden) c.self.view_is) c.values.ensures

pub returns : goal.returns
returns c =
    allowed_told c.args.self.now c.args.config.now c.marks-active.result c.as_slice.result.now c.values.result.now c.forbids_any.result c.marks-active.ensures.space c.marks-active.ensures.few
    (c.as_slice.ensures ∙ ap (λ l. l.forbidden) c.self.view_is) c.values.ensures c.marks-active.ensures.value c.forbids_any.ensures
