use Rattle.std.proofs.Common.{◌∙◌, ap}
use Rattle.std.proofs.lemmas.Result.{IfOk-weaker}
use Rattle.param_space.proofs.SettingTexts.{active_marked}
use Rattle.param_space.proofs.space.Space.active_values.Goals as goal

pub returns : goal.returns
returns c =
    IfOk-weaker c.marked_values.result _ _ (λ v found. found ∙ active_marked c.args.self.now c.args.config.now c.marks-active.result c.as_slice.result.now c.values.result.now c.requires c.marks-active.ensures.few
    (c.as_slice.ensures ∙ ap (λ l. l.params) c.self.view_is) c.values.ensures c.marks-active.ensures.value) c.marked_values.ensures
