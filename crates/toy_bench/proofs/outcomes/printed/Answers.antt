use Rattle.std.proofs.Common.{◌∙◌, ap, map, take_all}
use Rattle.std.specs.Prelude.{string_bytes}
use Rattle.param_space.specs.Settings.{setting_text}
use Rattle.toy_bench.proofs.SpacedSettings.{joined}
use Rattle.toy_bench.proofs.outcomes.printed.Goals as goal

pub returns : goal.returns
returns c =
    let all = c.loop-setting.invariant ∙ ap (map (λ s. setting_text (s.name, s.value))) (take_all c.loop-setting.setting-index c.args.settings.now c.loop-setting-test.false) in
    c.in_ok-join.ensures.ok ∙ joined (λ t. string_bytes t) c.loop-setting.texts.items c.deref.result.now c.args.settings.now c.deref.ensures.value all
