use Rattle.std.proofs.Common.{◌∙◌, ap, map, take, sym}
use Rattle.std.proofs.lemmas.List.{map_more}
use Rattle.param_space.specs.Settings.{name_and_value, with_setting, settings_text}
use Rattle.param_space.proofs.SettingTexts.{one_written}
use Rattle.param_space.proofs.settings.text_of.Goals as goal

pub loop-setting-preserved : goal.loop-setting-preserved
loop-setting-preserved c =
    let out = c.loop-setting.out.items in
    let made =
    c.in_ok-push_setting.ensures
    ∙ ap (λ name. with_setting out (name, c.as_str-in-loop-setting.result.now)) c.as_str.ensures
    ∙ ap (λ value. with_setting out (c.setting-item.result.name.now, value)) c.as_str-in-loop-setting.ensures
    ∙ ap (λ setting. with_setting out (name_and_value setting)) c.setting-item.is in
    one_written (map name_and_value (take c.loop-setting.setting-index c.args.settings.now)) _ _ _ c.loop-setting.invariant made
    ∙ ap settings_text (sym (map_more name_and_value c.args.settings.now c.loop-setting.setting-index c.setting-item.result c.loop-setting-test.true))
