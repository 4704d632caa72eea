use Rattle.std.proofs.Common.{◌<◌, length, rules, append_assoc}
use Rattle.std.proofs.lemmas.List.{take_more}
use Rattle.wrapper_lines.proofs.Words.{setting_words-append}
use Rattle.wrapper_lines.proofs.runs.push_settings.Goals as goal

pub loop-setting-preserved : goal.loop-setting-preserved
loop-setting-preserved c =
    let below : c.loop-setting.setting-index < length c.args.settings.now = search rules in
    rw (take_more c.args.settings.now c.loop-setting.setting-index c.setting-item.result below, setting_words-append) (search (rules, append_assoc))
