use Rattle.std.proofs.Common.{◌≡◌, ◌++◌, ◌∙◌, ap}
use Rattle.std.specs.List.{list_all}
use Rattle.tuning_logs.specs.EntryLines.{settings_of}
use Rattle.tuning_logs.specs.FieldBytes.{is_setting_byte}
use Rattle.tuning_logs.proofs.SettingsBytes.{settings_bytes}
use Rattle.tuning_logs.proofs.FieldTexts.{settings_unmarked}
use Rattle.tuning_logs.proofs.run_log.settings_bytes.Goals as goal

pub returns-clause-plain : goal.returns-clause-plain
returns-clause-plain c =
    let text = settings_of c.args.space.now c.args.config.now in
    let joined : c.push_settings.new.out.items ≡ text = c.in_ok-push_settings.ensures.ok ∙ ap (λ xs. xs ++ text) c.new-settings.ensures.items in
    ap (list_all is_setting_byte) joined
    ∙ settings_bytes is_setting_byte settings_unmarked c.args.space.now c.args.config.now c.params-sound.ensures.space c.requires
