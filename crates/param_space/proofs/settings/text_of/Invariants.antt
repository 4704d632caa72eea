use Rattle.std.proofs.Common.{◌≡◌, map, take}
use Rattle.param_space.specs.Settings.{name_and_value, settings_text}
use Rattle.param_space.proofs.settings.text_of.Given as goal

-- the text of the settings so far
abbrev pub invariant-loop-setting : goal.invariant-loop-setting
invariant-loop-setting l = l.out.items ≡ settings_text (map name_and_value (take l.setting-index l.settings))
