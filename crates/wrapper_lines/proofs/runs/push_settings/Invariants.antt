use Rattle.std.proofs.Common.{◌≡◌, ◌++◌, take}
use Rattle.wrapper_lines.specs.Runs.{setting_words}
use Rattle.wrapper_lines.proofs.runs.push_settings.Given as goal

-- the words of the settings so far are appended
abbrev pub invariant-loop-setting : goal.invariant-loop-setting
invariant-loop-setting l = l.words.items ≡ l.initial.words.items ++ setting_words (take l.setting-index l.settings)
