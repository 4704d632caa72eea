use Rattle.std.proofs.Common.{◌≡◌, map, take}
use Rattle.std.specs.Prelude.{string_bytes}
use Rattle.param_space.specs.Settings.{setting_text}
use Rattle.toy_bench.proofs.outcomes.printed.Given as goal

-- the texts of the settings so far
abbrev pub invariant-loop-setting : goal.invariant-loop-setting
invariant-loop-setting l = map (λ t. string_bytes t) l.texts.items ≡ map (λ s. setting_text (s.name, s.value)) (take l.setting-index l.settings)
