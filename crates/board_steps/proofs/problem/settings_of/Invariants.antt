use Rattle.std.proofs.Common.{◌≡◌, map, take}
use Rattle.param_space.specs.Settings.{name_and_value}
use Rattle.board_steps.specs.ProblemRuns.{setting_from}
use Rattle.board_steps.proofs.problem.settings_of.Given as goal

-- the settings so far
abbrev pub invariant-loop-named : goal.invariant-loop-named
invariant-loop-named l = l.settings.items ≡ map setting_from (map name_and_value (take l.named-index l.named-items))
