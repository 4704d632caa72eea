use Rattle.std.proofs.Common.{◌≡◌, false, map}
use Rattle.std.specs.List.{slice_index_or}
use Rattle.param_space.specs.Settings.{name_and_value}
use Rattle.param_space.proofs.ActiveValues.{values_until}
use Rattle.param_space.proofs.settings.marked_values.Given as goal

-- the marked settings so far
abbrev pub invariant-loop-i : goal.invariant-loop-i
invariant-loop-i l = map name_and_value l.found.items ≡ values_until (λ i. slice_index_or l.active i false) l.params l.values l.i
