use Rattle.std.proofs.Common.{◌≡◌, map, take}
use Rattle.param_files.specs.PrintedLines.{value_of}
use Rattle.param_files.proofs.printer.parted_values.Given as goal

-- the values so far are chosen
abbrev pub invariant-loop-value : goal.invariant-loop-value
invariant-loop-value l = map (λ t. t.now) l.chosen.items ≡ map (value_of l.params l.number) (take l.value-index l.values)
