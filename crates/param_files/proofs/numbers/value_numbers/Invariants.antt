use Rattle.std.proofs.Common.{◌≡◌, Some, take}
use Rattle.param_files.specs.Reading.{all_some, value_number}
use Rattle.param_files.proofs.numbers.value_numbers.Given as goal

-- the values so far have these numbers
abbrev pub invariant-loop-value : goal.invariant-loop-value
invariant-loop-value l = all_some (value_number l.params l.param) (take l.value-index l.values) ≡ Some l.numbers.items
