use Rattle.std.proofs.Common.{◌≡◌, drop}
use Rattle.param_files.specs.Reading.{all_numbered}
use Rattle.param_files.proofs.ByNumbers.{after_numbers}
use Rattle.param_files.proofs.numbering.all_by_numbers.Given as goal

-- the numbers so far, and then those of the statements that are left
abbrev pub invariant-loop-line : goal.invariant-loop-line
invariant-loop-line l = all_numbered l.params l.relations ≡ after_numbers l.numbers (all_numbered l.params (drop l.line-index l.relations))
