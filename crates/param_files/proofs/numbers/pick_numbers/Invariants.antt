use Rattle.std.proofs.Common.{◌≡◌, Some, take}
use Rattle.param_files.specs.Reading.{all_some, pick_numbered}
use Rattle.param_files.proofs.numbers.pick_numbers.Given as goal

-- the picks so far have these numbers
abbrev pub invariant-loop-pick : goal.invariant-loop-pick
invariant-loop-pick l = all_some (pick_numbered l.params) (take l.pick-index l.picks) ≡ Some l.numbers.items
