use Rattle.std.proofs.Common.{◌≡◌, true, take}
use Rattle.std.specs.Option.{is_some}
use Rattle.param_files.specs.Reading.{all_some, param_number}
use Rattle.param_files.proofs.numbers.has_names.Given as goal

-- the picks so far have names of parameters
abbrev pub invariant-loop-pick : goal.invariant-loop-pick
invariant-loop-pick l = is_some (all_some (λ k. param_number l.params k.name) (take l.pick-index l.picks)) ≡ true
