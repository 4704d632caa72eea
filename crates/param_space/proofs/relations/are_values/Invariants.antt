use Rattle.std.proofs.Common.{◌≡◌, true, nat_lt, take}
use Rattle.std.specs.List.{list_all}
use Rattle.param_space.specs.Space.{value_count}
use Rattle.param_space.proofs.relations.are_values.Given as goal

-- the picks so far are of values that are there
abbrev pub invariant-loop-pick : goal.invariant-loop-pick
invariant-loop-pick l = list_all (λ k. nat_lt k.value (value_count l.params k.param)) (take l.pick-index l.picks) ≡ true
