use Rattle.std.proofs.Common.{◌≡◌, true, nat_lt, take}
use Rattle.std.specs.List.{list_all}
use Rattle.param_space.proofs.relations.are_named.Given as goal

-- the picks so far are of these parameters
abbrev pub invariant-loop-pick : goal.invariant-loop-pick
invariant-loop-pick l = list_all (λ k. nat_lt k.param l.count) (take l.pick-index l.picks) ≡ true
