use Rattle.std.proofs.Common.{◌≡◌, ◌==◌, false, take}
use Rattle.std.specs.List.{list_any}
use Rattle.param_space.proofs.relations.has_param.Given as goal

-- none of the picks so far is of the parameter
abbrev pub invariant-loop-pick : goal.invariant-loop-pick
invariant-loop-pick l = list_any (λ k. l.param == k.param) (take l.pick-index l.picks) ≡ false
