use Rattle.std.proofs.Common.{◌≡◌, drop, map}
use Rattle.param_space.specs.Faults.{numbers_differ}
use Rattle.param_space.proofs.relations.params_differ.Given as goal

-- it is left to see whether the parameters of the later picks differ
abbrev pub invariant-loop-i : goal.invariant-loop-i
invariant-loop-i l = numbers_differ (map (λ k. k.param) l.picks) ≡ numbers_differ (map (λ k. k.param) (drop l.i l.picks))
