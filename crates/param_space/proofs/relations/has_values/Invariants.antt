use Rattle.std.proofs.Common.{◌≡◌, true, nat_lt, take}
use Rattle.std.specs.List.{list_all}
use Rattle.param_space.specs.Space.{value_count}
use Rattle.param_space.proofs.relations.has_values.Given as goal

-- the values so far are there
abbrev pub invariant-loop-value : goal.invariant-loop-value
invariant-loop-value l = list_all (λ v. nat_lt v (value_count l.params l.param)) (take l.value-index l.values) ≡ true
