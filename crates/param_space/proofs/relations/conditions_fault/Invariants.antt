use Rattle.std.proofs.Common.{◌≡◌, ◌≤◌, drop}
use Rattle.param_space.specs.Limits
use Rattle.param_space.specs.declared.lists.Part.TheVariants as part
use Rattle.param_space.specs.Faults.{first_in, condition_fault, conditions_fault}
use Rattle.param_space.proofs.relations.conditions_fault.Given as goal

-- the first fault is that of the later conditions
abbrev pub invariant-loop-i : goal.invariant-loop-i
invariant-loop-i l = (l.i ≤ Limits.max_conditions) × (conditions_fault l.params l.conditions ≡ first_in part.Condition (condition_fault l.params) l.i (drop l.i l.conditions))
