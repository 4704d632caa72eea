use Rattle.std.proofs.Common.{◌≡◌, ◌≤◌, drop}
use Rattle.param_space.specs.Limits
use Rattle.param_space.specs.declared.lists.Part.TheVariants as part
use Rattle.param_space.specs.Faults.{first_in, clause_fault, clauses_fault}
use Rattle.param_space.proofs.relations.clauses_fault.Given as goal

-- the first fault is that of the later clauses
abbrev pub invariant-loop-i : goal.invariant-loop-i
invariant-loop-i l = (l.i ≤ Limits.max_clauses) × (clauses_fault l.params l.forbidden ≡ first_in part.Forbidden (clause_fault l.params) l.i (drop l.i l.forbidden))
