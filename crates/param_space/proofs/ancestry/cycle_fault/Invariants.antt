use Rattle.std.proofs.Common.{◌≡◌, false, not, [], ◌∷◌, drop}
use Rattle.std.specs.List.{slice_index_or}
use Rattle.param_space.specs.declared.lists.Part.TheVariants as part
use Rattle.param_space.specs.declared.lists.SpaceWhat.TheVariants.{Cycle}
use Rattle.param_space.specs.Faults.{first_in, first_broken}
use Rattle.param_space.proofs.ancestry.cycle_fault.Given as goal

-- the first fault is that of the later conditions
abbrev pub invariant-loop-i : goal.invariant-loop-i
invariant-loop-i l =
    first_in part.Condition (λ _ c. first_broken ((not (slice_index_or l.own c.child false), Cycle) ∷ [])) 0 l.conditions
    ≡ first_in part.Condition (λ _ c. first_broken ((not (slice_index_or l.own c.child false), Cycle) ∷ [])) l.i (drop l.i l.conditions)
