use Rattle.std.proofs.Common.{◌≡◌, not, [], ◌∷◌, drop}
use Rattle.param_space.specs.declared.lists.Part.TheVariants as part
use Rattle.param_space.specs.declared.lists.SpaceWhat.TheVariants.{DefaultForbidden}
use Rattle.param_space.specs.Faults.{first_in, first_broken}
use Rattle.param_space.specs.Marks.{is_marked_by}
use Rattle.param_space.proofs.activity.forbidding_fault.Given as goal

-- the first fault is that of the later clauses
abbrev pub invariant-loop-i : goal.invariant-loop-i
invariant-loop-i l =
    first_in part.Forbidden (λ _ f. first_broken ((not (is_marked_by l.active l.values f), DefaultForbidden) ∷ [])) 0 l.forbidden
    ≡ first_in part.Forbidden (λ _ f. first_broken ((not (is_marked_by l.active l.values f), DefaultForbidden) ∷ [])) l.i (drop l.i l.forbidden)
