-- The begin of a comparison, as the machine's.
use Rattle.std.proofs.Common.{ℕ, ◌≡◌, ◌+◌, ◌==◌, Bool, true, false, not, if◌then◌else◌, refl, ap, ◌∙◌}
use Rattle.uncapped.specs.Procedure.{Settings}
use Rattle.ils_face.specs.Rules.{Rules}
use Rattle.ils_face.specs.Setups.{setup_of}
use Rattle.ils_frame.specs.declared.purpose.Purpose.{Purpose}
use Rattle.ils_frame.specs.Comparers.{Parts}
use Rattle.ils_frame.specs.NextComparison.{Compare}
use Rattle.ils_frame.specs.Machine.{Machine, begin}

-- a comparison that was begun, or the end of the search
pub begun_so : {S : Type 0} (parts : Parts S) (rules : Rules) (c d : S) (purpose : Purpose) (θ φ : Settings) (e : ℕ) (left over : Bool)
    → d ≡ (if (parts.last c).compared == rules.budget then c else parts.begun c θ φ ((parts.last c).compared + 1)) → left ≡ not ((parts.last c).compared == rules.budget) → over ≡ not left
    → ◌≡◌ {A = Machine S} (record { comparer = d; purpose = purpose; event = e; over = over }) (begin parts (setup_of rules) c (Compare purpose θ φ e))
unfolding setup_of
begun_so {S} parts rules c d purpose θ φ e left over h l o =
    ap (λ b. let m : Machine S = record { comparer = d; purpose = purpose; event = e; over = b } in m) (o ∙ ap not l)
    ∙ ap (λ k. let m : Machine S = record { comparer = k; purpose = purpose; event = e; over = not (not ((parts.last c).compared == rules.budget)) } in m) h
    ∙ at_either ((parts.last c).compared == rules.budget)
  where
    at_either : (b : Bool) → ◌≡◌ {A = Machine S} (record { comparer = (if b then c else parts.begun c θ φ ((parts.last c).compared + 1)); purpose = purpose; event = e; over = not (not b) })
        (if b
        then record { comparer = c; purpose = purpose; event = e; over = true }
        else record { comparer = parts.begun c θ φ ((parts.last c).compared + 1); purpose = purpose; event = e; over = false })
    at_either true = refl
    at_either false = refl
