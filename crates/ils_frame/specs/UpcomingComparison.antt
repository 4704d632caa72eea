-- What is made ready before a comparison begins, as the next comparison that it stands for.
use Rattle.std.specs.Prelude.{ℕ, zero, suc, ◌-◌, ◌≡◌, List, [], ◌∷◌, Result, IfOk}
use Rattle.uncapped.specs.Procedure.{Settings}
use Rattle.ils_frame.specs.declared.purpose.After.{After}
use Rattle.ils_frame.specs.declared.purpose.Purpose.{Purpose}
use Rattle.ils_frame.specs.declared.purpose.Purpose.TheVariants.{Opening, Trying, Improving, Returning}
use Rattle.ils_frame.specs.declared.upcoming.Among.{Among}
use Rattle.ils_frame.specs.declared.upcoming.Among.TheVariants.{Compared, Spent, Over}
use Rattle.ils_frame.specs.declared.upcoming.Upcoming.{Upcoming}
use Rattle.ils_frame.specs.declared.upcoming.Upcoming.TheVariants.{Along, Begin, End}
use Rattle.ils_frame.specs.TriedNeighbours.{tried_next}
use Rattle.ils_frame.specs.NextComparison.{Next, Compare, Finish}

-- the first of these neighbours, where there is one and a comparison is left for it
abbrev pub among_of : After → ℕ → Settings → List Settings → Among
among_of after left θ [] = Over after θ
among_of after zero θ (φ ∷ rest) = Spent
among_of after (suc left) θ (φ ∷ rest) = Compared (Improving after left θ (record { neighbour = φ; rest = rest })) φ θ

-- the next neighbour of the same list is tried
abbrev pub purpose_along : Purpose → Purpose
purpose_along Opening = Opening
purpose_along (Trying more θ current) = Trying more θ current
purpose_along (Improving after left θ tried) = Improving after (left - 1) θ (tried_next tried)
purpose_along (Returning more θ ils) = Returning more θ ils

-- what is upcoming as the next comparison
abbrev pub upcoming_seen : Purpose → ℕ → Upcoming → Next
upcoming_seen purpose e (Along first second) = Compare (purpose_along purpose) first second e
upcoming_seen purpose e (Begin next first second event) = Compare next first second event
upcoming_seen purpose e (End event) = Finish event

-- what is made ready is this next comparison, whatever the present one is for
abbrev pub MakesReady : {E : Type 0} → Result Upcoming E → Next → Type 0
MakesReady result next = (purpose : Purpose) (e : ℕ) → IfOk result (λ u. upcoming_seen purpose e u ≡ next)
