-- Due cutoffs of small asks.
use Rattle.std.specs.Prelude.{◌≡◌, refl, [], ◌∷◌, Some, None}
use Rattle.objective.specs.Bounds.{Bounds}
use Rattle.objective.specs.Costs.{Table}
use Rattle.objective.specs.declared.Factor.TheVariants.{One}
use Rattle.uncapped.specs.Procedure.{Question}
use Rattle.uncapped.specs.DueCutoffs.{cap_at}
use Rattle.uncapped.specs.Examples.Tables.{seconds, ten_seconds, solution_after, abort_after, then_always}

-- on two places, up to seven seconds
abbrev up_to_seven : Question
up_to_seven = record { config = 1 ∷ []; places = 2; bound = Some (seconds 7) }

-- two seconds, then nine
abbrev two_then_nine : Table
two_then_nine config = then_always (solution_after 2) (solution_after 9)

-- seven seconds, then nine
abbrev seven_then_nine : Table
seven_then_nine config = then_always (solution_after 7) (solution_after 9)

-- eight seconds, then one
abbrev eight_then_one : Table
eight_then_one config = then_always (solution_after 8) (solution_after 1)

-- an abort, then a second
abbrev abort_then_one : Table
abort_then_one config = then_always (abort_after 1) (solution_after 1)

-- a cutoff of ten seconds that isn't shortened below three
abbrev at_least_three : Bounds
at_least_three = record { cutoff = seconds 10; factor = One; floor = seconds 3 }

-- nothing was spent before the first place
pub first_place : cap_at ten_seconds two_then_nine up_to_seven 1 ≡ Some (seconds 7)
first_place = refl

-- what was spent is taken off
pub second_place : cap_at ten_seconds two_then_nine up_to_seven 2 ≡ Some (seconds 5)
second_place = refl

-- nothing is left, and the floor is given
pub nothing_left : cap_at at_least_three seven_then_nine up_to_seven 2 ≡ Some (seconds 3)
nothing_left = refl

-- the ask is decided before its second place
pub decided_before : cap_at ten_seconds eight_then_one up_to_seven 2 ≡ None
decided_before = refl

-- what was spent isn't known
pub after_an_abort : cap_at ten_seconds abort_then_one up_to_seven 2 ≡ None
after_an_abort = refl

-- an ask without a bound gives the full cutoff
pub in_full : cap_at ten_seconds abort_then_one (record up_to_seven { bound = None }) 2 ≡ Some (seconds 10)
in_full = refl
