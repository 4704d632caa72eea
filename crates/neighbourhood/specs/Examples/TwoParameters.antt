-- Neighbours of the configurations of `x {a, b} [a]` and `y {1, 2, 3} [2]`, worked.
use Rattle.std.specs.Prelude.{◌≡◌, List, [], ◌∷◌, refl, codes}
use Rattle.param_space.specs.declared.lists.Param.{Param}
use Rattle.param_space.specs.declared.lists.Condition.{Condition}
use Rattle.param_space.specs.declared.lists.Forbidden.{Forbidden}
use Rattle.param_space.specs.Space.{Lists}
use Rattle.param_space.specs.Configurations.{is_active_within}
use Rattle.neighbourhood.specs.Neighbours.{neighbours_of}

-- `x {a, b} [a]`
abbrev pub x : Param
x = record { name = codes "x"; values = codes "a" ∷ codes "b" ∷ []; default = 0 }

-- `y {1, 2, 3} [2]`
abbrev pub y : Param
y = record { name = codes "y"; values = codes "1" ∷ codes "2" ∷ codes "3" ∷ []; default = 1 }

-- x and y with these conditions and forbidden clauses
abbrev pub x_and_y : List Condition → List Forbidden → Lists
x_and_y conditions forbidden = record { params = x ∷ y ∷ []; conditions = conditions; forbidden = forbidden }

pub of_the_defaults : neighbours_of (x_and_y [] []) (0 ∷ 1 ∷ []) ≡ (1 ∷ 1 ∷ []) ∷ (0 ∷ 0 ∷ []) ∷ (0 ∷ 2 ∷ []) ∷ []
unfolding neighbours_of is_active_within
of_the_defaults = refl

pub of_the_last : neighbours_of (x_and_y [] []) (1 ∷ 2 ∷ []) ≡ (0 ∷ 2 ∷ []) ∷ (1 ∷ 0 ∷ []) ∷ (1 ∷ 1 ∷ []) ∷ []
unfolding neighbours_of is_active_within
of_the_last = refl

-- y is active only where x is a
abbrev pub under_a : List Condition
under_a = record { child = 1; parent = 0; values = 0 ∷ [] } ∷ []

-- an exchange that makes y inactive puts it at its default
pub settles : neighbours_of (x_and_y under_a []) (0 ∷ 2 ∷ []) ≡ (1 ∷ 1 ∷ []) ∷ (0 ∷ 0 ∷ []) ∷ (0 ∷ 1 ∷ []) ∷ []
unfolding neighbours_of is_active_within
settles = refl

-- an inactive parameter is not exchange_of
pub leaves_inactive : neighbours_of (x_and_y under_a []) (1 ∷ 1 ∷ []) ≡ (0 ∷ 1 ∷ []) ∷ []
unfolding neighbours_of is_active_within
leaves_inactive = refl

-- b and 1 may not stand together
abbrev pub not_b_and_1 : List Forbidden
not_b_and_1 = record { picks = record { param = 0; value = 1 } ∷ record { param = 1; value = 0 } ∷ [] } ∷ []

-- a forbidden exchange is left out
pub leaves_forbidden : neighbours_of (x_and_y [] not_b_and_1) (0 ∷ 0 ∷ []) ≡ (0 ∷ 1 ∷ []) ∷ (0 ∷ 2 ∷ []) ∷ []
unfolding neighbours_of is_active_within
leaves_forbidden = refl
