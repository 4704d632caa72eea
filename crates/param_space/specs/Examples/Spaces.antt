-- The parameter `x {a, b} [a]` and a second one that depends on it.
use Rattle.std.specs.Prelude.{ℕ, ◌≡◌, List, [], ◌∷◌, None, refl, codes}
use Rattle.param_space.specs.declared.lists.Param.{Param}
use Rattle.param_space.specs.Space.{Lists, defaults}
use Rattle.param_space.specs.Ancestors.{is_ancestor_within}
use Rattle.param_space.specs.Faults.{params_fault, space_fault}

-- a parameter with the values a and b
abbrev pub two_values : List ℕ → ℕ → Param
two_values name default = record { name = name; values = codes "a" ∷ codes "b" ∷ []; default = default }

-- `x {a, b} [a]`
abbrev pub x : Param
x = two_values (codes "x") 0

pub default_of_x : defaults (x ∷ []) ≡ 0 ∷ []
default_of_x = refl

pub x_is_sound : params_fault (x ∷ []) ≡ None
x_is_sound = refl

-- `y {1, 2} [1]`, which depends on x being a
abbrev pub x_then_y : Lists
x_then_y = record {
  params = x ∷ record { name = codes "y"; values = codes "1" ∷ codes "2" ∷ []; default = 0 } ∷ [];
  conditions = record { child = 1; parent = 0; values = 0 ∷ [] } ∷ [];
  forbidden = [];
}

pub x_then_y_is_sound : space_fault x_then_y ≡ None
unfolding is_ancestor_within
x_then_y_is_sound = refl
