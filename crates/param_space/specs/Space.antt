-- A parameter space as plain lists, and the configurations that belong to it.
use Rattle.std.specs.Prelude.{ℕ, ◌<◌, List, [], ◌∷◌, length, map, slice_index}
use Rattle.param_space.specs.declared.lists.Param.{Param}
use Rattle.param_space.specs.declared.lists.Condition.{Condition}
use Rattle.param_space.specs.declared.lists.Forbidden.{Forbidden}

pub record Lists : Type 0 where
  pub params : List Param
  pub conditions : List Condition
  pub forbidden : List Forbidden

-- these three lists
abbrev pub space_lists : List Param → List Condition → List Forbidden → Lists
space_lists params conditions forbidden = record { params = params; conditions = conditions; forbidden = forbidden }

-- the names of the parameters
abbrev pub names : List Param → List (List ℕ)
names params = map (λ p. p.name) params

-- how many values the parameter with this number has
abbrev pub value_count : List Param → ℕ → ℕ
value_count params p = slice_index (map (λ q. length q.values) params) p

-- the configuration of the defaults
abbrev pub defaults : List Param → List ℕ
defaults params = map (λ p. p.default) params

-- one value number for each parameter, each below its number of values
abbrev pub Belongs : List Param → List ℕ → Type 0
Belongs [] [] = Unit {0}
Belongs [] (v ∷ vs) = ⊥
Belongs (p ∷ ps) [] = ⊥
Belongs (p ∷ ps) (v ∷ vs) = (v < length p.values) × Belongs ps vs
