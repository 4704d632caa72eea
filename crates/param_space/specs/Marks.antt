-- Marks of parameters, and what conditions and forbidden clauses say by them.
use Rattle.std.specs.Prelude.{ℕ, Bool, false, not, ◌&&◌, ◌||◌, ◌==◌, ◌≡◌, ◌<◌, List, [], ◌∷◌, Option}
use Rattle.std.specs.List.{All, list_all, list_any, slice_index_or}
use Rattle.param_space.specs.Limits
use Rattle.param_space.specs.Faults.{first_in, first_broken}
use Rattle.param_space.specs.declared.lists.Breach.{Breach}
use Rattle.param_space.specs.declared.lists.Condition.{Condition}
use Rattle.param_space.specs.declared.lists.Part.TheVariants as part
use Rattle.param_space.specs.declared.lists.SpaceWhat.TheVariants.{Cycle, DefaultForbidden}
use Rattle.param_space.specs.declared.lists.Pick.{Pick}
use Rattle.param_space.specs.declared.lists.Forbidden.{Forbidden}

-- each parameter is marked exactly where the test says so
abbrev pub AreMarksOf : (ℕ → Bool) → List Bool → Type 0
AreMarksOf test marks = (p : ℕ) → p < Limits.max_params → slice_index_or marks p false ≡ test p

-- a parent of the parameter or of one that is marked
abbrev pub is_parent_of : List Condition → ℕ → List Bool → ℕ → Bool
is_parent_of conditions param marks p =
    list_any (λ c. (c.parent == p) && ((c.child == param) || slice_index_or marks c.child false)) conditions

-- the condition's parent has a listed value and is marked
abbrev pub is_met_by : List Bool → List ℕ → Condition → Bool
is_met_by marks values c =
    list_any (λ v. slice_index_or values c.parent 0 == v) c.values && slice_index_or marks c.parent false

-- the first condition whose child is marked
abbrev pub marked_child_fault : List Bool → List Condition → Option Breach
marked_child_fault marks conditions =
    first_in part.Condition (λ _ c. first_broken ((not (slice_index_or marks c.child false), Cycle) ∷ [])) 0 conditions

-- the pick's parameter is marked and has its value
abbrev pub is_marked : List Bool → List ℕ → Pick → Bool
is_marked marks values k = slice_index_or marks k.param false && (slice_index_or values k.param 0 == k.value)

-- all picks of a clause are such ones
abbrev pub is_marked_by : List Bool → List ℕ → Forbidden → Bool
is_marked_by marks values clause = list_all (is_marked marks values) clause.picks

-- the first clause of such picks
abbrev pub marked_clause_fault : List Bool → List ℕ → List Forbidden → Option Breach
marked_clause_fault marks values forbidden =
    first_in part.Forbidden (λ _ f. first_broken ((not (is_marked_by marks values f), DefaultForbidden) ∷ [])) 0 forbidden

-- the parameters that a clause names are below n
abbrev pub ArePicksNamed : ℕ → Forbidden → Type 0
ArePicksNamed n clause = All (λ k. k.param < n) clause.picks
