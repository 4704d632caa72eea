-- An order of conditions in which those of a parent stand before those of its children.
use Rattle.std.specs.Prelude.{ℕ, ◌≢◌, ◌<◌, ◌≤◌, List, [], length, map}
use Rattle.std.specs.List.{All, slice_index_or}
use Rattle.std.specs.List.Sorted.{IsPermutation}
use Rattle.param_space.specs.declared.lists.Condition.{Condition}

-- no condition: what is read where there is none
abbrev pub no_condition : Condition
no_condition = record { child = 0; parent = 0; values = [] }

-- the condition with this number
abbrev pub condition_at : List Condition → ℕ → Condition
condition_at conditions i = slice_index_or conditions i no_condition

-- the conditions with these numbers
abbrev pub in_order : List Condition → List ℕ → List Condition
in_order conditions order = map (condition_at conditions) order

-- no parent of a condition is the child of that one or of a later one
abbrev pub AreParentsFirst : List Condition → Type 0
AreParentsFirst cs = (i j : ℕ) → i ≤ j → j < length cs → (condition_at cs j).child ≢ (condition_at cs i).parent

-- the numbers of all conditions, in an order in which a parameter's own come before those of its children
pub record IsOrder (conditions : List Condition) (order : List ℕ) : Type 0 where
  pub all : IsPermutation conditions (in_order conditions order)
  pub numbers : All (λ i. i < length conditions) order
  pub parents_first : AreParentsFirst (in_order conditions order)
