-- Which parameters others depend on, by the conditions of a space, and on how many.
use Rattle.std.specs.Prelude.{ℕ, zero, suc, ◌+◌, ◌≡◌, ◌<◌, Bool, false, ◌&&◌, ◌||◌, ◌==◌, List, length, slice_index, if◌then◌else◌}
use Rattle.std.specs.List.{All, list_any}
use Rattle.param_space.specs.declared.lists.Condition.{Condition}
use Rattle.param_space.specs.Space.{Lists}

-- a parent of the parameter p or of one of its ancestors, up to so many generations
unfoldable pub is_ancestor_within : ℕ → List Condition → ℕ → ℕ → Bool
is_ancestor_within zero conditions p a = false
is_ancestor_within (suc generations) conditions p a =
    list_any (λ c. (c.parent == a) && ((c.child == p) || is_ancestor_within generations conditions p c.child)) conditions

-- an ancestor of the parameter p: there are no more generations than parameters
abbrev pub is_ancestor : Lists → ℕ → ℕ → Bool
is_ancestor lists p a = is_ancestor_within (length lists.params) lists.conditions p a

-- the parameters that a condition names are below n
pub record IsNamed (n : ℕ) (c : Condition) : Type 0 where
  pub child : c.child < n
  pub parent : c.parent < n

-- the parameter p is its own ancestor
abbrev pub is_own_ancestor : ℕ → List Condition → ℕ → Bool
is_own_ancestor n cs p = is_ancestor_within n cs p p

-- no child of a condition is its own ancestor
abbrev pub IsAcyclic : ℕ → List Condition → Type 0
IsAcyclic n cs = All (λ c. is_own_ancestor n cs c.child ≡ false) cs

-- how many numbers below n pass a test
unfoldable pub count : (ℕ → Bool) → ℕ → ℕ
count f zero = 0
count f (suc n) = count f n + (if f n then 1 else 0)

-- how many ancestors a parameter has
abbrev pub rank : ℕ → List Condition → ℕ → ℕ
rank n cs p = count (is_ancestor_within n cs p) n

-- the numbers are the ranks of the parameters below n
abbrev pub AreRanks : ℕ → List Condition → List ℕ → Type 0
AreRanks n cs ranks = (p : ℕ) → p < n → slice_index ranks p ≡ rank n cs p
