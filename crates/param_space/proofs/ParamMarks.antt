-- Marks of parameters, one condition or parameter after another.
use Rattle.std.proofs.Common.{ℕ, zero, suc, ◌≡◌, ◌≢◌, ◌<◌, ◌≤◌, ◌+◌, ◌⊎◌, inl, inr, Bool, false, ◌&&◌, ◌||◌, ◌==◌, List, [], ◌∷◌, length, get_or, slice_index, slice_set, replicate, eq-or-lt_of_le, refl, sym, ap, ◌∙◌, arith, add-one}
use Rattle.std.specs.List.{All, list_any, slice_index_or}
use Rattle.std.proofs.lemmas.Grind.{get_or-set_at}
use Rattle.std.proofs.lemmas.List.{get_or-set_other}
use Rattle.std.proofs.lemmas.List.Elements.{All-head, All-tail, All-weaker}
use Rattle.param_space.specs.Limits
use Rattle.param_space.specs.declared.lists.Condition.{Condition}
use Rattle.param_space.specs.Ancestors.{is_ancestor_within, IsNamed}

-- no mark is set at first
pub unmarked : (n a : ℕ) → get_or (replicate n false) a false ≡ false
unmarked zero a = refl
unmarked (suc n) zero = refl
unmarked (suc n) (suc a) = unmarked n a

-- nothing is an ancestor within no generation
pub no_generation : (cs : List Condition) (p a : ℕ) → is_ancestor_within 0 cs p a ≡ false
unfolding is_ancestor_within
no_generation cs p a = refl

-- two tests that agree on each element agree on whether one passes
pub any_alike : {X : Type 0} (P : X → Type 0) (f g : X → Bool) (xs : List X) → All P xs → ((x : X) → P x → f x ≡ g x) → list_any f xs ≡ list_any g xs
any_alike P f g [] h same = refl
any_alike P f g (x ∷ xs) h same = ap (λ b. b || list_any f xs) (same x (All-head P x xs h)) ∙ ap (λ b. g x || b) (any_alike P f g xs (All-tail P x xs h) same)

-- what a generation adds to the ancestors within g generations
pub generation_more : (cs : List Condition) (p g a : ℕ) (known : List Bool) → All (IsNamed Limits.max_params) cs → ((b : ℕ) → b < Limits.max_params → slice_index_or known b false ≡ is_ancestor_within g cs p b)
    → list_any (λ c. (c.parent == a) && ((c.child == p) || slice_index_or known c.child false)) cs ≡ is_ancestor_within (g + 1) cs p a
unfolding is_ancestor_within
generation_more cs p g a known named same =
    rw add-one (any_alike (IsNamed Limits.max_params) (λ c. (c.parent == a) && ((c.child == p) || slice_index_or known c.child false)) (λ c. (c.parent == a) && ((c.child == p) || is_ancestor_within g cs p c.child)) cs named
    (λ c here. ap (λ b. (c.parent == a) && ((c.child == p) || b)) (same c.child here.child)))

-- what holds of the places below n, and of n once it is set, holds below n + 1
pub set_below : (f : ℕ → ℕ) (xs : List ℕ) (n v : ℕ) → n < length xs → v ≡ f n → ((p : ℕ) → p < n → slice_index xs p ≡ f p) → (p : ℕ) → p < n + 1 → slice_index (slice_set xs n v) p ≡ f p
set_below f xs n v lt here below p less = by (eq-or-lt_of_le (let le : p ≤ n = omega (arith, less) in le))
  where
    by : (p ≡ n) ⊎ (p < n) → slice_index (slice_set xs n v) p ≡ f p
    by (inl e) = get_or-set_at xs n p v 0 e lt ∙ here ∙ ap f (sym e)
    by (inr before) = get_or-set_other xs n p v 0 (let other : p ≢ n = omega (arith, before) in other) ∙ below p before

pub mark_below : (f : ℕ → Bool) (xs : List Bool) (n : ℕ) (v : Bool) → n < length xs → v ≡ f n → ((p : ℕ) → p < n → slice_index_or xs p false ≡ f p) → (p : ℕ) → p < n + 1 → slice_index_or (slice_set xs n v) p false ≡ f p
mark_below f xs n v lt here below p less = by (eq-or-lt_of_le (let le : p ≤ n = omega (arith, less) in le))
  where
    by : (p ≡ n) ⊎ (p < n) → slice_index_or (slice_set xs n v) p false ≡ f p
    by (inl e) = get_or-set_at xs n p v false e lt ∙ here ∙ ap f (sym e)
    by (inr before) = get_or-set_other xs n p v false (let other : p ≢ n = omega (arith, before) in other) ∙ below p before

-- conditions of fewer parameters than 256
pub named_weaker : (n : ℕ) (cs : List Condition) → n ≤ Limits.max_params → All (IsNamed n) cs → All (IsNamed Limits.max_params) cs
named_weaker n cs le named = All-weaker (IsNamed n) (IsNamed Limits.max_params) (λ c h. record { child = omega (arith, h.child, le); parent = omega (arith, h.parent, le) }) cs named
