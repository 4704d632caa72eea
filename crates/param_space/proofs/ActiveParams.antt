-- What the conditions say of a configuration, where they run in no circle.
use Rattle.std.proofs.Common.{ℕ, zero, suc, ◌≡◌, ◌<◌, ◌≤◌, Bool, true, false, not, ◌&&◌, ◌||◌, ◌==◌, List, [], ◌∷◌, length, refl, ap, subst, ◌∙◌, arith}
use Rattle.std.specs.List.{All, list_any, list_all, slice_index_or}
use Rattle.std.proofs.lemmas.Bool.Decides.{nat_tests}
use Rattle.std.proofs.lemmas.List.Elements.{All-head, All-tail}
use Rattle.param_space.specs.declared.lists.Condition.{Condition}
use Rattle.param_space.specs.Space.{Lists}
use Rattle.param_space.specs.Configurations.{is_active_within, is_active}

-- the condition, where it has this child, has a listed value of its parent, which is active
abbrev pub is_met : List ℕ → (ℕ → Bool) → ℕ → Condition → Bool
is_met config active p c = not (c.child == p) || (list_any (λ v. slice_index_or config c.parent 0 == v) c.values && active c.parent)

-- parents rank below their children
abbrev pub Rises : (ℕ → ℕ) → List Condition → Type 0
Rises rank cs = All (λ c. rank c.parent < rank c.child) cs

-- two tests that agree on each element agree on all
pub all_alike : {X : Type 0} (P : X → Type 0) (f g : X → Bool) (xs : List X) → All P xs → ((x : X) → P x → f x ≡ g x) → list_all f xs ≡ list_all g xs
all_alike P f g [] h same = refl
all_alike P f g (x ∷ xs) h same = ap (λ b. b && list_all f xs) (same x (All-head P x xs h)) ∙ ap (λ b. g x && b) (all_alike P f g xs (All-tail P x xs h) same)

-- conditions say the same of p where the same of its parents is known
met_alike : (rank : ℕ → ℕ) (cs : List Condition) (config : List ℕ) (s t : ℕ → Bool) (p : ℕ) → Rises rank cs → ((q : ℕ) → rank q < rank p → s q ≡ t q)
    → list_all (is_met config s p) cs ≡ list_all (is_met config t p) cs
met_alike rank cs config s t p rises same =
    all_alike (λ c. rank c.parent < rank c.child) (is_met config s p) (is_met config t p) cs rises (λ c below. at_child c (c.child == p) refl below)
  where
    at_child : (c : Condition) (b : Bool) → (c.child == p) ≡ b → rank c.parent < rank c.child
        → not b || (list_any (λ v. slice_index_or config c.parent 0 == v) c.values && s c.parent) ≡ not b || (list_any (λ v. slice_index_or config c.parent 0 == v) c.values && t c.parent)
    at_child c false e below = refl
    at_child c true e below =
        let child : c.child ≡ p = grind (arith, nat_tests, e) in
        ap (λ b. list_any (λ v. slice_index_or config c.parent 0 == v) c.values && b) (same c.parent (subst (λ k. rank c.parent < rank k) child below))

-- a generation more than a parameter's rank says nothing new
enough_generations : (rank : ℕ → ℕ) (cs : List Condition) (config : List ℕ) (g p : ℕ) → Rises rank cs → rank p < g → is_active_within g cs config p ≡ is_active_within (suc g) cs config p
unfolding is_active_within
enough_generations rank cs config zero p rises below = absurd (omega arith)
enough_generations rank cs config (suc g) p rises below =
    met_alike rank cs config (is_active_within g cs config) (is_active_within (suc g) cs config) p rises
    (λ q less. enough_generations rank cs config g q rises (omega (arith, less, below)))

-- conditions that run in no circle, with ranks up to the number of parameters
pub record IsRanked (lists : Lists) (rank : ℕ → ℕ) : Type 0 where
  pub rises : Rises rank lists.conditions
  pub bounded : (p : ℕ) → rank p ≤ length lists.params

-- by the activity within one generation less
active_by_parents : (n : ℕ) (cs : List Condition) (config : List ℕ) (p : ℕ) → is_active_within (suc n) cs config p ≡ list_all (is_met config (is_active_within n cs config) p) cs
unfolding is_active_within
active_by_parents n cs config p = refl

-- with more generations than ranks a parameter is active exactly where each condition with it as child is met by an active parent
pub active_within_is : (n : ℕ) (cs : List Condition) (rank : ℕ → ℕ) → Rises rank cs → ((p : ℕ) → rank p ≤ n) → (config : List ℕ) (p : ℕ)
    → is_active_within (suc n) cs config p ≡ list_all (is_met config (is_active_within (suc n) cs config) p) cs
active_within_is n cs rank rises bounded config p =
    active_by_parents n cs config p ∙ met_alike rank cs config (is_active_within n cs config) (is_active_within (suc n) cs config) p rises
    (λ q less. enough_generations rank cs config n q rises (let most = bounded p in omega (arith, less, most)))

-- a parameter is active exactly where each condition with it as child is met by an active parent
pub active_is : (lists : Lists) (rank : ℕ → ℕ) → IsRanked lists rank → (config : List ℕ) (p : ℕ) → is_active lists config p ≡ list_all (is_met config (is_active lists config) p) lists.conditions
active_is lists rank ranked config p = active_within_is (length lists.params) lists.conditions rank ranked.rises ranked.bounded config p
