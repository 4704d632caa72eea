-- What the conditions say of a parameter, gone through in an order with parents first.
use Rattle.std.proofs.Common.{ℕ, suc, ◌≡◌, ◌≢◌, ◌<◌, ◌+◌, Bool, true, false, not, ◌&&◌, ◌||◌, ◌==◌, List, [], ◌∷◌, length, take, drop, get_or, slice_set, refl, sym, ap, subst, ◌∙◌, arith}
use Rattle.std.specs.List.{All, list_any, list_all, slice_index_or}
use Rattle.std.specs.List.Sorted.{IsPermutation}
use Rattle.std.proofs.lemmas.Bool.Decides.{nat_tests}
use Rattle.std.proofs.lemmas.Grind.{get_or-set_at}
use Rattle.std.proofs.lemmas.List.{get_or-map, length-map, get_or-set_other, get_or-drop, length-drop, take-append-drop}
use Rattle.std.proofs.Math.Bool.{and-true, and-false}
use Rattle.std.proofs.lemmas.List.Folds.{list_all-append, list_all_more}
use Rattle.std.proofs.lemmas.List.Sorted.{list_any-IsPermutation}
use Rattle.param_space.specs.Limits
use Rattle.param_space.specs.declared.lists.Condition.{Condition}
use Rattle.param_space.specs.Configurations.{is_active_within}
use Rattle.param_space.specs.Ancestors.{IsNamed, IsAcyclic, rank}
use Rattle.param_space.proofs.Ranks.{rank_rises, rank_below}
use Rattle.param_space.proofs.ActiveParams.{is_met, active_within_is}
use Rattle.param_space.specs.Order.{no_condition, condition_at, in_order, AreParentsFirst, IsOrder}

-- all elements pass where none fails
all_by_any : {X : Type 0} (p : X → Bool) (xs : List X) → list_all p xs ≡ not (list_any (λ x. not (p x)) xs)
all_by_any p [] = refl
all_by_any p (x ∷ xs) = by (p x) (all_by_any p xs)
  where
    by : (b : Bool) → list_all p xs ≡ not (list_any (λ y. not (p y)) xs) → b && list_all p xs ≡ not (not b || list_any (λ y. not (p y)) xs)
    by true h = h
    by false h = refl

-- a list and its permutation pass a test alike
all_permuted : {X : Type 0} (p : X → Bool) (xs ys : List X) → IsPermutation xs ys → list_all p xs ≡ list_all p ys
all_permuted p xs ys moved = all_by_any p xs ∙ ap not (list_any-IsPermutation (λ x. not (p x)) xs ys moved) ∙ sym (all_by_any p ys)

-- conditions of other children say nothing of q
others_met : (config : List ℕ) (active : ℕ → Bool) (q : ℕ) (cs : List Condition) → ((k : ℕ) → k < length cs → (condition_at cs k).child ≢ q) → list_all (is_met config active q) cs ≡ true
others_met config active q [] other = refl
others_met config active q (c ∷ cs) other =
    let first : (c.child == q) ≡ false = (let ne = other 0 (omega arith) in grind (arith, nat_tests, ne)) in
    rw first (others_met config active q cs (λ k lt. other (suc k) (omega (arith, lt))))

-- once the conditions before one are gone through, all is said of its parent
pub parent_done : (config : List ℕ) (active : ℕ → Bool) (cs : List Condition) (i : ℕ) → AreParentsFirst cs → i < length cs
    → list_all (is_met config active (condition_at cs i).parent) (take i cs) ≡ list_all (is_met config active (condition_at cs i).parent) cs
parent_done config active cs i first lt =
    let q : ℕ = (condition_at cs i).parent in
    let later : list_all (is_met config active q) (drop i cs) ≡ true =
    others_met config active q (drop i cs) (λ k below same. first i (i + k) (omega arith) (omega (arith, below, length-drop i cs)) (sym (ap (λ c. c.child) (get_or-drop i cs k no_condition)) ∙ same)) in
    let both : list_all (is_met config active q) cs ≡ list_all (is_met config active q) (take i cs) && list_all (is_met config active q) (drop i cs) =
    ap (list_all (is_met config active q)) (sym (take-append-drop i cs)) ∙ list_all-append (is_met config active q) (take i cs) (drop i cs) in
    sym (both ∙ ap (λ b. list_all (is_met config active q) (take i cs) && b) later ∙ and-true (list_all (is_met config active q) (take i cs)))

-- what is known of an order of the conditions of a configuration with n values
pub record IsGoneThrough (n : ℕ) (cs : List Condition) (order : List ℕ) : Type 0 where
  pub named : All (IsNamed n) cs
  pub acyclic : IsAcyclic n cs
  pub ordered : IsOrder cs order

-- the activity of a parameter, by the conditions in order
pub all_said : (n : ℕ) (cs : List Condition) (order config : List ℕ) → IsGoneThrough n cs order → (p : ℕ)
    → list_all (is_met config (is_active_within (suc n) cs config) p) (in_order cs order) ≡ is_active_within (suc n) cs config p
all_said n cs order config known p =
    sym (all_permuted (is_met config (is_active_within (suc n) cs config) p) cs (in_order cs order) known.ordered.all)
    ∙ sym (active_within_is n cs (rank n cs) (rank_rises n cs known.named known.acyclic) (rank_below n cs) config p)

-- what is said of a parameter by the first i conditions in order
abbrev pub met_so_far : ℕ → List Condition → List ℕ → List ℕ → ℕ → ℕ → Bool
met_so_far n cs order config i p = list_all (is_met config (is_active_within (suc n) cs config) p) (take i (in_order cs order))

-- the condition that is read in its turn
pub turn_is : (cs : List Condition) (order : List ℕ) (i k : ℕ) (c : Condition) → i < length order → k ≡ get_or order i 0 → c ≡ condition_at cs k → c ≡ condition_at (in_order cs order) i
turn_is cs order i k c lt at is = is ∙ ap (condition_at cs) at ∙ sym (get_or-map (condition_at cs) order i 0 no_condition lt)

-- a test of one more condition
said_more : (n : ℕ) (cs : List Condition) (order config : List ℕ) (i p : ℕ) → i < length order
    → met_so_far n cs order config (i + 1) p ≡ met_so_far n cs order config i p && is_met config (is_active_within (suc n) cs config) p (condition_at (in_order cs order) i)
said_more n cs order config i p lt =
    list_all_more (is_met config (is_active_within (suc n) cs config) p) (in_order cs order) i no_condition (omega (arith, lt, length-map order (condition_at cs)))

-- whether the condition in turn is met is told by the marks so far
pub met_told : (n : ℕ) (cs : List Condition) (order config : List ℕ) (i : ℕ) (c : Condition) (marks : List Bool) (met : Bool) → IsGoneThrough n cs order → i < length order → c ≡ condition_at (in_order cs order) i
    → ((p : ℕ) → p < Limits.max_params → slice_index_or marks p false ≡ met_so_far n cs order config i p) → c.parent < Limits.max_params
    → met ≡ list_any (λ v. slice_index_or config c.parent 0 == v) c.values && slice_index_or marks c.parent false
    → met ≡ list_any (λ v. slice_index_or config c.parent 0 == v) c.values && is_active_within (suc n) cs config c.parent
met_told n cs order config i c marks met known lt at so_far below is =
    let done : met_so_far n cs order config i c.parent ≡ is_active_within (suc n) cs config c.parent =
    subst (λ d. met_so_far n cs order config i d.parent ≡ is_active_within (suc n) cs config d.parent) (sym at)
    (parent_done config (is_active_within (suc n) cs config) (in_order cs order) i known.ordered.parents_first (omega (arith, lt, length-map order (condition_at cs)))
    ∙ all_said n cs order config known (condition_at (in_order cs order) i).parent) in
    is ∙ ap (λ b. list_any (λ v. slice_index_or config c.parent 0 == v) c.values && b) (so_far c.parent below ∙ done)

-- a condition that is met changes no mark
pub met_said : (n : ℕ) (cs : List Condition) (order config : List ℕ) (i p : ℕ) (c : Condition) → i < length order → c ≡ condition_at (in_order cs order) i
    → list_any (λ v. slice_index_or config c.parent 0 == v) c.values && is_active_within (suc n) cs config c.parent ≡ true
    → met_so_far n cs order config (i + 1) p ≡ met_so_far n cs order config i p
met_said n cs order config i p c lt at met =
    said_more n cs order config i p lt
    ∙ ap (λ b. met_so_far n cs order config i p && b) (subst (λ d. is_met config (is_active_within (suc n) cs config) p d ≡ true) at (holds (c.child == p)))
    ∙ and-true (met_so_far n cs order config i p)
  where
    holds : (b : Bool) → (not b || (list_any (λ v. slice_index_or config c.parent 0 == v) c.values && is_active_within (suc n) cs config c.parent)) ≡ true
    holds true = met
    holds false = refl

-- one that isn't takes its child's
pub unmet_said : (n : ℕ) (cs : List Condition) (order config : List ℕ) (i p : ℕ) (c : Condition) (marks : List Bool) → i < length order → c ≡ condition_at (in_order cs order) i
    → list_any (λ v. slice_index_or config c.parent 0 == v) c.values && is_active_within (suc n) cs config c.parent ≡ false
    → c.child < length marks → slice_index_or marks p false ≡ met_so_far n cs order config i p
    → slice_index_or (slice_set marks c.child false) p false ≡ met_so_far n cs order config (i + 1) p
unmet_said n cs order config i p c marks lt at unmet below so_far =
    by (c.child == p) refl ∙ sym (said_more n cs order config i p lt ∙ ap (λ d. met_so_far n cs order config i p && is_met config (is_active_within (suc n) cs config) p d) (sym at))
  where
    by : (b : Bool) → (c.child == p) ≡ b → slice_index_or (slice_set marks c.child false) p false ≡ met_so_far n cs order config i p && (not b || (list_any (λ v. slice_index_or config c.parent 0 == v) c.values && is_active_within (suc n) cs config c.parent))
    by true e =
        let same : p ≡ c.child = grind (arith, nat_tests, e) in
        get_or-set_at marks c.child p false false same below ∙ sym (ap (λ b. met_so_far n cs order config i p && b) unmet ∙ and-false (met_so_far n cs order config i p))
    by false e =
        let other : p ≢ c.child = grind (arith, nat_tests, e) in
        get_or-set_other marks c.child p false false other ∙ so_far ∙ sym (and-true (met_so_far n cs order config i p))
