-- Where no parameter is its own ancestor, each has more ancestors than its parents.
use Rattle.std.proofs.Common.{ℕ, zero, suc, ◌≡◌, ◌<◌, ◌≤◌, ◌⊎◌, inl, inr, Bool, true, false, ◌&&◌, ◌||◌, ◌==◌, List, [], ◌∷◌, ◌++◌, append_assoc, refl, sym, subst, ◌∙◌, arith}
use Rattle.std.specs.List.{All, list_any}
use Rattle.std.proofs.lemmas.Bool.{cases_lt, or_right}
use Rattle.std.proofs.lemmas.Bool.Decides.{nat_tests}
use Rattle.std.proofs.lemmas.List.Elements.{All-nil, All-cons, All-head, All-tail}
use Rattle.param_space.specs.declared.lists.Condition.{Condition}
use Rattle.param_space.specs.Ancestors.{is_ancestor_within, IsNamed, IsAcyclic, count, rank}
use Rattle.param_space.proofs.Counts.{IsWithin, count-le, count-same, count-less}

-- the numbers that a generation adds to those that are known
abbrev step : List Condition → ℕ → (ℕ → Bool) → ℕ → Bool
step cs p known a = list_any (λ c. (c.parent == a) && ((c.child == p) || known c.child)) cs

-- a test that passes more often does so of some element too
any_weaker : {X : Type 0} (f g : X → Bool) (xs : List X) → ((x : X) → f x ≡ true → g x ≡ true) → list_any f xs ≡ true → list_any g xs ≡ true
any_weaker f g [] h some = some
any_weaker f g (x ∷ xs) h some = by (f x) (h x) (any_weaker f g xs h) some
  where
    by : (b : Bool) → (b ≡ true → g x ≡ true) → (list_any f xs ≡ true → list_any g xs ≡ true) → b || list_any f xs ≡ true → g x || list_any g xs ≡ true
    by true here later some = rw (here refl) refl
    by false here later some = or_right (g x) (list_any g xs) (later some)

-- a generation of more known numbers has more
step_within : (cs : List Condition) (p : ℕ) (s t : ℕ → Bool) → IsWithin s t → IsWithin (step cs p s) (step cs p t)
step_within cs p s t h a some =
    any_weaker (λ c. (c.parent == a) && ((c.child == p) || s c.child)) (λ c. (c.parent == a) && ((c.child == p) || t c.child)) cs
    (λ c. further (c.parent == a) (c.child == p) (s c.child) (t c.child) (h c.child)) some
  where
    further : (x y u v : Bool) → (u ≡ true → v ≡ true) → (x && (y || u)) ≡ true → (x && (y || v)) ≡ true
    further true true u v k e = refl
    further true false u v k e = k e
    further false y u v k e = absurd (cc)

-- more generations have no fewer ancestors
generations_within : (cs : List Condition) (p g : ℕ) → IsWithin (is_ancestor_within g cs p) (is_ancestor_within (suc g) cs p)
unfolding is_ancestor_within
generations_within cs p zero a h = absurd (cc)
generations_within cs p (suc g) a h = step_within cs p (is_ancestor_within g cs p) (is_ancestor_within (suc g) cs p) (generations_within cs p g) a h

-- each ancestor is the parent of some condition
parent_named : (n : ℕ) (cs : List Condition) → All (IsNamed n) cs → (p a : ℕ) (s : ℕ → Bool) → step cs p s a ≡ true → a < n
parent_named n [] named p a s h = absurd (cc)
parent_named n (c ∷ cs) named p a s h = by (c.parent == a) refl ((c.child == p) || s c.child) (λ k. parent_named n cs (All-tail (IsNamed n) c cs named) p a s k) h
  where
    is_it : (c.parent == a) ≡ true → a < n
    is_it e = let here = (All-head (IsNamed n) c cs named).parent in grind (arith, nat_tests, here, e)

    by : (x : Bool) → (c.parent == a) ≡ x → (y : Bool) → (step cs p s a ≡ true → a < n) → ((x && y) || step cs p s a) ≡ true → a < n
    by true e y rest k = is_it e
    by false e y rest k = rest k

-- no ancestor is beyond the parameters
pub ancestor_named : (n : ℕ) (cs : List Condition) → All (IsNamed n) cs → (g p a : ℕ) → is_ancestor_within g cs p a ≡ true → a < n
unfolding is_ancestor_within
ancestor_named n cs named zero p a h = absurd (cc)
ancestor_named n cs named (suc g) p a h = parent_named n cs named p a (is_ancestor_within g cs p) h

-- one more generation adds nothing
abbrev IsStable : List Condition → ℕ → ℕ → Type 0
IsStable cs p g = IsWithin (is_ancestor_within (suc g) cs p) (is_ancestor_within g cs p)

stays_stable : (cs : List Condition) (p g : ℕ) → IsStable cs p g → IsStable cs p (suc g)
unfolding is_ancestor_within
stays_stable cs p g stable a h = step_within cs p (is_ancestor_within (suc g) cs p) (is_ancestor_within g cs p) stable a h

-- each generation adds a number, until none does
grows_or_stable : (n : ℕ) (cs : List Condition) → All (IsNamed n) cs → (p g : ℕ) → IsStable cs p g ⊎ (g ≤ count (is_ancestor_within g cs p) n)
grows_or_stable n cs named p zero = inr (omega arith)
grows_or_stable n cs named p (suc g) = by (grows_or_stable n cs named p g)
  where
    grown : g ≤ count (is_ancestor_within g cs p) n → (count (is_ancestor_within g cs p) n < count (is_ancestor_within (suc g) cs p) n) ⊎ (count (is_ancestor_within (suc g) cs p) n ≤ count (is_ancestor_within g cs p) n)
        → IsStable cs p (suc g) ⊎ (suc g ≤ count (is_ancestor_within (suc g) cs p) n)
    grown before (inl more) = inr (omega (arith, before, more))
    grown before (inr same) = inl (stays_stable cs p g (λ a h.
        count-same (is_ancestor_within g cs p) (is_ancestor_within (suc g) cs p) n a (generations_within cs p g) same (ancestor_named n cs named (suc g) p a h) h))

    by : IsStable cs p g ⊎ (g ≤ count (is_ancestor_within g cs p) n) → IsStable cs p (suc g) ⊎ (suc g ≤ count (is_ancestor_within (suc g) cs p) n)
    by (inl stable) = inl (stays_stable cs p g stable)
    by (inr before) = grown before (cases_lt (count (is_ancestor_within g cs p) n) (count (is_ancestor_within (suc g) cs p) n))

-- as many generations as there are parameters find all ancestors
pub stable : (n : ℕ) (cs : List Condition) → All (IsNamed n) cs → (p : ℕ) → IsStable cs p n
stable n cs named p = by (grows_or_stable n cs named p n)
  where
    all : n ≤ count (is_ancestor_within n cs p) n → (a : ℕ) → a < n → is_ancestor_within n cs p a ≡ true
    all h a lt = count-same (is_ancestor_within n cs p) (λ _. true) n a (λ _ _. refl) (omega (arith, h, count-le (λ _. true) n)) lt refl

    by : IsStable cs p n ⊎ (n ≤ count (is_ancestor_within n cs p) n) → IsStable cs p n
    by (inl found) = found
    by (inr h) = λ a k. all h a (ancestor_named n cs named (suc n) p a k)

-- a condition makes q a parent of p
abbrev pub is_parent : List Condition → ℕ → ℕ → Bool
is_parent cs p q = list_any (λ c. (c.parent == q) && (c.child == p)) cs

-- a parent is an ancestor
parent_is_ancestor : (cs : List Condition) (p q g : ℕ) → is_parent cs p q ≡ true → is_ancestor_within (suc g) cs p q ≡ true
unfolding is_ancestor_within
parent_is_ancestor cs p q g h =
    any_weaker (λ c. (c.parent == q) && (c.child == p)) (λ c. (c.parent == q) && ((c.child == p) || is_ancestor_within g cs p c.child)) cs
    (λ c. further (c.parent == q) (c.child == p) (is_ancestor_within g cs p c.child)) h
  where
    further : (x y z : Bool) → (x && y) ≡ true → (x && (y || z)) ≡ true
    further true true z e = refl
    further true false z e = absurd (cc)
    further false y z e = absurd (cc)

-- the ancestors of a parent are ancestors
parents_ancestors : (cs : List Condition) (p q g : ℕ) → is_parent cs p q ≡ true → IsWithin (is_ancestor_within g cs q) (is_ancestor_within (suc g) cs p)
unfolding is_ancestor_within
parents_ancestors cs p q zero parent a h = absurd (cc)
parents_ancestors cs p q (suc g) parent a h =
    any_weaker (λ c. (c.parent == a) && ((c.child == q) || is_ancestor_within g cs q c.child)) (λ c. (c.parent == a) && ((c.child == p) || is_ancestor_within (suc g) cs p c.child)) cs
    (λ c. further (c.parent == a) (c.child == q) (is_ancestor_within g cs q c.child) (c.child == p) (is_ancestor_within (suc g) cs p c.child)
    (λ e. at_parent c e) (λ e. parents_ancestors cs p q g parent c.child e)) h
  where
    at_parent : (c : Condition) → (c.child == q) ≡ true → is_ancestor_within (suc g) cs p c.child ≡ true
    at_parent c e =
        let same : q ≡ c.child = grind (arith, nat_tests, e) in
        subst (λ k. is_ancestor_within (suc g) cs p k ≡ true) same (parent_is_ancestor cs p q g parent)

    further : (x y z v w : Bool) → (y ≡ true → w ≡ true) → (z ≡ true → w ≡ true) → (x && (y || z)) ≡ true → (x && (v || w)) ≡ true
    further true true z v w k l e = or_right v w (k refl)
    further true false z v w k l e = or_right v w (l e)
    further false y z v w k l e = absurd (cc)

-- what passes some element, or what else each that passes shows
any_either : {X : Type 0} (f g : X → Bool) (G : Type 0) (xs : List X) → ((x : X) → f x ≡ true → (g x ≡ true) ⊎ G) → list_any f xs ≡ true → (list_any g xs ≡ true) ⊎ G
any_either f g G [] h some = absurd (cc)
any_either f g G (x ∷ xs) h some = by (f x) (h x) (any_either f g G xs h) some
  where
    later : (list_any g xs ≡ true) ⊎ G → (g x || list_any g xs ≡ true) ⊎ G
    later (inl e) = inl (or_right (g x) (list_any g xs) e)
    later (inr e) = inr e

    here : (g x ≡ true) ⊎ G → (g x || list_any g xs ≡ true) ⊎ G
    here (inl e) = inl (rw e refl)
    here (inr e) = inr e

    by : (b : Bool) → (b ≡ true → (g x ≡ true) ⊎ G) → (list_any f xs ≡ true → (list_any g xs ≡ true) ⊎ G) → b || list_any f xs ≡ true → (g x || list_any g xs ≡ true) ⊎ G
    by true first rest some = here (first refl)
    by false first rest some = later (rest some)

-- what has an ancestor is the child of some condition
has_condition : (cs : List Condition) (q g a : ℕ) → is_ancestor_within g cs q a ≡ true → list_any (λ c. c.child == q) cs ≡ true
unfolding is_ancestor_within
has_condition cs q zero a h = absurd (cc)
has_condition cs q (suc g) a h =
    either (any_either (λ c. (c.parent == a) && ((c.child == q) || is_ancestor_within g cs q c.child)) (λ c. c.child == q) (list_any (λ c. c.child == q) cs ≡ true) cs
    (λ c e. cases (c.parent == a) (c.child == q) (is_ancestor_within g cs q c.child) (has_condition cs q g c.child) e) h)
  where
    cases : (x y z : Bool) → (z ≡ true → list_any (λ c. c.child == q) cs ≡ true) → (x && (y || z)) ≡ true → (y ≡ true) ⊎ (list_any (λ c. c.child == q) cs ≡ true)
    cases true true z k e = inl refl
    cases true false z k e = inr (k e)
    cases false y z k e = absurd (cc)

    either : (list_any (λ c. c.child == q) cs ≡ true) ⊎ (list_any (λ c. c.child == q) cs ≡ true) → list_any (λ c. c.child == q) cs ≡ true
    either (inl e) = e
    either (inr e) = e

no_own_child : (n : ℕ) (all cs : List Condition) (q : ℕ) → All (λ c. is_ancestor_within n all c.child c.child ≡ false) cs → list_any (λ c. c.child == q) cs ≡ true → is_ancestor_within n all q q ≡ false
no_own_child n all [] q acyclic some = absurd (cc)
no_own_child n all (c ∷ cs) q acyclic some =
    by (c.child == q) refl (no_own_child n all cs q (All-tail (λ d. is_ancestor_within n all d.child d.child ≡ false) c cs acyclic)) some
  where
    here : (c.child == q) ≡ true → is_ancestor_within n all q q ≡ false
    here e =
        let same : c.child ≡ q = grind (arith, nat_tests, e) in
        subst (λ k. is_ancestor_within n all k k ≡ false) same (All-head (λ d. is_ancestor_within n all d.child d.child ≡ false) c cs acyclic)

    by : (x : Bool) → (c.child == q) ≡ x → (list_any (λ d. d.child == q) cs ≡ true → is_ancestor_within n all q q ≡ false) → x || list_any (λ d. d.child == q) cs ≡ true → is_ancestor_within n all q q ≡ false
    by true e later some = here e
    by false e later some = later some

-- then no parameter is its own ancestor
pub no_own_ancestor : (n : ℕ) (cs : List Condition) → IsAcyclic n cs → (q : ℕ) → is_ancestor_within n cs q q ≡ false
no_own_ancestor n cs acyclic q = by (is_ancestor_within n cs q q) refl
  where
    by : (b : Bool) → is_ancestor_within n cs q q ≡ b → b ≡ false
    by true e = sym e ∙ no_own_child n cs cs q acyclic (has_condition cs q n q e)
    by false e = refl

-- a parent has fewer
rank_of_parent : (n : ℕ) (cs : List Condition) → All (IsNamed n) cs → IsAcyclic n cs → (p q : ℕ) → q < n → is_parent cs p q ≡ true → rank n cs q < rank n cs p
rank_of_parent n cs named acyclic p q lt parent =
    count-less (is_ancestor_within n cs q) (is_ancestor_within n cs p) n q
    (λ a h. stable n cs named p a (parents_ancestors cs p q n parent a h))
    lt
    (stable n cs named p q (parent_is_ancestor cs p q n parent))
    (no_own_ancestor n cs acyclic q)

-- the condition c is one of these
edge_of : (all before cs : List Condition) (c : Condition) → all ≡ before ++ c ∷ cs → is_parent all c.child c.parent ≡ true
edge_of all [] cs c e =
    let first : (c.parent == c.parent) ≡ true = grind (arith, nat_tests) in
    let second : (c.child == c.child) ≡ true = grind (arith, nat_tests) in
    subst (λ ds. is_parent ds c.child c.parent ≡ true) (sym e) (rw first (rw second refl))
edge_of all (b ∷ before) cs c e =
    subst (λ ds. is_parent ds c.child c.parent ≡ true) (sym e) (or_right ((b.parent == c.parent) && (b.child == c.child)) (is_parent (before ++ c ∷ cs) c.child c.parent) (edge_of (before ++ c ∷ cs) before cs c refl))

rises_from : (n : ℕ) (all before cs : List Condition) → All (IsNamed n) all → IsAcyclic n all → all ≡ before ++ cs → All (IsNamed n) cs → All (λ c. rank n all c.parent < rank n all c.child) cs
rises_from n all before [] named acyclic e later = All-nil (λ c. rank n all c.parent < rank n all c.child)
rises_from n all before (c ∷ cs) named acyclic e later =
    All-cons (λ d. rank n all d.parent < rank n all d.child) c cs
    (rank_of_parent n all named acyclic c.child c.parent (All-head (IsNamed n) c cs later).parent (edge_of all before cs c e))
    (rises_from n all (before ++ c ∷ []) cs named acyclic (e ∙ sym (append_assoc before (c ∷ []) cs)) (All-tail (IsNamed n) c cs later))

-- each condition's parent has fewer ancestors than its child
pub rank_rises : (n : ℕ) (cs : List Condition) → All (IsNamed n) cs → IsAcyclic n cs → All (λ c. rank n cs c.parent < rank n cs c.child) cs
rank_rises n cs named acyclic = rises_from n cs [] cs named acyclic refl named

-- there are no more ancestors than parameters
pub rank_below : (n : ℕ) (cs : List Condition) (p : ℕ) → rank n cs p ≤ n
rank_below n cs p = count-le (is_ancestor_within n cs p) n
