-- Settled configurations: they are canonical, and belong to the space.
use Rattle.std.proofs.Common.{ℕ, zero, suc, ◌+◌, ◌≡◌, ◌<◌, Bool, true, false, not, ◌&&◌, ◌||◌, ◌==◌, cond, List, [], ◌∷◌, length, get_or, refl, sym, ap, ◌∙◌, arith}
use Rattle.std.specs.List.{All, list_any, slice_index_or}
use Rattle.std.proofs.lemmas.Bool.Decides.{nat_tests}
use Rattle.std.proofs.lemmas.Slice.Eq.{bytes_eq-Decides}
use Rattle.param_space.specs.declared.lists.Param.{Param}
use Rattle.param_space.specs.declared.lists.Condition.{Condition}
use Rattle.param_space.specs.Space.{Lists, Belongs, defaults}
use Rattle.param_space.specs.Configurations.{is_active, settled_values, settled_config, is_canonical}
use Rattle.param_space.proofs.ActiveParams.{is_met, all_alike, IsRanked, active_is}

-- the values that a configuration has once it is settled
settled_value : (lists : Lists) (config : List ℕ) (place : ℕ) (ps : List Param) (vs : List ℕ) (i : ℕ) → Belongs ps vs → i < length ps → is_active lists config (place + i) ≡ true
    → get_or (settled_values lists config place ps vs) i 0 ≡ get_or vs i 0
settled_value lists config place [] vs i h lt active = absurd (omega arith)
settled_value lists config place (p ∷ ps) [] i h lt active = absurd h
settled_value lists config place (p ∷ ps) (v ∷ vs) zero h lt active =
    let here : is_active lists config place ≡ true = ap (is_active lists config) (let e : place ≡ place + 0 = omega arith in e) ∙ active in
    rw here refl
settled_value lists config place (p ∷ ps) (v ∷ vs) (suc i) h lt active =
    settled_value lists config (place + 1) ps vs i h.1 (omega arith) (ap (is_active lists config) (let e : (place + 1) + i ≡ place + suc i = omega arith in e) ∙ active)

never_both : (x y : Bool) → (x && false) ≡ (y && false)
never_both true true = refl
never_both true false = refl
never_both false true = refl
never_both false false = refl

-- settling changes no parameter's activity
settled_active_below : (lists : Lists) (rank : ℕ → ℕ) → IsRanked lists rank → All (λ c. c.parent < length lists.params) lists.conditions → (config : List ℕ) → Belongs lists.params config → (k p : ℕ) → rank p < k
    → is_active lists (settled_config lists config) p ≡ is_active lists config p
settled_active_below lists rank ranked named config belongs zero p below = absurd (omega arith)
settled_active_below lists rank ranked named config belongs (suc k) p below =
    active_is lists rank ranked (settled_config lists config) p
    ∙ all_alike (λ c. (rank c.parent < rank c.child) × (c.parent < length lists.params)) (is_met (settled_config lists config) (is_active lists (settled_config lists config)) p) (is_met config (is_active lists config) p) lists.conditions
    (both lists.conditions ranked.rises named)
    (λ c holds. at_child c (c.child == p) refl holds.1 (λ e. settled_active_below lists rank ranked named config belongs k c.parent
    (let child : c.child ≡ p = grind (arith, nat_tests, e) in omega (arith, holds.0, below, ap rank child))))
    ∙ sym (active_is lists rank ranked config p)
  where
    both : (cs : List Condition) → All (λ c. rank c.parent < rank c.child) cs → All (λ c. c.parent < length lists.params) cs → All (λ c. (rank c.parent < rank c.child) × (c.parent < length lists.params)) cs
    both cs h k = λ i d lt. (h i d lt, k i d lt)

    same_met : (c : Condition) (a b : Bool) → is_active lists (settled_config lists config) c.parent ≡ a → is_active lists config c.parent ≡ b → a ≡ b → c.parent < length lists.params
        → (list_any (λ v. slice_index_or (settled_config lists config) c.parent 0 == v) c.values && a) ≡ (list_any (λ v. slice_index_or config c.parent 0 == v) c.values && b)
    same_met c a true e f same lt =
        let value : get_or (settled_config lists config) c.parent 0 ≡ get_or config c.parent 0 = settled_value lists config 0 lists.params config c.parent belongs lt (ap (is_active lists config) (let z : 0 + c.parent ≡ c.parent = omega arith in z) ∙ f) in
        rw same (ap (λ w. list_any (λ v. w == v) c.values && true) value)
    same_met c a false e f same lt = rw same (never_both (list_any (λ v. slice_index_or (settled_config lists config) c.parent 0 == v) c.values) (list_any (λ v. slice_index_or config c.parent 0 == v) c.values))

    at_child : (c : Condition) (b : Bool) → (c.child == p) ≡ b → c.parent < length lists.params → ((c.child == p) ≡ true → is_active lists (settled_config lists config) c.parent ≡ is_active lists config c.parent)
        → not b || (list_any (λ v. slice_index_or (settled_config lists config) c.parent 0 == v) c.values && is_active lists (settled_config lists config) c.parent) ≡ not b || (list_any (λ v. slice_index_or config c.parent 0 == v) c.values && is_active lists config c.parent)
    at_child c false e lt same = refl
    at_child c true e lt same = same_met c (is_active lists (settled_config lists config) c.parent) (is_active lists config c.parent) refl refl (same e) lt

-- settling changes no parameter's activity
pub settled_active : (lists : Lists) (rank : ℕ → ℕ) → IsRanked lists rank → All (λ c. c.parent < length lists.params) lists.conditions → (config : List ℕ) → Belongs lists.params config → (p : ℕ)
    → is_active lists (settled_config lists config) p ≡ is_active lists config p
settled_active lists rank ranked named config belongs p = settled_active_below lists rank ranked named config belongs (suc (rank p)) p (omega arith)

-- settling again changes nothing
settled_twice : (lists : Lists) (config config' : List ℕ) → ((p : ℕ) → is_active lists config' p ≡ is_active lists config p) → (place : ℕ) (ps : List Param) (vs : List ℕ)
    → settled_values lists config' place ps (settled_values lists config place ps vs) ≡ settled_values lists config place ps vs
settled_twice lists config config' same place [] vs = refl
settled_twice lists config config' same place (p ∷ ps) [] = refl
settled_twice lists config config' same place (p ∷ ps) (v ∷ vs) =
    at_head (is_active lists config' place) (is_active lists config place) (same place) ∙ ap (λ rest. cond (is_active lists config place) v p.default ∷ rest) (settled_twice lists config config' same (place + 1) ps vs)
  where
    at_head : (a b : Bool) → a ≡ b → {rest : List ℕ} → cond a (cond b v p.default) p.default ∷ rest ≡ cond b v p.default ∷ rest
    at_head true true e = refl
    at_head false false e = refl
    at_head true false e = absurd (cc)
    at_head false true e = absurd (cc)

-- a settled configuration is canonical
pub settled_canonical : (lists : Lists) (rank : ℕ → ℕ) → IsRanked lists rank → All (λ c. c.parent < length lists.params) lists.conditions → (config : List ℕ) → Belongs lists.params config
    → is_canonical lists (settled_config lists config) ≡ true
settled_canonical lists rank ranked named config belongs =
    (bytes_eq-Decides (settled_config lists (settled_config lists config)) (settled_config lists config)).1
    (settled_twice lists config (settled_config lists config) (settled_active lists rank ranked named config belongs) 0 lists.params config)

-- where the defaults belong to the space, so does what is settled
settled_from_belongs : (lists : Lists) (config : List ℕ) (place : ℕ) (ps : List Param) (vs : List ℕ) → Belongs ps (defaults ps) → Belongs ps vs → Belongs ps (settled_values lists config place ps vs)
settled_from_belongs lists config place [] [] d h = tt
settled_from_belongs lists config place [] (v ∷ vs) d h = absurd h
settled_from_belongs lists config place (p ∷ ps) [] d h = absurd h
settled_from_belongs lists config place (p ∷ ps) (v ∷ vs) d h =
    (either (is_active lists config place), settled_from_belongs lists config (place + 1) ps vs d.1 h.1)
  where
    either : (b : Bool) → cond b v p.default < length p.values
    either true = h.0
    either false = d.0

pub settled_belongs : (lists : Lists) (config : List ℕ) → Belongs lists.params (defaults lists.params) → Belongs lists.params config → Belongs lists.params (settled_config lists config)
settled_belongs lists config d h = settled_from_belongs lists config 0 lists.params config d h

-- the defaults are settled
defaults_settled_from : (lists : Lists) (config : List ℕ) (place : ℕ) (ps : List Param) → settled_values lists config place ps (defaults ps) ≡ defaults ps
defaults_settled_from lists config place [] = refl
defaults_settled_from lists config place (p ∷ ps) =
    at_head (is_active lists config place) ∙ ap (λ rest. p.default ∷ rest) (defaults_settled_from lists config (place + 1) ps)
  where
    at_head : (b : Bool) → {rest : List ℕ} → cond b p.default p.default ∷ rest ≡ p.default ∷ rest
    at_head true = refl
    at_head false = refl

pub defaults_canonical : (lists : Lists) → is_canonical lists (defaults lists.params) ≡ true
defaults_canonical lists = (bytes_eq-Decides (settled_config lists (defaults lists.params)) (defaults lists.params)).1 (defaults_settled_from lists (defaults lists.params) 0 lists.params)
