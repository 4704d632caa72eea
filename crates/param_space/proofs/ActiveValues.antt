-- The names and values of a configuration, one parameter after another.
use Rattle.std.proofs.Common.{◌≡◌, ◌<◌, ◌≤◌, ◌+◌, ◌++◌, ◌∙◌, ℕ, zero, suc, Bool, true, false, cond, List, [], ◌∷◌, length, take, take_all, get_or, refl, ap, arith, add-one}
use Rattle.std.specs.List.{slice_index_or}
use Rattle.std.proofs.lemmas.List.{append-nil}
use Rattle.param_space.specs.declared.lists.Param.{Param}
use Rattle.param_space.specs.Space.{Belongs}
use Rattle.param_space.specs.Settings.{named_values, at_places}
use Rattle.param_space.proofs.BelongsLemmas.{length-Belongs}

-- a parameter's name and the value with this number
abbrev pub named_value : Param → ℕ → List ℕ × List ℕ
named_value p v = (p.name, slice_index_or p.values v [])

pub named_values-more : (params : List Param) (values : List ℕ) (i : ℕ) (d : Param) → i < length params → i < length values
    → named_values (take (suc i) params) (take (suc i) values) ≡ named_values (take i params) (take i values) ++ named_value (get_or params i d) (get_or values i 0) ∷ []
named_values-more [] values i d h k = absurd (omega arith)
named_values-more (p ∷ ps) [] i d h k = absurd (omega arith)
named_values-more (p ∷ ps) (v ∷ vs) zero d h k = refl
named_values-more (p ∷ ps) (v ∷ vs) (suc i) d h k = ap (λ rest. named_value p v ∷ rest) (named_values-more ps vs i d (omega arith) (omega arith))

-- one element more, where its place passes and where it doesn't
at_places-more : {X : Type 0} (passes : ℕ → Bool) (place : ℕ) (xs : List X) (x : X) → at_places passes place (xs ++ x ∷ []) ≡ at_places passes place xs ++ cond (passes (place + length xs)) (x ∷ []) []
at_places-more passes place [] x = only (passes place) (passes (place + 0)) (ap passes (let e : place ≡ place + 0 = omega arith in e))
  where
    only : (a b : Bool) → a ≡ b → cond a (x ∷ []) [] ≡ [] ++ cond b (x ∷ []) []
    only true true e = refl
    only false false e = refl
    only true false e = absurd (cc)
    only false true e = absurd (cc)
at_places-more passes place (y ∷ ys) x = by (passes place) (at_places-more passes (place + 1) ys x ∙ ap (λ k. at_places passes (place + 1) ys ++ cond (passes k) (x ∷ []) []) (let e : (place + 1) + length ys ≡ place + suc (length ys) = omega arith in e))
  where
    by : (b : Bool) → at_places passes (place + 1) (ys ++ x ∷ []) ≡ at_places passes (place + 1) ys ++ cond (passes (place + suc (length ys))) (x ∷ []) []
        → cond b (y ∷ at_places passes (place + 1) (ys ++ x ∷ [])) (at_places passes (place + 1) (ys ++ x ∷ [])) ≡ cond b (y ∷ at_places passes (place + 1) ys) (at_places passes (place + 1) ys) ++ cond (passes (place + suc (length ys))) (x ∷ []) []
    by true rest = ap (λ zs. y ∷ zs) rest
    by false rest = rest

length-named_values : (params : List Param) (values : List ℕ) (i : ℕ) → i ≤ length params → i ≤ length values → length (named_values (take i params) (take i values)) ≡ i
length-named_values params values zero h k = refl
length-named_values [] values (suc i) h k = absurd (omega arith)
length-named_values (p ∷ ps) [] (suc i) h k = absurd (omega arith)
length-named_values (p ∷ ps) (v ∷ vs) (suc i) h k = let more = length-named_values ps vs i (omega arith) (omega arith) in omega (arith, more)

-- the names and values of those of the first i parameters whose places pass
abbrev pub values_until : (ℕ → Bool) → List Param → List ℕ → ℕ → List (List ℕ × List ℕ)
values_until passes params values i = at_places passes 0 (named_values (take i params) (take i values))

-- the parameter at place i adds its own where it passes
until_more : (passes : ℕ → Bool) (params : List Param) (values : List ℕ) (i : ℕ) (d : Param) (b : Bool) → Belongs params values → i < length params → passes i ≡ b
    → values_until passes params values (i + 1) ≡ values_until passes params values i ++ cond b (named_value (get_or params i d) (get_or values i 0) ∷ []) []
until_more passes params values i d b h lt mark =
    let long = length-Belongs params values h in
    let so_far : List (List ℕ × List ℕ) = named_values (take i params) (take i values) in
    let here = named_value (get_or params i d) (get_or values i 0) in
    let place : 0 + length so_far ≡ i = omega (arith, length-named_values params values i (omega (arith, lt)) (omega (arith, lt, long))) in
    rw add-one (ap (at_places passes 0) (named_values-more params values i d lt (omega (arith, lt, long)))
    ∙ at_places-more passes 0 so_far here
    ∙ ap (λ k. at_places passes 0 so_far ++ cond (passes k) (here ∷ []) []) place
    ∙ ap (λ c. at_places passes 0 so_far ++ cond c (here ∷ []) []) mark)

pub passing_more : (passes : ℕ → Bool) (params : List Param) (values : List ℕ) (i : ℕ) (d : Param) → Belongs params values → i < length params → passes i ≡ true
    → values_until passes params values (i + 1) ≡ values_until passes params values i ++ named_value (get_or params i d) (get_or values i 0) ∷ []
passing_more passes params values i d h lt mark = until_more passes params values i d true h lt mark

-- and nothing where it doesn't
pub failing_more : (passes : ℕ → Bool) (params : List Param) (values : List ℕ) (i : ℕ) (d : Param) → Belongs params values → i < length params → passes i ≡ false
    → values_until passes params values (i + 1) ≡ values_until passes params values i
failing_more passes params values i d h lt mark = until_more passes params values i d false h lt mark ∙ append-nil (values_until passes params values i)

-- after all parameters these are all that pass
pub until_all : (passes : ℕ → Bool) (params : List Param) (values : List ℕ) (i : ℕ) → Belongs params values → length params ≤ i → values_until passes params values i ≡ at_places passes 0 (named_values params values)
until_all passes params values i h end =
    let short : length values ≤ i = omega (arith, length-Belongs params values h, end) in
    ap (λ ps. at_places passes 0 (named_values ps (take i values))) (take_all i params end)
    ∙ ap (λ vs. at_places passes 0 (named_values params vs)) (take_all i values short)
