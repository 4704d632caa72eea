-- Names and values as numbers: texts that differ have numbers that differ, and the numbers are in range.
use Rattle.std.specs.Prelude.{ℕ, zero, suc, ◌≡◌, ◌==◌, Bool, true, false, not, List, [], ◌∷◌, Option, Some, None, nat_lt, length, map, slice_index_or, get_or, position, bytes_eq, refl}
use Rattle.std.specs.List.{list_any, list_all}
use Rattle.std.proofs.Common.{ap, sym, ◌∙◌, inl, inr, arith}
use Rattle.std.proofs.lemmas.Bool.{and_parts, and_from, or_cases, or_left, or_right, both_ways, not-true, not_from_false, false_from_ne_true, eqb-true}
use Rattle.std.proofs.lemmas.Bool.Decides.{nat_tests}
use Rattle.std.proofs.lemmas.List.{map-id}
use Rattle.std.proofs.lemmas.List.Quantifiers.{position-Some}
use Rattle.std.proofs.lemmas.Slice.Eq.{bytes_eq-Decides}
use Rattle.param_space.specs.declared.lists.Param.{Param}
use Rattle.param_space.specs.Space.{value_count}
use Rattle.plain_text.specs.Texts.{texts_differ}
use Rattle.param_space.specs.Faults.{numbers_differ}
use Rattle.param_files.specs.declared.statements.NamedPick.{NamedPick}
use Rattle.param_files.specs.Reading.{before, all_some, param_number, value_number}

-- the reading of a list's first element and of the others
pub parts_read : {X Y : Type 0} (f : X → Option Y) (x : X) (xs : List X) (ys : List Y) → all_some f (x ∷ xs) ≡ Some ys → (y : Y) × (zs : List Y) × (f x ≡ Some y) × (all_some f xs ≡ Some zs) × (ys ≡ y ∷ zs)
parts_read {Y = Y} f x xs ys h = by (f x) (all_some f xs) refl refl h
  where
    by : (o : Option Y) (p : Option (List Y)) → f x ≡ o → all_some f xs ≡ p → before o p ≡ Some ys → (y : Y) × (zs : List Y) × (f x ≡ Some y) × (all_some f xs ≡ Some zs) × (ys ≡ y ∷ zs)
    by None p a b h = absurd (cc)
    by (Some y) None a b h = absurd (cc)
    by (Some y) (Some zs) a b h = let same : ys ≡ y ∷ zs = cc in (y, zs, a, b, same)

nothing_read : {Y : Type 0} (ys : List Y) → Some [] ≡ Some ys → ys ≡ []
nothing_read ys h = cc

-- there are as many readings as elements
pub length-all_some : {X Y : Type 0} (f : X → Option Y) (xs : List X) (ys : List Y) → all_some f xs ≡ Some ys → length ys ≡ length xs
length-all_some f [] ys h = ap length (nothing_read ys h)
length-all_some f (x ∷ xs) ys h = let p = parts_read f x xs ys h in ap length p.4 ∙ ap suc (length-all_some f xs p.1 p.3)

-- what each reading passes, all pass
pub list_all-all_some : {X Y : Type 0} (f : X → Option Y) (test : Y → Bool) (xs : List X) (ys : List Y) → ((x : X) (y : Y) → f x ≡ Some y → test y ≡ true) → all_some f xs ≡ Some ys → list_all test ys ≡ true
list_all-all_some f test [] ys passes h = ap (list_all test) (nothing_read ys h)
list_all-all_some f test (x ∷ xs) ys passes h =
    let p = parts_read f x xs ys h in
    ap (list_all test) p.4 ∙ and_from (test p.0) (list_all test p.1) (passes x p.0 p.2) (list_all-all_some f test xs p.1 passes p.3)

-- readings of readings
pub map-all_some : {X Y Z : Type 0} (f : X → Option Y) (g : X → Option Z) (h : Z → Y) (xs : List X) (ys : List Y) (zs : List Z) → ((x : X) (z : Z) → g x ≡ Some z → f x ≡ Some (h z)) → all_some f xs ≡ Some ys → all_some g xs ≡ Some zs → map h zs ≡ ys
map-all_some f g h [] ys zs same a b = ap (map h) (nothing_read zs b) ∙ sym (nothing_read ys a)
map-all_some f g h (x ∷ xs) ys zs same a b =
    let p = parts_read f x xs ys a in
    let q = parts_read g x xs zs b in
    let first : h q.0 ≡ p.0 = same_some (h q.0) p.0 (sym (same x q.0 q.2) ∙ p.2) in
    ap (map h) q.4 ∙ ap (λ y. y ∷ map h q.1) first ∙ ap (λ rest. p.0 ∷ rest) (map-all_some f g h xs p.1 q.1 same p.3 q.3) ∙ sym p.4
  where
    same_some : {A : Type 0} (x y : A) → Some x ≡ Some y → x ≡ y
    same_some x y e = cc

module _ {X : Type 0} (f : X → Option ℕ) (key : X → List ℕ) (apart : (x y : X) (n : ℕ) → f x ≡ Some n → f y ≡ Some n → bytes_eq (key x) (key y) ≡ true) where
  any_key : (x : X) (n : ℕ) (xs : List X) (ns : List ℕ) → f x ≡ Some n → all_some f xs ≡ Some ns → list_any (◌==◌ n) ns ≡ true → list_any (bytes_eq (key x)) (map key xs) ≡ true
  any_key x n [] ns e h found = let none : list_any (◌==◌ n) ns ≡ false = ap (list_any (◌==◌ n)) (nothing_read ns h) in absurd (both_ways (list_any (◌==◌ n) ns) none found)
  any_key x n (z ∷ zs) ns e h found =
      let p = parts_read f z zs ns h in
      elim (or_cases (n == p.0) (list_any (◌==◌ n) p.1) (sym (ap (list_any (◌==◌ n)) p.4) ∙ found)) [
        | inl here ↦ (let same : p.0 ≡ n = sym (eqb-true n p.0 here) in
            or_left (bytes_eq (key x) (key z)) _ (apart x z n e (p.2 ∙ ap Some same)))
        | inr later ↦ or_right (bytes_eq (key x) (key z)) _ (any_key x n zs p.1 e p.3 later)
      ]

  -- numbers of texts that differ
  pub numbers_apart : (xs : List X) (ns : List ℕ) → all_some f xs ≡ Some ns → texts_differ (map key xs) ≡ true → numbers_differ ns ≡ true
  numbers_apart [] ns h texts = ap numbers_differ (nothing_read ns h)
  numbers_apart (x ∷ xs) ns h texts =
      let p = parts_read f x xs ns h in
      let both = and_parts (not (list_any (bytes_eq (key x)) (map key xs))) (texts_differ (map key xs)) texts in
      let new : list_any (◌==◌ p.0) p.1 ≡ false = false_from_ne_true (list_any (◌==◌ p.0) p.1) (λ found. both_ways (list_any (bytes_eq (key x)) (map key xs)) (not-true _ both.0) (any_key x p.0 xs p.1 p.2 p.3 found)) in
      ap numbers_differ p.4 ∙ and_from (not (list_any (◌==◌ p.0) p.1)) (numbers_differ p.1) (not_from_false _ new) (numbers_apart xs p.1 p.3 both.1)

-- texts at one place of these are equal
place_apart : (texts : List (List ℕ)) (x y : List ℕ) (n : ℕ) → position (λ v. bytes_eq v x) texts ≡ Some n → position (λ v. bytes_eq v y) texts ≡ Some n → bytes_eq x y ≡ true
place_apart texts x y n a b =
    let p = position-Some (λ v. bytes_eq v x) texts n [] a in
    let q = position-Some (λ v. bytes_eq v y) texts n [] b in
    (bytes_eq-Decides x y).1 (sym ((bytes_eq-Decides (get_or texts n []) x).0 p.1) ∙ (bytes_eq-Decides (get_or texts n []) y).0 q.1)

-- values that differ have numbers that differ
pub values_apart : (params : List Param) (p : ℕ) (values : List (List ℕ)) (ns : List ℕ) → all_some (value_number params p) values ≡ Some ns → texts_differ values ≡ true → numbers_differ ns ≡ true
values_apart params p values ns h texts =
    numbers_apart (value_number params p) (λ v. v) (place_apart (slice_index_or (map (λ q. q.values) params) p [])) values ns h (ap texts_differ (map-id values) ∙ texts)

-- the name at a place of parameters
names_apart : (params : List Param) (x y : List ℕ) (n : ℕ) → param_number params x ≡ Some n → param_number params y ≡ Some n → bytes_eq x y ≡ true
names_apart params x y n a b =
    let d : Param = record { name = []; values = []; default = 0 } in
    let p = position-Some (λ q. bytes_eq q.name x) params n d a in
    let q = position-Some (λ q. bytes_eq q.name y) params n d b in
    (bytes_eq-Decides x y).1 (sym ((bytes_eq-Decides (get_or params n d).name x).0 p.1) ∙ (bytes_eq-Decides (get_or params n d).name y).0 q.1)

-- picks of names that differ have numbers that differ
pub picks_apart : (params : List Param) (picks : List NamedPick) (ns : List ℕ) → all_some (λ k. param_number params k.name) picks ≡ Some ns → texts_differ (map (λ k. k.name) picks) ≡ true → numbers_differ ns ≡ true
picks_apart params picks ns h texts = numbers_apart (λ k. param_number params k.name) (λ k. k.name) (λ x y. names_apart params x.name y.name) picks ns h texts

-- a parameter's number is below how many there are
pub param_below : (params : List Param) (name : List ℕ) (n : ℕ) → param_number params name ≡ Some n → nat_lt n (length params) ≡ true
param_below params name n h = let p = position-Some (λ q. bytes_eq q.name name) params n (record { name = []; values = []; default = 0 }) h in grind (arith, nat_tests, p.0)

values_counted : (params : List Param) (p : ℕ) → length (slice_index_or (map (λ q. q.values) params) p []) ≡ value_count params p
values_counted [] p = refl
values_counted (q ∷ qs) zero = refl
values_counted (q ∷ qs) (suc p) = values_counted qs p

-- a value's number is below how many the parameter has
pub value_below : (params : List Param) (p : ℕ) (value : List ℕ) (n : ℕ) → value_number params p value ≡ Some n → nat_lt n (value_count params p) ≡ true
value_below params p value n h =
    let q = position-Some (λ v. bytes_eq v value) (slice_index_or (map (λ r. r.values) params) p []) n [] h in
    let count = values_counted params p in
    grind (arith, nat_tests, q.0, count)
