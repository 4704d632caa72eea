-- Texts that differ: each is found at its own place.
use Rattle.std.specs.Prelude.{ℕ, zero, suc, ◌≡◌, ◌<◌, ◌==◌, Bool, true, false, not, nat_lt, List, [], ◌∷◌, Some, None, length, map, get_or, position, bytes_eq, refl}
use Rattle.std.specs.List.{list_any, list_all, position_or_len}
use Rattle.std.proofs.Common.{ap, sym, ◌∙◌, arith, inl, inr, cond}
use Rattle.std.proofs.lemmas.Bool.{and_parts, and_from, or_parts, or_from, not-true, not_from_false, both_ways, false_from_ne_true, lt-ltb, ltb-true, eqb-false, cases_order}
use Rattle.std.proofs.lemmas.Bool.Decides.{same_from_decides, Decides-like}
use Rattle.std.proofs.lemmas.List.Folds.{list_any_at}
use Rattle.std.proofs.lemmas.List.Sums.{position_or_len_is}
use Rattle.std.proofs.lemmas.Slice.Eq.{bytes_eq-Decides}
use Rattle.plain_text.specs.Texts.{texts_differ}
use Rattle.param_space.specs.Faults.{numbers_differ}

-- equality of texts goes both ways
pub bytes_eq-sym : (x y : List ℕ) → bytes_eq x y ≡ bytes_eq y x
bytes_eq-sym x y = same_from_decides (bytes_eq x y) (bytes_eq y x) (bytes_eq-Decides x y) (Decides-like (bytes_eq y x) sym sym (bytes_eq-Decides y x))

earlier_differs : (texts : List (List ℕ)) (k i : ℕ) → texts_differ texts ≡ true → k < i → i < length texts → bytes_eq (get_or texts k []) (get_or texts i []) ≡ false
earlier_differs [] k i h less inside = absurd (omega (arith, inside))
earlier_differs (t ∷ texts) k zero h less inside = absurd (omega (arith, less))
earlier_differs (t ∷ texts) zero (suc i) h less inside =
    let none = not-true (list_any (bytes_eq t) texts) (and_parts (not (list_any (bytes_eq t) texts)) (texts_differ texts) h).0 in
    false_from_ne_true (bytes_eq t (get_or texts i [])) (λ e. both_ways (list_any (bytes_eq t) texts) none (list_any_at (bytes_eq t) texts i [] (omega (arith, inside)) e))
earlier_differs (t ∷ texts) (suc k) (suc i) h less inside =
    earlier_differs texts k i (and_parts (not (list_any (bytes_eq t) texts)) (texts_differ texts) h).1 (omega (arith, less)) (omega (arith, inside))

-- texts at two places differ
pub places_differ : (texts : List (List ℕ)) (k i : ℕ) → texts_differ texts ≡ true → k < length texts → i < length texts → (k ≡ i → ⊥) → bytes_eq (get_or texts k []) (get_or texts i []) ≡ false
places_differ texts k i h inside inside' other =
    elim (cases_order k i) [
      | inl same ↦ absurd (other same)
      | inr (inl less) ↦ earlier_differs texts k i h less inside'
      | inr (inr less) ↦ bytes_eq-sym (get_or texts k []) (get_or texts i []) ∙ earlier_differs texts i k h less inside
    ]

-- a text is found at its place
pub place_of : (test : List ℕ → Bool) (texts : List (List ℕ)) (i : ℕ) → texts_differ texts ≡ true → i < length texts → ((t : List ℕ) → test t ≡ bytes_eq t (get_or texts i [])) → position_or_len test texts ≡ i
place_of test texts i h inside is =
    position_or_len_is test texts i [] (omega (arith, inside))
    (λ k less. is (get_or texts k []) ∙ earlier_differs texts k i h less inside)
    (λ _. is (get_or texts i []) ∙ (bytes_eq-Decides (get_or texts i []) (get_or texts i [])).1 refl)

-- and that is its number
pub number_of : (test : List ℕ → Bool) (texts : List (List ℕ)) (i : ℕ) → texts_differ texts ≡ true → i < length texts → ((t : List ℕ) → test t ≡ bytes_eq t (get_or texts i [])) → position test texts ≡ Some i
number_of test texts i h inside is =
    let place = place_of test texts i h inside is in
    ap (λ n. cond (nat_lt n (length texts)) (Some n) None) place ∙ ap (λ b. cond b (Some i) None) (lt-ltb i (length texts) inside)

module _ (f : ℕ → List ℕ) (n : ℕ) (apart : (k i : ℕ) → k < n → i < n → (k ≡ i → ⊥) → bytes_eq (f k) (f i) ≡ false) where
  none_among : (v : ℕ) (numbers : List ℕ) → v < n → list_all (λ w. nat_lt w n) numbers ≡ true → list_any (λ w. v == w) numbers ≡ false → list_any (bytes_eq (f v)) (map f numbers) ≡ false
  none_among v [] less h none = refl
  none_among v (w ∷ numbers) less h none =
      let inside = and_parts (nat_lt w n) (list_all (λ x. nat_lt x n) numbers) h in
      let others = or_parts (v == w) (list_any (λ x. v == x) numbers) none in
      or_from (bytes_eq (f v) (f w)) (list_any (bytes_eq (f v)) (map f numbers))
      (apart v w less (ltb-true w n inside.0) (eqb-false v w others.0))
      (none_among v numbers less inside.1 others.1)

  -- numbers that differ have texts that differ
  pub texts_of_numbers : (numbers : List ℕ) → list_all (λ w. nat_lt w n) numbers ≡ true → numbers_differ numbers ≡ true → texts_differ (map f numbers) ≡ true
  texts_of_numbers [] h d = refl
  texts_of_numbers (v ∷ numbers) h d =
      let inside = and_parts (nat_lt v n) (list_all (λ x. nat_lt x n) numbers) h in
      let apart_from = and_parts (not (list_any (λ w. v == w) numbers)) (numbers_differ numbers) d in
      let none = none_among v numbers (ltb-true v n inside.0) inside.1 (not-true (list_any (λ w. v == w) numbers) apart_from.0) in
      and_from (not (list_any (bytes_eq (f v)) (map f numbers))) (texts_differ (map f numbers)) (not_from_false (list_any (bytes_eq (f v)) (map f numbers)) none) (texts_of_numbers numbers inside.1 apart_from.1)
