-- Sorted pairs: there is one order, and it is of the same pairs.
use Rattle.std.proofs.Common.{ℕ, zero, suc, ◌≡◌, ◌+◌, ◌<◌, Bool, true, false, cond, List, [], ◌∷◌, ◌++◌, length, map, refl, sym, ap, subst, ◌∙◌, arith}
use Rattle.std.specs.List.{All, AllByRecursion, sum_by, range_with_len, slice_index_or}
use Rattle.std.specs.List.Sorted.{IsPermutation, IsSorted}
use Rattle.std.specs.declared.cmp.Ordering.{Ordering}
use Rattle.std.specs.Ordering.{nat_cmp, ordering_then, is_lt}
use Rattle.std.specs.Cmp.{IsStrictWeakOrder, then_total, on_total, nat_cmp_total}
use Rattle.std.proofs.lemmas.Bool.Decides.{nat_tests}
use Rattle.std.proofs.lemmas.List.Elements.{All-from_get_or, recursion_from_All}
use Rattle.std.proofs.lemmas.List.FromFn.{length-range_with_len, map-range_with_len_more, get_or-range_with_len}
use Rattle.std.proofs.lemmas.List.Sorted.{IsPermutation-refl, IsPermutation-cons, IsPermutation-trans, IsPermutation-swap, IsPermutation-map, length_permutation, All-permutation, sum_by-IsPermutation, ranks_by, sorted_far}
use Rattle.std.proofs.lemmas.List.Sums.{sum_by-cons}
use Rattle.seeded_order.specs.Draws.{word_of, stands_before, with_drawn_pair, sorted_pairs, numbered_words, order_of}

-- no pair of the list stands before this one
abbrev pub NoneBefore : ℕ × ℕ → List (ℕ × ℕ) → Type 0
NoneBefore p ps = AllByRecursion (λ q. stands_before q p ≡ false) ps

-- no pair stands before an earlier one
abbrev pub Ascends : List (ℕ × ℕ) → Type 0
Ascends [] = Unit {0}
Ascends (p ∷ later) = NoneBefore p later × Ascends later

-- of two pairs that don't stand before each other each is the other
one_pair : (p q : ℕ × ℕ) → stands_before p q ≡ false → stands_before q p ≡ false → p ≡ q
one_pair p q h k =
    let first : p.0 ≡ q.0 = grind (arith, nat_tests) in
    let second : p.1 ≡ q.1 = grind (arith, nat_tests) in
    λ i. (first i, second i)

before_not_after : (p q : ℕ × ℕ) → stands_before p q ≡ true → stands_before q p ≡ false
before_not_after p q h = grind (arith, nat_tests)

before_further : (p q r : ℕ × ℕ) → stands_before p q ≡ true → stands_before r q ≡ false → stands_before r p ≡ false
before_further p q r h k = grind (arith, nat_tests)

-- 1 where a pair stands before another
abbrev counted : ℕ × ℕ → ℕ × ℕ → ℕ
counted p q = cond (stands_before q p) 1 0

-- how many pairs of the list stand before this one
abbrev before : ℕ × ℕ → List (ℕ × ℕ) → ℕ
before p ps = sum_by (counted p) ps

count_none : (p q : ℕ × ℕ) → stands_before q p ≡ false → counted p q ≡ 0
count_none p q h = ap (λ (b : Bool). let n : ℕ = cond b 1 0 in n) h

none_counted : (p q : ℕ × ℕ) → counted p q ≡ 0 → stands_before q p ≡ false
none_counted p q h = grind (arith, nat_tests)

none_before : (p : ℕ × ℕ) (ps : List (ℕ × ℕ)) → NoneBefore p ps → before p ps ≡ 0
none_before p [] h = refl
none_before p (q ∷ later) h =
    let here = count_none p q h.0 in
    let rest = none_before p later h.1 in
    omega (arith, sum_by-cons (counted p) q later)

not_before : (p q : ℕ × ℕ) (ps : List (ℕ × ℕ)) → before q (p ∷ ps) ≡ 0 → stands_before p q ≡ false
not_before p q ps h =
    let none : counted q p ≡ 0 = omega (arith, sum_by-cons (counted q) p ps) in
    none_counted q p none

-- the same pairs, each as often
abbrev pub AreSame : List (ℕ × ℕ) → List (ℕ × ℕ) → Type 0
AreSame ps qs = (f : ℕ × ℕ → ℕ) → sum_by f qs ≡ sum_by f ps

first_pair : (p q : ℕ × ℕ) (ps qs : List (ℕ × ℕ)) → NoneBefore p ps → NoneBefore q qs → AreSame (p ∷ ps) (q ∷ qs) → p ≡ q
first_pair p q ps qs h k same =
    let irreflexive_p : stands_before p p ≡ false = grind (arith, nat_tests) in
    let irreflexive_q : stands_before q q ≡ false = grind (arith, nat_tests) in
    let before_p = sym (same (counted p)) in
    let before_q = same (counted q) in
    one_pair p q
    (not_before p q ps (sym before_q ∙ none_before q (q ∷ qs) (irreflexive_q, k)))
    (not_before q p qs (sym before_p ∙ none_before p (p ∷ ps) (irreflexive_p, h)))

-- two lists of the same pairs that ascend are one
pub one_order : (ps qs : List (ℕ × ℕ)) → Ascends ps → Ascends qs → AreSame ps qs → ps ≡ qs
one_order [] [] h k same = refl
one_order [] (q ∷ qs) h k same = absurd (omega (arith, same (λ _. 1), sum_by-cons (λ _. 1) q qs))
one_order (p ∷ ps) [] h k same = absurd (omega (arith, same (λ _. 1), sum_by-cons (λ _. 1) p ps))
one_order (p ∷ ps) (q ∷ qs) h k same =
    let first : p ≡ q = first_pair p q ps qs h.0 k.0 same in
    let rest : AreSame ps qs = λ f. omega (arith, same f, sum_by-cons f p ps, sum_by-cons f q qs, ap f first) in
    let later : ps ≡ qs = one_order ps qs h.1 k.1 rest in
    cc

none_before_placed : (p q : ℕ × ℕ) (ps : List (ℕ × ℕ)) → stands_before p q ≡ false → NoneBefore q ps → NoneBefore q (with_drawn_pair p ps)
none_before_placed p q [] h k = (h, tt)
none_before_placed p q (r ∷ later) h k =
    elim (stands_before p r) as (λ b. NoneBefore q (cond b (p ∷ r ∷ later) (r ∷ with_drawn_pair p later))) [
      | true ↦ (h, k)
      | false ↦ (k.0, none_before_placed p q later h k.1)
    ]

none_before_further : (p q : ℕ × ℕ) (ps : List (ℕ × ℕ)) → stands_before p q ≡ true → NoneBefore q ps → NoneBefore p ps
none_before_further p q [] h k = tt
none_before_further p q (r ∷ later) h k = (before_further p q r h k.0, none_before_further p q later h k.1)

placed_ascends : (p : ℕ × ℕ) (ps : List (ℕ × ℕ)) → Ascends ps → Ascends (with_drawn_pair p ps)
placed_ascends p [] h = (tt, tt)
placed_ascends p (q ∷ later) h =
    let Goal : Bool → Type 0 = λ b. stands_before p q ≡ b → Ascends (cond b (p ∷ q ∷ later) (q ∷ with_drawn_pair p later)) in
    let cases : Goal (stands_before p q) = elim (stands_before p q) as Goal [
      | true ↦ (λ e. ((before_not_after p q e, none_before_further p q later e h.0), h))
      | false ↦ (λ e. (none_before_placed p q later e h.0, placed_ascends p later h.1))
    ] in
    cases refl

pub sorted_ascends : (ps : List (ℕ × ℕ)) → Ascends (sorted_pairs ps)
sorted_ascends [] = tt
sorted_ascends (p ∷ later) = placed_ascends p (sorted_pairs later) (sorted_ascends later)

placed_permutes : (p : ℕ × ℕ) (ps : List (ℕ × ℕ)) → IsPermutation (p ∷ ps) (with_drawn_pair p ps)
placed_permutes p [] = IsPermutation-refl (p ∷ [])
placed_permutes p (q ∷ later) =
    let swapped : IsPermutation (p ∷ q ∷ later) (q ∷ p ∷ later) = IsPermutation-swap (p ∷ q ∷ later) (q ∷ p ∷ later) 0 1 (omega arith) (omega arith) refl in
    elim (stands_before p q) as (λ b. IsPermutation (p ∷ q ∷ later) (cond b (p ∷ q ∷ later) (q ∷ with_drawn_pair p later))) [
      | true ↦ IsPermutation-refl (p ∷ q ∷ later)
      | false ↦ IsPermutation-trans (p ∷ q ∷ later) (q ∷ p ∷ later) (q ∷ with_drawn_pair p later) swapped (IsPermutation-cons q (p ∷ later) (with_drawn_pair p later) (placed_permutes p later))
    ]

-- sorting only moves pairs
pub sorted_permutes : (ps : List (ℕ × ℕ)) → IsPermutation ps (sorted_pairs ps)
sorted_permutes [] = IsPermutation-refl []
sorted_permutes (p ∷ later) = IsPermutation-trans (p ∷ later) (p ∷ sorted_pairs later) (with_drawn_pair p (sorted_pairs later)) (IsPermutation-cons p later (sorted_pairs later) (sorted_permutes later)) (placed_permutes p (sorted_pairs later))

-- how two pairs compare: by the first, ties by the second
abbrev pub compared : ℕ × ℕ → ℕ × ℕ → Ordering
compared p q = ordering_then (nat_cmp p.0 q.0) (nat_cmp p.1 q.1)

compared_less : (p q : ℕ × ℕ) → is_lt (compared p q) ≡ stands_before p q
compared_less p q = grind (arith, nat_tests)

compared_weak : IsStrictWeakOrder (λ p q. is_lt (compared p q))
compared_weak = ranks_by (then_total (on_total (λ p. p.0) nat_cmp_total) (on_total (λ p. p.1) nat_cmp_total)) (λ p. p)

-- what a sort by pairs ensures
pub sorted_by_pairs : (ps : List (ℕ × ℕ)) → IsSorted compared ps → Ascends ps
sorted_by_pairs [] h = tt
sorted_by_pairs (p ∷ later) h =
    let far : All (λ q. stands_before q p ≡ false) later = λ k d lt. sym (compared_less (slice_index_or later k d) p) ∙ sorted_far (λ q r. is_lt (compared q r)) compared_weak (p ∷ later) h 0 (suc k) d (omega arith) (omega arith) in
    let rest : IsSorted compared later = λ k d low high.
    (let next : suc k + 1 ≡ suc (k + 1) = omega arith in
    subst (λ n. is_lt (compared (slice_index_or (p ∷ later) n d) (slice_index_or later k d)) ≡ false) next (h (suc k) d (omega arith) (omega arith))) in
    (recursion_from_All (λ q. stands_before q p ≡ false) later far, sorted_by_pairs later rest)

-- a sort of pairs gives the one order
pub sort_is : (ps qs : List (ℕ × ℕ)) → IsPermutation ps qs → IsSorted compared qs → qs ≡ sorted_pairs ps
sort_is ps qs moved up =
    one_order qs (sorted_pairs ps) (sorted_by_pairs qs up) (sorted_ascends ps) (λ f. sum_by-IsPermutation f ps (sorted_pairs ps) (sorted_permutes ps) ∙ sym (sum_by-IsPermutation f ps qs moved))

-- one number more with its word
pub more_paired : (seed stream n word : ℕ) (pairs : List (ℕ × ℕ)) → word ≡ word_of seed stream n → pairs ≡ numbered_words seed stream n → pairs ++ (word, n) ∷ [] ≡ numbered_words seed stream (n + 1)
more_paired seed stream n word pairs e paired =
    let numbered : ℕ → ℕ × ℕ = λ k. (word_of seed stream k, k) in
    ap (λ ps. ps ++ (word, n) ∷ []) paired
    ∙ ap (λ w. numbered_words seed stream n ++ (w, n) ∷ []) e
    ∙ sym (map-range_with_len_more numbered 0 n n (omega arith))

-- the numbers that the words stand beside
numbers_of : (seed stream a n : ℕ) → map (λ (p : ℕ × ℕ). p.1) (map (λ k. (word_of seed stream k, k)) (range_with_len a n)) ≡ range_with_len a n
numbers_of seed stream a zero = refl
numbers_of seed stream a (suc n) = ap (λ rest. a ∷ rest) (numbers_of seed stream (a + 1) n)

-- the order is of the numbers below n
pub order_permutes : (seed stream n : ℕ) → IsPermutation (range_with_len 0 n) (order_of seed stream n)
unfolding order_of
order_permutes seed stream n =
    let pairs = numbered_words seed stream n in
    let moved = IsPermutation-map (λ p. p.1) pairs (sorted_pairs pairs) (sorted_permutes pairs) in
    subst (λ xs. IsPermutation xs (order_of seed stream n)) (numbers_of seed stream 0 n) moved

-- the order has n numbers
pub length-order_of : (seed stream n : ℕ) → length (order_of seed stream n) ≡ n
length-order_of seed stream n = length_permutation (range_with_len 0 n) (order_of seed stream n) (order_permutes seed stream n) ∙ length-range_with_len 0 n

-- each of them is below n
pub All-order_of : (seed stream n : ℕ) → All (λ i. i < n) (order_of seed stream n)
All-order_of seed stream n =
    let below : All (λ i. i < n) (range_with_len 0 n) = All-from_get_or (λ i. i < n) (range_with_len 0 n) 0 (λ i lt. (let short : i < n = omega (arith, length-range_with_len 0 n) in omega (arith, get_or-range_with_len 0 n i 0 short))) in
    All-permutation (λ i. i < n) (range_with_len 0 n) (order_of seed stream n) (order_permutes seed stream n) below

-- the numbers beside sorted pairs of words and numbers are the order
pub sorted_numbers : (seed stream n : ℕ) (ps qs : List (ℕ × ℕ)) → ps ≡ numbered_words seed stream n → IsPermutation ps qs → IsSorted compared qs → map (λ p. p.1) qs ≡ order_of seed stream n
unfolding order_of
sorted_numbers seed stream n ps qs e moved up =
    ap (map (λ p. p.1)) (sort_is ps qs moved up) ∙ ap (λ rs. map (λ p. p.1) (sorted_pairs rs)) e
