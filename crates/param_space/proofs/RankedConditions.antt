-- Conditions sorted by the rank of their children.
use Rattle.std.proofs.Common.{ℕ, ◌≡◌, ◌<◌, ◌≤◌, ◌+◌, ◌++◌, false, List, [], ◌∷◌, length, map, get_or, slice_index, refl, sym, ap, subst, ◌∙◌, arith}
use Rattle.std.specs.List.{All, range_with_len}
use Rattle.std.specs.List.Sorted.{IsPermutation, IsSorted}
use Rattle.std.specs.declared.cmp.Ordering.{Ordering}
use Rattle.std.specs.Ordering.{nat_cmp, ordering_then, is_lt}
use Rattle.std.specs.Cmp.{IsStrictWeakOrder, then_total, on_total, nat_cmp_total}
use Rattle.std.proofs.lemmas.Bool.Decides.{nat_tests}
use Rattle.std.proofs.lemmas.List.{get_or-map, length-map, ext_get_or}
use Rattle.std.proofs.lemmas.Simd.{map-map}
use Rattle.std.proofs.lemmas.List.Elements.{All-from_get_or, All-map, All-weaker}
use Rattle.std.proofs.lemmas.List.FromFn.{length-range_with_len, get_or-range_with_len, length-map-range_with_len, map-range_with_len_more, get_or-map-range_with_len}
use Rattle.std.proofs.lemmas.List.Sorted.{IsPermutation-map, All-permutation, ranks_by, sorted_far}
use Rattle.param_space.specs.declared.lists.Condition.{Condition}
use Rattle.param_space.specs.Order.{no_condition, condition_at, in_order, AreParentsFirst, IsOrder}

-- the rank of a condition's child, and the condition's number
abbrev pub ranked_pair : List ℕ → List Condition → ℕ → ℕ × ℕ
ranked_pair ranks cs i = (slice_index ranks (condition_at cs i).child, i)

-- the numbers of the first n conditions, each with its child's rank
abbrev pub ranked_pairs : List ℕ → List Condition → ℕ → List (ℕ × ℕ)
ranked_pairs ranks cs n = map (ranked_pair ranks cs) (range_with_len 0 n)

-- one condition more
pub ranked_more : (ranks : List ℕ) (cs : List Condition) (n r : ℕ) (c : Condition) (pairs : List (ℕ × ℕ)) → c ≡ condition_at cs n → r ≡ slice_index ranks c.child → pairs ≡ ranked_pairs ranks cs n
    → pairs ++ (r, n) ∷ [] ≡ ranked_pairs ranks cs (n + 1)
ranked_more ranks cs n r c pairs is rank so_far =
    ap (λ ps. ps ++ (r, n) ∷ []) so_far
    ∙ ap (λ k. ranked_pairs ranks cs n ++ (k, n) ∷ []) (rank ∙ ap (λ d. slice_index ranks d.child) is)
    ∙ sym (map-range_with_len_more (ranked_pair ranks cs) 0 n n (omega arith))

-- how two pairs compare: by the first, ties by the second
abbrev pub compared : ℕ × ℕ → ℕ × ℕ → Ordering
compared p q = ordering_then (nat_cmp p.0 q.0) (nat_cmp p.1 q.1)

compared_weak : IsStrictWeakOrder (λ p q. is_lt (compared p q))
compared_weak = ranks_by (then_total (on_total (λ p. p.0) nat_cmp_total) (on_total (λ p. p.1) nat_cmp_total)) (λ p. p)

-- a pair that isn't less has no smaller rank
not_less : (p q : ℕ × ℕ) → is_lt (compared p q) ≡ false → q.0 ≤ p.0
not_less p q h = grind (arith, nat_tests)

-- the conditions with the numbers 0, 1, .. are all of them
all_numbered : (cs : List Condition) → map (condition_at cs) (range_with_len 0 (length cs)) ≡ cs
all_numbered cs =
    let long = length-map-range_with_len (condition_at cs) 0 (length cs) in
    ext_get_or no_condition (map (condition_at cs) (range_with_len 0 (length cs))) cs long
    (λ i lt. get_or-map-range_with_len (condition_at cs) 0 (length cs) i i no_condition (omega (arith, lt, long)) (omega arith))

-- the condition that a pair numbers
abbrev condition_of : List Condition → ℕ × ℕ → Condition
condition_of cs pair = condition_at cs pair.1

-- the conditions of the pairs, in their order
numbers_read : (cs : List Condition) (sorted : List (ℕ × ℕ)) → in_order cs (map (λ p. p.1) sorted) ≡ map (condition_of cs) sorted
numbers_read cs sorted = map-map (condition_at cs) (λ (p : ℕ × ℕ). p.1) sorted

-- a pair has the number of a condition and its child's rank
abbrev IsRankedPair : List ℕ → List Condition → ℕ × ℕ → Type 0
IsRankedPair ranks cs p = (p.1 < length cs) × (p.0 ≡ slice_index ranks (condition_of cs p).child)

all_ranked : (ranks : List ℕ) (cs : List Condition) → All (IsRankedPair ranks cs) (ranked_pairs ranks cs (length cs))
all_ranked ranks cs =
    All-map (IsRankedPair ranks cs) (ranked_pair ranks cs) (range_with_len 0 (length cs))
    (All-from_get_or (λ i. IsRankedPair ranks cs (ranked_pair ranks cs i)) (range_with_len 0 (length cs)) 0
    (λ i lt. (let at : get_or (range_with_len 0 (length cs)) i 0 ≡ 0 + i = get_or-range_with_len 0 (length cs) i 0 (omega (arith, lt, length-range_with_len 0 (length cs))) in omega (arith, at, lt, length-range_with_len 0 (length cs)), refl)))

parents_first : (ranks : List ℕ) (cs : List Condition) (sorted : List (ℕ × ℕ)) → All (λ c. slice_index ranks c.parent < slice_index ranks c.child) cs → All (IsRankedPair ranks cs) sorted → IsSorted compared sorted
    → AreParentsFirst (map (condition_of cs) sorted)
parents_first ranks cs sorted rises known up i j le lt same =
    let long : length (map (condition_of cs) sorted) ≡ length sorted = length-map sorted (condition_of cs) in
    let below_j : j < length sorted = omega (arith, lt, long) in
    let below_i : i < length sorted = omega (arith, le, below_j) in
    let none : ℕ × ℕ = (0, 0) in
    let at_i : condition_at (map (condition_of cs) sorted) i ≡ condition_of cs (get_or sorted i none) = get_or-map (condition_of cs) sorted i none no_condition below_i in
    let at_j : condition_at (map (condition_of cs) sorted) j ≡ condition_of cs (get_or sorted j none) = get_or-map (condition_of cs) sorted j none no_condition below_j in
    let rank_i = (known i none below_i).1 in
    let rank_j = (known j none below_j).1 in
    let not_before = not_less (get_or sorted j none) (get_or sorted i none) (sorted_far (λ q r. is_lt (compared q r)) compared_weak sorted up i j none le below_j) in
    let parent = rises (get_or sorted i none).1 no_condition (known i none below_i).0 in
    let child_is : (condition_of cs (get_or sorted j none)).child ≡ (condition_of cs (get_or sorted i none)).parent = sym (ap (λ c. c.child) at_j) ∙ same ∙ ap (λ c. c.parent) at_i in
    absurd (omega (arith, rank_i, rank_j, not_before, parent, ap (slice_index ranks) child_is))

-- the numbers beside sorted ranks are an order with parents first
pub sorted_is_order : (ranks : List ℕ) (cs : List Condition) (pairs sorted : List (ℕ × ℕ)) → All (λ c. slice_index ranks c.parent < slice_index ranks c.child) cs
    → pairs ≡ ranked_pairs ranks cs (length cs) → IsPermutation pairs sorted → IsSorted compared sorted → IsOrder cs (map (λ p. p.1) sorted)
sorted_is_order ranks cs pairs sorted rises made moved up =
    let read = numbers_read cs sorted in
    let before : map (condition_of cs) pairs ≡ cs = ap (map (condition_of cs)) made ∙ map-map (condition_of cs) (ranked_pair ranks cs) (range_with_len 0 (length cs)) ∙ all_numbered cs in
    let known : All (IsRankedPair ranks cs) sorted = All-permutation (IsRankedPair ranks cs) pairs sorted moved (subst (All (IsRankedPair ranks cs)) (sym made) (all_ranked ranks cs)) in
    record {
      all = subst (λ xs. IsPermutation cs xs) (sym read) (subst (λ xs. IsPermutation xs (map (condition_of cs) sorted)) before (IsPermutation-map (condition_of cs) pairs sorted moved));
      numbers = All-map (λ i. i < length cs) (λ p. p.1) sorted (All-weaker (IsRankedPair ranks cs) (λ p. p.1 < length cs) (λ p h. h.0) sorted known);
      parents_first = subst AreParentsFirst (sym read) (parents_first ranks cs sorted rises known up);
    }
