-- Lists of numbers that follow each other, and counts in lists.
use Rattle.std.proofs.Common.{ℕ, suc, zero, ◌≡◌, ◌≤◌, ◌<◌, ◌+◌, ◌-◌, ◌==◌, ◌++◌, ◌&&◌, Bool, true, false, cond, List, [], ◌∷◌, All, refl, sym, ap, ◌∙◌, arith, inl, inr}
use Rattle.std.specs.List.{Contains, count_by, flat_map, range_with_len}
use Rattle.std.proofs.lemmas.Bool.Decides.{eqb_tells}
use Rattle.std.proofs.lemmas.List.{flat_map_more, append-nil}
use Rattle.std.proofs.lemmas.List.Elements.{All-head, All-tail, All-from_get_or}
use Rattle.std.proofs.lemmas.List.FromFn.{get_or-range_with_len, length-range_with_len}
use Rattle.std.proofs.lemmas.List.Sums.{sum_by-cons}

-- one more number
range-push : (a n : ℕ) → range_with_len a (suc n) ≡ range_with_len a n ++ (a + n) ∷ []
range-push a zero = ap (λ m. m ∷ []) (omega arith)
range-push a (suc n) = ap (λ xs. a ∷ xs) (range-push (a + 1) n ∙ ap (λ m. range_with_len (a + 1) n ++ m ∷ []) (omega arith))

-- one more number after those from 1 on
pub range-next : (next : ℕ) → 1 ≤ next → range_with_len 1 (suc next - 1) ≡ range_with_len 1 (next - 1) ++ next ∷ []
range-next next first =
    let more : suc next - 1 ≡ suc (next - 1) = omega (arith, first) in
    let last : 1 + (next - 1) ≡ next = omega (arith, first) in
    ap (range_with_len 1) more ∙ range-push 1 (next - 1) ∙ ap (λ m. range_with_len 1 (next - 1) ++ m ∷ []) last

-- the numbers lie below their end
pub range-below : (a n : ℕ) → All (λ m. m < a + n) (range_with_len a n)
range-below a n = All-from_get_or (λ m. m < a + n) (range_with_len a n) 0 (λ i within.
    let inside : i < n = omega (arith, within, length-range_with_len a n) in omega (arith, inside, get_or-range_with_len a n i 0 inside))

-- each number between is among them
pub range-contains : (a n m : ℕ) → a ≤ m → m < a + n → Contains (range_with_len a n) m
range-contains a n m from below =
    let inside : m - a < n = omega (arith, from, below) in
    (m - a, omega (arith, inside, length-range_with_len a n), get_or-range_with_len a n (m - a) m inside ∙ omega (arith, from))

-- no element passes
pub count-none : {X : Type 0} (p : X → Bool) (xs : List X) → All (λ x. p x ≡ false) xs → count_by p xs ≡ 0
count-none p [] all = refl
count-none p (x ∷ xs) all =
    let fails : p x ≡ false = All-head (λ y. p y ≡ false) x xs all in
    let none : ◌≡◌ {A = ℕ} (cond (p x) 1 0) 0 = ap (λ b. cond b 1 0) fails in
    omega (arith, sum_by-cons (λ y. cond (p y) 1 0) x xs, none, count-none p xs (All-tail (λ y. p y ≡ false) x xs all))

-- a lower number is another one
pub lower-differs : (m n : ℕ) → m < n → (m == n) ≡ false
lower-differs m n below = elim (eqb_tells m n) [ inl w ↦ absurd (omega (arith, w.1, below)) | inr w ↦ w.0 ]

-- one more at most, where there was none before
pub one-more : (a b : ℕ) (found : Bool) → (found ≡ true → a + b ≡ 0) → a + b ≤ 1 → a + (b + cond found 1 0) ≤ 1
one-more a b true none before = omega (arith, none refl)
one-more a b false none before = omega (arith, before)

-- one more at most, where there was none before
pub one-more-alone : (b : ℕ) (found : Bool) → (found ≡ true → b ≡ 0) → b ≤ 1 → b + cond found 1 0 ≤ 1
one-more-alone b true none before = omega (arith, none refl)
one-more-alone b false none before = omega (arith, before)

-- both sides of a test
pub and-left : (a b : Bool) → (a && b) ≡ true → a ≡ true
and-left true b both = refl
and-left false b both = both

pub and-right : (a b : Bool) → (a && b) ≡ true → b ≡ true
and-right true b both = both
and-right false b both = cc

-- one more element's list
pub flat_map-push : {X A : Type 0} (f : X → List A) (xs : List X) (x : X) → flat_map f (xs ++ x ∷ []) ≡ flat_map f xs ++ f x
flat_map-push f xs x = sym (flat_map_more f [] xs x)

-- one more element that has none
pub flat_map-push_none : {X A : Type 0} (f : X → List A) (xs : List X) (x : X) → f x ≡ [] → flat_map f (xs ++ x ∷ []) ≡ flat_map f xs
flat_map-push_none f xs x none = flat_map-push f xs x ∙ ap (λ ys. flat_map f xs ++ ys) none ∙ append-nil (flat_map f xs)
