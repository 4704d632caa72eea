-- A time from its digits that are kept, the zeros after them, and the digits that are left.
use Rattle.std.proofs.Common.{ℕ, zero, suc, ◌≡◌, ◌≤◌, ◌<◌, ◌+◌, ◌-◌, ◌*◌, ◌^◌, ◌||◌, Bool, true, cond, List, [], ◌∷◌, ◌++◌, length, take, drop, min, refl, sym, ap, ◌∙◌, arith, mul-le-mul_left, mul-one, zero-mul, length-append, length-drop, append_assoc, ◌⊎◌, inl, inr}
use Rattle.std.proofs.lemmas.List.{take_all, take-append-drop}
use Rattle.std.proofs.lemmas.List.Folds.{list_any-append}
use Rattle.std.specs.Char.{is_ascii_digit}
use Rattle.std.specs.Int.{div_ceil}
use Rattle.std.specs.List.{list_all, list_any}
use Rattle.std.specs.Str.Parse.{digits_value, digits_value_after}
use Rattle.plain_text.specs.Times.{is_more, micros_of}
use Rattle.plain_text.proofs.Rounding.{digits_after-append, bounded_after, more_of, rounded_all, rounded_part, ten_power_positive}

pub digits_taken : (n : ℕ) (xs : List ℕ) → list_all is_ascii_digit xs ≡ true → list_all is_ascii_digit (take n xs) ≡ true
digits_taken zero xs h = refl
digits_taken (suc n) [] h = refl
digits_taken (suc n) (x ∷ xs) h =
    let first : is_ascii_digit x ≡ true = grind (arith, h) in
    let others : list_all is_ascii_digit xs ≡ true = grind (arith, h) in
    rw first (digits_taken n xs others)

digits_dropped : (n : ℕ) (xs : List ℕ) → list_all is_ascii_digit xs ≡ true → list_all is_ascii_digit (drop n xs) ≡ true
digits_dropped zero xs h = h
digits_dropped (suc n) [] h = refl
digits_dropped (suc n) (x ∷ xs) h = digits_dropped n xs (grind (arith, h))

digits_joined : (xs ys : List ℕ) → list_all is_ascii_digit xs ≡ true → list_all is_ascii_digit ys ≡ true → list_all is_ascii_digit (xs ++ ys) ≡ true
digits_joined [] ys g h = h
digits_joined (x ∷ xs) ys g h =
    let first : is_ascii_digit x ≡ true = grind (arith, g) in
    rw first (digits_joined xs ys (grind (arith, g)) h)

less_or_not : (a b : ℕ) → (a < b) ⊎ (b ≤ a)
less_or_not a zero = inr (omega arith)
less_or_not zero (suc b) = inl (omega arith)
less_or_not (suc a) (suc b) = elim (less_or_not a b) [ inl l ↦ inl (omega (arith, l)) | inr l ↦ inr (omega (arith, l)) ]

pub drop_all : (n : ℕ) (xs : List ℕ) → length xs ≤ n → drop n xs ≡ []
drop_all zero [] h = refl
drop_all zero (x ∷ xs) h = absurd (omega (arith, h))
drop_all (suc n) [] h = refl
drop_all (suc n) (x ∷ xs) h = drop_all n xs (omega (arith, h))

-- the rest of a list as a slice of the code
pub drop_rest : (n : ℕ) (xs : List ℕ) → take (length xs - n) (drop n xs) ≡ drop n xs
drop_rest n xs = take_all (length xs - n) (drop n xs) (omega (arith, length-drop n xs))

-- digits that are kept and digits that are left make up the whole
halves : (first second : ℕ) (before after : List ℕ) → (length before ≤ first) ⊎ (second ≡ 0) → (take first before ++ take second after) ++ (drop first before ++ drop second after) ≡ before ++ after
halves first second before after (inl le) =
    let front : take first before ≡ before = take_all first before le in
    let back : drop first before ≡ [] = drop_all first before le in
    ap (λ xs. (xs ++ take second after) ++ (drop first before ++ drop second after)) front
    ∙ ap (λ xs. (before ++ take second after) ++ (xs ++ drop second after)) back
    ∙ append_assoc before (take second after) (drop second after)
    ∙ ap (λ xs. before ++ xs) (take-append-drop second after)
halves first second before after (inr none) =
    ap (λ k. (take first before ++ take k after) ++ (drop first before ++ drop k after)) none
    ∙ ap (λ xs. xs ++ (drop first before ++ after)) (append_empty (take first before))
    ∙ sym (append_assoc (take first before) (drop first before) after)
    ∙ ap (λ xs. xs ++ after) (take-append-drop first before)
  where
    append_empty : (xs : List ℕ) → xs ++ [] ≡ xs
    append_empty [] = refl
    append_empty (x ∷ xs) = ap (λ ys. x ∷ ys) (append_empty xs)

-- the point moves to the right of all digits
kept_all : (before after : List ℕ) (right left first second zeros : ℕ) → length after + left ≤ 6 + right → length before ≤ first → length after ≤ second → 6 + right ≡ (length after + left) + zeros → micros_of before after right left ≡ digits_value 10 (take first before ++ take second after) * 10 ^ zeros + more_of (drop first before ++ drop second after)
unfolding micros_of
kept_all before after right left first second zeros most front back places =
    let a : take first before ≡ before = take_all first before front in
    let b : take second after ≡ after = take_all second after back in
    let c : drop first before ≡ [] = drop_all first before front in
    let d : drop second after ≡ [] = drop_all second after back in
    let whole : digits_value 10 (take first before ++ take second after) ≡ digits_value 10 (before ++ after) = ap (λ xs. digits_value 10 (xs ++ take second after)) a ∙ ap (λ xs. digits_value 10 (before ++ xs)) b in
    let none : more_of (drop first before ++ drop second after) ≡ 0 = ap (λ xs. more_of (xs ++ drop second after)) c ∙ ap more_of d in
    let value : micros_of before after right left ≡ digits_value 10 (before ++ after) * 10 ^ zeros =
    ap (λ p. div_ceil (digits_value 10 (before ++ after) * 10 ^ p) (10 ^ (length after + left))) places ∙ rounded_all (before ++ after) (length after + left) zeros in
    let product = ap (λ v. v * 10 ^ zeros) whole in
    omega (arith, value, product, none)

-- some digits are left
kept_part : (before after : List ℕ) (right left first second m : ℕ) → list_all is_ascii_digit before ≡ true → list_all is_ascii_digit after ≡ true → (length before ≤ first) ⊎ (second ≡ 0) → length after + left ≡ m + (6 + right) → length before - first + (length after - second) ≤ m → (length before - first + (length after - second) ≡ m) ⊎ ((first ≡ 0) × (second ≡ 0)) → micros_of before after right left ≡ digits_value 10 (take first before ++ take second after) + more_of (drop first before ++ drop second after)
unfolding micros_of
kept_part before after right left first second m front back split places short exact =
    let xs = take first before ++ take second after in
    let ys = drop first before ++ drop second after in
    let size : length ys ≡ length before - first + (length after - second) = omega (arith, length-append (drop first before) (drop second after), length-drop first before, length-drop second after) in
    let digits : list_all is_ascii_digit ys ≡ true = digits_joined (drop first before) (drop second after) (digits_dropped first before front) (digits_dropped second after back) in
    let same : digits_value 10 xs * 10 ^ length ys ≡ digits_value 10 xs * 10 ^ m =
    elim exact [
      | inl e ↦ ap (λ k. digits_value 10 xs * 10 ^ k) (size ∙ e)
      | inr z ↦ (let none : digits_value 10 xs ≡ 0 = ap (λ k. digits_value 10 (take k before ++ take second after)) z.0 ∙ ap (λ k. digits_value 10 (take k after)) z.1 in ap (λ v. v * 10 ^ length ys) none ∙ zero-mul (10 ^ length ys) ∙ sym (zero-mul (10 ^ m)) ∙ ap (λ v. v * 10 ^ m) (sym none))
    ] in
    ap (λ ds. div_ceil (digits_value 10 ds * 10 ^ (6 + right)) (10 ^ (length after + left))) (sym (halves first second before after split))
    ∙ ap (λ k. div_ceil (digits_value 10 (xs ++ ys) * 10 ^ (6 + right)) (10 ^ k)) places
    ∙ rounded_part xs ys (6 + right) m digits (omega (arith, size, short)) same

-- how many digits are kept of both parts, and how many zeros follow
pub kept : (before after : List ℕ) (right left first second whole : ℕ) → list_all is_ascii_digit before ≡ true → list_all is_ascii_digit after ≡ true → whole ≡ length before + 6 + right - left → first ≡ min whole (length before) → second ≡ min (whole - first) (length after) → micros_of before after right left ≡ digits_value 10 (take first before ++ take second after) * 10 ^ (whole - first - second) + more_of (drop first before ++ drop second after)
kept before after right left first second whole front back whole-is first-is second-is =
    elim (less_or_not (6 + right) (length after + left)) [
      | inr most ↦ kept_all before after right left first second (whole - first - second) most
          (omega (arith, most, whole-is, first-is)) (omega (arith, most, whole-is, first-is, second-is)) (omega (arith, most, whole-is, first-is, second-is))
      | inl less ↦ (let none : whole - first - second ≡ 0 = omega (arith, less, whole-is, first-is, second-is) in
          let one : digits_value 10 (take first before ++ take second after) * 10 ^ (whole - first - second) ≡ digits_value 10 (take first before ++ take second after) = ap (λ k. digits_value 10 (take first before ++ take second after) * 10 ^ k) none ∙ mul-one _ in
          let value = kept_part before after right left first second (length after + left - (6 + right)) front back
          (elim (less_or_not whole (length before)) [ inl l ↦ inr (omega (arith, l, first-is, second-is)) | inr l ↦ inl (omega (arith, l, first-is)) ])
          (omega (arith, less))
          (omega (arith, less, whole-is, first-is, second-is))
          (elim (less_or_not (length before + 6 + right) left) [ inl l ↦ inr (omega (arith, l, whole-is, first-is), omega (arith, l, whole-is, first-is, second-is)) | inr l ↦ inl (omega (arith, l, less, whole-is, first-is, second-is)) ]) in
          omega (arith, value, one))
    ]

-- a number with zeros after it, below a bound
bounded_times : (c v p : ℕ) → 0 < p → min (min v c * p) c ≡ min (v * p) c
bounded_times c v p pos = elim (less_or_not c v) [
  | inl l ↦ (let low = mul-le-mul_left c (let q : 1 ≤ p = omega (arith, pos) in q) in
      let high = mul-le-mul_left v (let q : 1 ≤ p = omega (arith, pos) in q) in
      let cut : min v c ≡ c = omega (arith, l) in
      omega (arith, low, high, mul-one c, mul-one v, l, ap (λ k. k * p) cut))
  | inr l ↦ ap (λ k. min (k * p) c) (let cut : min v c ≡ v = omega (arith, l) in cut)
]

-- what the loops over the digits give, below a bound
pub kept_bounded : (before after : List ℕ) (right left first second whole v w s m r : ℕ) → list_all is_ascii_digit before ≡ true → list_all is_ascii_digit after ≡ true → whole ≡ length before + 6 + right - left → first ≡ min whole (length before) → second ≡ min (whole - first) (length after)
    → v ≡ min (digits_value_after 10 0 (take first before)) (2 ^ 64) → w ≡ min (digits_value_after 10 v (take second after)) (2 ^ 64) → s ≡ min (w * 10 ^ (whole - first - second)) (2 ^ 64)
    → m ≡ cond (list_any is_more (drop first before) || list_any is_more (drop second after)) 1 0 → r ≡ min (s + m) (2 ^ 64) → r ≡ min (micros_of before after right left) (2 ^ 64)
kept_bounded before after right left first second whole v w s m r front back whole-is first-is second-is v-is w-is s-is m-is r-is =
    let x : ℕ = digits_value 10 (take first before ++ take second after) in
    let p : ℕ = 10 ^ (whole - first - second) in
    let v-same : min v (2 ^ 64) ≡ min (digits_value 10 (take first before)) (2 ^ 64) = omega (arith, v-is) in
    let w-same : w ≡ min x (2 ^ 64) = w-is ∙ bounded_after (2 ^ 64) v (digits_value 10 (take first before)) (take second after) v-same ∙ ap (λ n. min n (2 ^ 64)) (sym (digits_after-append 0 (take first before) (take second after))) in
    let s-same : s ≡ min (x * p) (2 ^ 64) = s-is ∙ ap (λ n. min (n * p) (2 ^ 64)) w-same ∙ bounded_times (2 ^ 64) x p (ten_power_positive (whole - first - second)) in
    let m-same : m ≡ more_of (drop first before ++ drop second after) = m-is ∙ ap (λ (b : Bool). let n : ℕ = cond b 1 0 in n) (sym (list_any-append is_more (drop first before) (drop second after))) in
    omega (arith, s-same, m-same, r-is, kept before after right left first second whole front back whole-is first-is second-is)
