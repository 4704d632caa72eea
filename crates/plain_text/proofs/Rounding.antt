-- Numbers that are written by their first digits and rounded up, and numbers below a bound.
use Rattle.std.proofs.Common.{ℕ, zero, suc, ◌≡◌, ◌≤◌, ◌<◌, ◌+◌, ◌-◌, ◌*◌, ◌^◌, ◌==◌, Bool, true, false, cond, List, [], ◌∷◌, ◌++◌, length, take, get_or, min, refl, sym, ap, ◌∙◌, arith, add-mul, mul_assoc, mul_comm, mul-le-mul_right, zero-mul, one-mul, pow-suc, mul-pos, ◌⊎◌, inl, inr}
use Rattle.std.proofs.lemmas.Nat.{pow-add}
use Rattle.std.proofs.lemmas.Grind.{div_ceil_times}
use Rattle.std.proofs.lemmas.Bool.Decides.{nat_tests}
use Rattle.std.proofs.lemmas.List.{take_more}
use Rattle.std.proofs.lemmas.Str.Parse.{digits_value_short}
use Rattle.std.specs.Char.{is_ascii_digit, digit_value}
use Rattle.std.specs.Int.{div_ceil}
use Rattle.std.specs.List.{list_all, list_any}
use Rattle.std.specs.Str.Parse.{digits_value, digits_value_after}
use Rattle.plain_text.specs.Times.{is_more}
use Rattle.plain_text.proofs.Digits.{digits_model}

-- a digit's value
digit_of_code : (d : ℕ) → is_ascii_digit d ≡ true → (48 ≤ d) × (d < 58) × (digit_value d ≡ d - 48)
digit_of_code d h = (grind (arith, nat_tests, h), grind (arith, nat_tests, h), grind (arith, nat_tests, h))

pub digit_at : (ds : List ℕ) (i : ℕ) → list_all is_ascii_digit ds ≡ true → i < length ds → is_ascii_digit (get_or ds i 0) ≡ true
digit_at (d ∷ ds) zero h l = grind (arith, h)
digit_at (d ∷ ds) (suc i) h l = digit_at ds i (grind (arith, h)) (omega (arith, l))
digit_at [] i h l = absurd (omega (arith, l))

-- the value of digits that follow others
pub digits_after-append : (n : ℕ) (xs ys : List ℕ) → digits_value_after 10 n (xs ++ ys) ≡ digits_value_after 10 (digits_value_after 10 n xs) ys
digits_after-append n [] ys = refl
digits_after-append n (x ∷ xs) ys = digits_after-append (n * 10 + digit_value x) xs ys

pub digits_after-more : (n : ℕ) (ds : List ℕ) (i : ℕ) → i < length ds → digits_value_after 10 n (take (i + 1) ds) ≡ digits_value_after 10 n (take i ds) * 10 + digit_value (get_or ds i 0)
digits_after-more n ds i h = ap (digits_value_after 10 n) (take_more ds i 0 h) ∙ digits_after-append n (take i ds) (get_or ds i 0 ∷ [])

-- one more digit, below a bound
pub bounded_step : (n v new : ℕ) (ds : List ℕ) (i : ℕ) → list_all is_ascii_digit ds ≡ true → i < length ds → v ≡ min (digits_value_after 10 n (take i ds)) (2 ^ 64) → new ≡ min (v * 10 + (get_or ds i 0 - 48)) (2 ^ 64) → new ≡ min (digits_value_after 10 n (take (i + 1) ds)) (2 ^ 64)
bounded_step n v new ds i digits l before after =
    let code = digit_of_code (get_or ds i 0) (digit_at ds i digits l) in
    let more = digits_after-more n ds i l in
    omega (arith, code.2, more, before, after)

-- digits that follow numbers that are the same below a bound
pub bounded_after : (c m n : ℕ) (ds : List ℕ) → min m c ≡ min n c → min (digits_value_after 10 m ds) c ≡ min (digits_value_after 10 n ds) c
bounded_after c m n [] e = e
bounded_after c m n (d ∷ ds) e = bounded_after c (m * 10 + digit_value d) (n * 10 + digit_value d) ds (omega (arith, e))

pub digits_after-is : (n : ℕ) (ds : List ℕ) → digits_value_after 10 n ds ≡ n * 10 ^ length ds + digits_value 10 ds
digits_after-is n [] = omega arith
digits_after-is n (d ∷ ds) =
    let here = digits_after-is (n * 10 + digit_value d) ds in
    let alone = digits_after-is (0 * 10 + digit_value d) ds in
    let parts = add-mul (n * 10) (digit_value d) (10 ^ length ds) in
    let zeros = add-mul (0 * 10) (digit_value d) (10 ^ length ds) in
    let none : 0 * 10 * 10 ^ length ds ≡ 0 = zero-mul (10 ^ length ds) in
    let more : n * 10 * 10 ^ length ds ≡ n * 10 ^ suc (length ds) = mul_assoc n 10 (10 ^ length ds) ∙ ap (λ p. n * p) (mul_comm 10 (10 ^ length ds) ∙ sym (pow-suc 10 (length ds))) in
    omega (arith, here, alone, parts, zeros, none, more)

pub ten_power_positive : (k : ℕ) → 0 < 10 ^ k
ten_power_positive zero = omega arith
ten_power_positive (suc k) = omega (arith, ten_power_positive k, pow-suc 10 k)

pub digits-below : (ds : List ℕ) → list_all is_ascii_digit ds ≡ true → digits_value 10 ds < 10 ^ length ds
digits-below ds h = digits_value_short digits_model ds (length ds) h (omega arith)

-- quotients rounded up
pub ceiling_is : (n d q : ℕ) → 0 < d → n ≤ q * d → q * d < n + d → div_ceil n d ≡ q
ceiling_is n d q pos above below =
    let bounds = div_ceil_times n d pos in
    let c : ℕ = div_ceil n d in
    let low : ¬ (c + 1 ≤ q) = λ h. let k = mul-le-mul_right d h in omega (arith, k, bounds.0, bounds.1, above, below, add-mul c 1 d, one-mul d) in
    let high : ¬ (q + 1 ≤ c) = λ h. let k = mul-le-mul_right d h in omega (arith, k, bounds.0, bounds.1, above, below, add-mul q 1 d, one-mul d) in
    omega (arith, low, high)

-- the same of a quotient by a power of ten
shortened : (v p r k n d more : ℕ) → 0 < p → 0 < k → r < p → (0 < r → more ≡ 1) → (r ≡ 0 → more ≡ 0) → n ≡ (v * p + r) * k → d ≡ p * k → div_ceil n d ≡ v + more
shortened v p r k n d more pos_p pos_k below some none n-is d-is =
    let q : ℕ = v + more in
    let pos : 0 < d = omega (arith, mul-pos pos_p pos_k, d-is) in
    let whole : q * p ≡ v * p + more * p = add-mul v more p in
    let one : ((more ≡ 0) × (r ≡ 0)) ⊎ ((more ≡ 1) × (0 < r)) = elim_rest r more some none in
    let low : v * p + r ≤ q * p = elim one [ inl z ↦ omega (arith, whole, z.1, ap (λ m. m * p) z.0, zero-mul p) | inr o ↦ omega (arith, whole, ap (λ m. m * p) o.0, one-mul p, below) ] in
    let high : q * p + 1 ≤ v * p + r + p = elim one [ inl z ↦ omega (arith, whole, ap (λ m. m * p) z.0, zero-mul p, pos_p) | inr o ↦ omega (arith, whole, ap (λ m. m * p) o.0, one-mul p, o.1) ] in
    let low' = mul-le-mul_right k low in
    let high' = mul-le-mul_right k high in
    let same : q * p * k ≡ q * d = mul_assoc q p k ∙ ap (λ x. q * x) (sym d-is) in
    ceiling_is n d q pos
    (omega (arith, low', same, n-is))
    (omega (arith, high', same, n-is, d-is, add-mul (q * p) 1 k, one-mul k, add-mul (v * p + r) p k, pos_k))
  where
    elim_rest : (r more : ℕ) → (0 < r → more ≡ 1) → (r ≡ 0 → more ≡ 0) → ((more ≡ 0) × (r ≡ 0)) ⊎ ((more ≡ 1) × (0 < r))
    elim_rest zero more some none = inl (none refl, refl)
    elim_rest (suc r) more some none = inr (some (omega arith), omega arith)

-- the digits after those that are kept: whether one of them is no zero
more_digit : (d p v : ℕ) → 48 ≤ d → digit_value d ≡ d - 48 → 48 < d → 0 < p → 0 < digit_value d * p + v
more_digit d p v low is more pos =
    let one : 0 < digit_value d = omega (arith, low, is, more) in
    omega (arith, mul-pos one pos)

value_cons : (d : ℕ) (ds : List ℕ) → digits_value 10 (d ∷ ds) ≡ digit_value d * 10 ^ length ds + digits_value 10 ds
value_cons d ds = digits_after-is (0 * 10 + digit_value d) ds ∙ ap (λ n. n * 10 ^ length ds + digits_value 10 ds) (let e : 0 * 10 + digit_value d ≡ digit_value d = omega arith in e)

-- 1 where some digit is no zero, else 0
abbrev pub more_of : List ℕ → ℕ
more_of ds = cond (list_any is_more ds) 1 0

pub rest_some : (ds : List ℕ) → list_all is_ascii_digit ds ≡ true → 0 < digits_value 10 ds → more_of ds ≡ 1
rest_some [] h pos = absurd (omega (arith, pos))
rest_some (d ∷ ds) h pos =
    let first : is_ascii_digit d ≡ true = grind (arith, h) in
    let others : list_all is_ascii_digit ds ≡ true = grind (arith, h) in
    let code = digit_of_code d first in
    by (d == 48) refl code (λ left. rest_some ds others left)
  where
    by : (b : Bool) → b ≡ (d == 48) → (48 ≤ d) × (d < 58) × (digit_value d ≡ d - 48) → (0 < digits_value 10 ds → more_of ds ≡ 1) → more_of (d ∷ ds) ≡ 1
    by false e code rest = rw (sym e) refl
    by true e code rest =
        let zero_digit : d ≡ 48 = grind (arith, nat_tests, e) in
        let none : digit_value d * 10 ^ length ds ≡ 0 = ap (λ n. n * 10 ^ length ds) (let z : digit_value d ≡ 0 = omega (arith, code.2, zero_digit) in z) ∙ zero-mul (10 ^ length ds) in
        let left : 0 < digits_value 10 ds = omega (arith, pos, value_cons d ds, none) in
        rw (sym e) (rest left)

pub rest_none : (ds : List ℕ) → list_all is_ascii_digit ds ≡ true → digits_value 10 ds ≡ 0 → more_of ds ≡ 0
rest_none [] h z = refl
rest_none (d ∷ ds) h z =
    let first : is_ascii_digit d ≡ true = grind (arith, h) in
    let others : list_all is_ascii_digit ds ≡ true = grind (arith, h) in
    let code = digit_of_code d first in
    let parts = value_cons d ds in
    let no_more : ¬ (48 < d) = λ l. omega (arith, parts, z, more_digit d (10 ^ length ds) (digits_value 10 ds) code.0 code.2 l (ten_power_positive (length ds))) in
    let here : d ≡ 48 = omega (arith, no_more, code.0) in
    let test : (d == 48) ≡ true = grind (arith, nat_tests, here) in
    rw test (rest_none ds others (omega (arith, parts, z)))

-- the first digits, zeros after them and one more where some digit is left, as a quotient that
-- is rounded up: no digit is left
pub rounded_all : (xs : List ℕ) (places zeros : ℕ) → div_ceil (digits_value 10 xs * 10 ^ (places + zeros)) (10 ^ places) ≡ digits_value 10 xs * 10 ^ zeros
rounded_all xs places zeros =
    let v = digits_value 10 xs in
    let e : v * 10 ^ (places + zeros) ≡ v * 10 ^ zeros * 10 ^ places =
    ap (λ p. v * p) (pow-add 10 places zeros ∙ mul_comm (10 ^ places) (10 ^ zeros)) ∙ sym (mul_assoc v (10 ^ zeros) (10 ^ places)) in
    ceiling_is (v * 10 ^ (places + zeros)) (10 ^ places) (v * 10 ^ zeros) (ten_power_positive places) (omega (arith, e)) (omega (arith, e, ten_power_positive places))

-- some digits are left, or the number is below one
pub rounded_part : (xs ys : List ℕ) (places m : ℕ) → list_all is_ascii_digit ys ≡ true → length ys ≤ m → digits_value 10 xs * 10 ^ length ys ≡ digits_value 10 xs * 10 ^ m → div_ceil (digits_value 10 (xs ++ ys) * 10 ^ places) (10 ^ (m + places)) ≡ digits_value 10 xs + more_of ys
rounded_part xs ys places m digits short same =
    let value : digits_value 10 (xs ++ ys) ≡ digits_value 10 xs * 10 ^ m + digits_value 10 ys =
    digits_after-append 0 xs ys ∙ digits_after-is (digits_value 10 xs) ys ∙ ap (λ n. n + digits_value 10 ys) same in
    shortened (digits_value 10 xs) (10 ^ m) (digits_value 10 ys) (10 ^ places) (digits_value 10 (xs ++ ys) * 10 ^ places) (10 ^ (m + places)) (more_of ys)
    (ten_power_positive m) (ten_power_positive places) (digits_value_short digits_model ys m digits short)
    (rest_some ys digits) (rest_none ys digits) (ap (λ n. n * 10 ^ places) value) (pow-add 10 m places)

-- one more zero, below a bound
pub bounded_zero : (n v new i : ℕ) → v ≡ min (n * 10 ^ i) (2 ^ 64) → new ≡ min (v * 10) (2 ^ 64) → new ≡ min (n * 10 ^ (i + 1)) (2 ^ 64)
bounded_zero n v new i before after =
    let more : n * 10 ^ (i + 1) ≡ n * 10 ^ i * 10 = ap (λ p. n * p) (pow-add 10 i 1) ∙ sym (mul_assoc n (10 ^ i) 10) in
    omega (arith, more, before, after)
