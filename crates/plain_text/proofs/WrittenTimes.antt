-- A time that is written in seconds is read back.
use Rattle.std.proofs.Common.{ℕ, ◌≡◌, ◌<◌, ◌+◌, ◌*◌, ◌/◌, ◌%◌, ◌^◌, ◌==◌, ◌||◌, Bool, true, not, List, [], ◌∷◌, ◌++◌, length, Some, Ok, refl, ap, ◌∙◌, arith}
use Rattle.std.specs.Char.{is_ascii_digit, digit_value}
use Rattle.std.specs.Fmt.{decimal}
use Rattle.std.specs.List.{list_all, position_or_len, before_first, after_first}
use Rattle.std.specs.Str.Parse.{digits_value}
use Rattle.std.proofs.lemmas.Bool.Decides.{nat_tests}
use Rattle.std.proofs.lemmas.Fmt.{digits_decimal, digits_value-decimal, decimal_digit}
use Rattle.std.proofs.Math.Nat.{div-div-eq-div-mul}
use Rattle.plain_text.specs.Decimals.{seconds, six_digits}
use Rattle.plain_text.specs.Times.{is_letter, is_point, are_digits, micros_of, in_range, shifts, micros_read, read_parts}
use Rattle.plain_text.proofs.Digits.{digits_model}
use Rattle.plain_text.proofs.FirstPositions.{list_all-weaker, list_all-joined, position_none, before_first-found, after_first-found, before_first-none}
use Rattle.plain_text.proofs.Rounding.{digits_after-append, digits_after-is, ceiling_is}

-- the last six digits as bytes
six_bytes : ℕ → List ℕ
six_bytes t =
    (48 + t / 100000 % 10) ∷ (48 + t / 10000 % 10) ∷ (48 + t / 1000 % 10) ∷ (48 + t / 100 % 10) ∷ (48 + t / 10 % 10) ∷ (48 + t % 10) ∷ []

length_six : (t : ℕ) → length (six_bytes t) ≡ 6
unfolding six_bytes
length_six t = refl

six_digits-bytes : (t : ℕ) → six_digits t ≡ six_bytes t
unfolding six_bytes
six_digits-bytes t = simp (decimal_digit (t / 100000 % 10) (omega arith), decimal_digit (t / 10000 % 10) (omega arith), decimal_digit (t / 1000 % 10) (omega arith), decimal_digit (t / 100 % 10) (omega arith), decimal_digit (t / 10 % 10) (omega arith), decimal_digit (t % 10) (omega arith))

six_are_digits : (t : ℕ) → list_all is_ascii_digit (six_bytes t) ≡ true
unfolding six_bytes
six_are_digits t = grind (arith, nat_tests)

digit_value-digit : (d : ℕ) → d < 10 → digit_value (48 + d) ≡ d
digit_value-digit d h = grind (arith, nat_tests)

-- a quotient by its next one and a digit
next_quotient : (t k : ℕ) → t / k ≡ t / (k * 10) * 10 + t / k % 10
next_quotient t k = rw (← div-div-eq-div-mul t k 10) (omega arith)

six_value : (t : ℕ) → digits_value 10 (six_bytes t) ≡ t % 1000000
unfolding six_bytes
six_value t =
    simp (digit_value-digit (t / 100000 % 10) (omega arith), digit_value-digit (t / 10000 % 10) (omega arith), digit_value-digit (t / 1000 % 10) (omega arith), digit_value-digit (t / 100 % 10) (omega arith), digit_value-digit (t / 10 % 10) (omega arith), digit_value-digit (t % 10) (omega arith))
    (omega (arith, next_quotient t 100000, next_quotient t 10000, next_quotient t 1000, next_quotient t 100, next_quotient t 10))

seconds-bytes : (t : ℕ) → seconds t ≡ decimal (t / 1000000) ++ 46 ∷ six_bytes t
seconds-bytes t = rw (six_digits-bytes t)

-- the digits of the whole seconds
whole_digits : (t : ℕ) → t < 2 ^ 64 → list_all is_ascii_digit (decimal (t / 1000000)) ≡ true
whole_digits t small = digits_decimal digits_model (t / 1000000) (omega arith)

-- a digit or a point
unfoldable pub is_time_byte : ℕ → Bool
is_time_byte b = is_ascii_digit b || (b == 46)

digit-time_byte : (b : ℕ) → is_ascii_digit b ≡ true → is_time_byte b ≡ true
unfolding is_time_byte
digit-time_byte b h = grind (arith, nat_tests)

digit-no_point : (b : ℕ) → is_ascii_digit b ≡ true → not (is_point b) ≡ true
digit-no_point b h = grind (arith, nat_tests)

time_byte-no_letter : (b : ℕ) → is_time_byte b ≡ true → not (is_letter b) ≡ true
unfolding is_time_byte
time_byte-no_letter b h = grind (arith, nat_tests)

point-time_byte : (xs : List ℕ) → list_all is_time_byte xs ≡ true → list_all is_time_byte (46 ∷ xs) ≡ true
unfolding is_time_byte
point-time_byte xs h = h

bytes_are_time : (t : ℕ) → t < 2 ^ 64 → list_all is_time_byte (decimal (t / 1000000) ++ 46 ∷ six_bytes t) ≡ true
bytes_are_time t small =
    list_all-joined is_time_byte (decimal (t / 1000000)) (46 ∷ six_bytes t)
    (list_all-weaker is_ascii_digit is_time_byte digit-time_byte (decimal (t / 1000000)) (whole_digits t small))
    (point-time_byte (six_bytes t) (list_all-weaker is_ascii_digit is_time_byte digit-time_byte (six_bytes t) (six_are_digits t)))

-- a written time is of digits and points
pub seconds-time_bytes : (t : ℕ) → t < 2 ^ 64 → list_all is_time_byte (seconds t) ≡ true
seconds-time_bytes t small = ap (list_all is_time_byte) (seconds-bytes t) ∙ bytes_are_time t small

time_value : (t : ℕ) → t < 2 ^ 64 → digits_value 10 (decimal (t / 1000000) ++ six_bytes t) ≡ t
time_value t small =
    let below : t / 1000000 < 2 ^ 64 = omega arith in
    let six : length (six_bytes t) ≡ 6 = length_six t in
    let joined = digits_after-append 0 (decimal (t / 1000000)) (six_bytes t) ∙ digits_after-is (digits_value 10 (decimal (t / 1000000))) (six_bytes t) in
    let power : 10 ^ length (six_bytes t) ≡ 1000000 = ap (λ n. 10 ^ n) six in
    let scaled : digits_value 10 (decimal (t / 1000000)) * 10 ^ length (six_bytes t) ≡ digits_value 10 (decimal (t / 1000000)) * 1000000 = ap (λ n. digits_value 10 (decimal (t / 1000000)) * n) power in
    omega (arith, joined, scaled, digits_value-decimal digits_model (t / 1000000) below, six_value t)

-- a number of microseconds with six digits after the point
micros_of-six : (before after : List ℕ) (t : ℕ) → length after ≡ 6 → digits_value 10 (before ++ after) ≡ t → micros_of before after 0 0 ≡ t
unfolding micros_of
micros_of-six before after t six value = rw (six, value) (ceiling_is (t * 1000000) 1000000 t (omega arith) (omega arith) (omega arith))

are_digits-seconds : (t : ℕ) → t < 2 ^ 64 → are_digits (decimal (t / 1000000)) (six_bytes t) ≡ true
are_digits-seconds t small = grind (arith, nat_tests, whole_digits t small, six_are_digits t, length_six t)

in_range-small : (t : ℕ) → t < 2 ^ 64 → in_range t ≡ Ok (record { 0 = t })
unfolding in_range
in_range-small t small = grind (arith, nat_tests)

shifts-none : (text : List ℕ) → list_all is_time_byte text ≡ true → shifts text ≡ Some (0, 0)
unfolding shifts
shifts-none text h =
    let position : position_or_len is_letter text ≡ length text = position_none is_letter text (list_all-weaker is_time_byte (λ b. not (is_letter b)) time_byte-no_letter text h) in
    rw position (grind (arith, nat_tests))

-- digits, a point and six digits
read_bytes : (whole fraction : List ℕ) → list_all is_ascii_digit whole ≡ true → list_all is_time_byte (whole ++ 46 ∷ fraction) ≡ true → micros_read (whole ++ 46 ∷ fraction) ≡ read_parts whole fraction (Some (0, 0))
unfolding micros_read
read_bytes whole fraction digits bytes =
    let text = whole ++ 46 ∷ fraction in
    let mantissa : before_first is_letter text ≡ text = before_first-none is_letter text (list_all-weaker is_time_byte (λ b. not (is_letter b)) time_byte-no_letter text bytes) in
    let plain = list_all-weaker is_ascii_digit (λ b. not (is_point b)) digit-no_point whole digits in
    let front : before_first is_point (before_first is_letter text) ≡ whole = ap (before_first is_point) mantissa ∙ before_first-found is_point whole 46 fraction plain refl in
    let back : after_first is_point (before_first is_letter text) ≡ fraction = ap (after_first is_point) mantissa ∙ after_first-found is_point whole 46 fraction plain refl in
    (λ i. read_parts (front i) (back i) (shifts-none text bytes i))

-- a time that is written in seconds is read back
pub micros_read-seconds : (t : ℕ) → t < 2 ^ 64 → micros_read (seconds t) ≡ Ok (record { 0 = t })
unfolding read_parts
micros_read-seconds t small =
    ap micros_read (seconds-bytes t)
    ∙ read_bytes (decimal (t / 1000000)) (six_bytes t) (whole_digits t small) (bytes_are_time t small)
    ∙ rw (are_digits-seconds t small, micros_of-six (decimal (t / 1000000)) (six_bytes t) t (length_six t) (time_value t small)) (in_range-small t small)
