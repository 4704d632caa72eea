-- Positions of bytes, and what a text is read as.
use Rattle.std.proofs.Common.{ℕ, ◌≡◌, ◌<◌, ◌≤◌, ◌^◌, Bool, true, false, cond, not, List, length, min, position, nat_lt, Option, Some, None, refl, sym, ap, ◌∙◌, arith}
use Rattle.std.proofs.lemmas.Bool.Decides.{nat_tests}
use Rattle.std.proofs.lemmas.List.Sums.{prefix_len-le-length}
use Rattle.std.proofs.lemmas.Str.Parse.{digits_value_short}
use Rattle.std.specs.Char.{is_ascii_digit}
use Rattle.std.specs.List.{list_all, position_or_len}
use Rattle.std.specs.Option.{unwrap_or}
use Rattle.std.specs.Str.Parse.{digits_value}
use Rattle.plain_text.specs.Decimals.{is_count, count_of}
use Rattle.plain_text.specs.Times.{whole, fraction, shifts, are_digits, micros_of, in_range, read_parts, micros_read}
use Rattle.plain_text.proofs.Digits.{digits_model}

-- the first position, or else the length
pub position_or_length : (p : ℕ → Bool) (xs : List ℕ) (r : Option ℕ) (n : ℕ) → r ≡ position p xs → n ≡ unwrap_or r (length xs) → n ≡ position_or_len p xs
position_or_length p xs r n first e = e ∙ ap (λ o. unwrap_or o (length xs)) first ∙ by (nat_lt (position_or_len p xs) (length xs)) refl
  where
    by : (b : Bool) → b ≡ nat_lt (position_or_len p xs) (length xs) → unwrap_or (cond b (Some (position_or_len p xs)) None) (length xs) ≡ position_or_len p xs
    by true t = refl
    by false t =
        let le = prefix_len-le-length (λ x. not (p x)) xs in
        grind (arith, nat_tests, t, le)

-- a count of at most three digits
pub count_small : (ds : List ℕ) (n : ℕ) → length ds ≤ 3 → Some n ≡ count_of ds → n < 1000
count_small ds n short e = by (is_count ds) refl e
  where
    by : (b : Bool) → b ≡ is_count ds → Some n ≡ cond b (Some (digits_value 10 ds)) None → n < 1000
    by false t e = absurd (cc)
    by true t e =
        let digits : list_all is_ascii_digit ds ≡ true = grind (arith, t) in
        let below : digits_value 10 ds < 10 ^ 3 = digits_value_short digits_model ds 3 digits short in
        let same : n ≡ digits_value 10 ds = cc in
        omega (arith, below, same)

in_range_bounded : (n : ℕ) → in_range (min n (2 ^ 64)) ≡ in_range n
unfolding in_range
in_range_bounded n = by (nat_lt n (2 ^ 64)) refl
  where
    by : (b : Bool) → b ≡ nat_lt n (2 ^ 64) → in_range (min n (2 ^ 64)) ≡ in_range n
    by true t =
        let same : min n (2 ^ 64) ≡ n = grind (arith, nat_tests, t) in
        rw same refl
    by false t =
        let test : nat_lt (min n (2 ^ 64)) (2 ^ 64) ≡ false = grind (arith, nat_tests, t) in
        rw (test, sym t) refl

-- a text that is read
pub read_done : (text before after : List ℕ) (right left m : ℕ) → Some (right, left) ≡ shifts text → before ≡ whole text → after ≡ fraction text → are_digits before after ≡ true → m ≡ min (micros_of before after right left) (2 ^ 64) → in_range m ≡ micros_read text
unfolding micros_read read_parts
read_done text before after right left m moved front back digits value =
    let read : read_parts before after (Some (right, left)) ≡ in_range (micros_of before after right left) = rw digits refl in
    let same : read_parts before after (Some (right, left)) ≡ micros_read text = rw (front, back, ← moved) refl in
    ap in_range value ∙ in_range_bounded (micros_of before after right left) ∙ sym read ∙ same
