-- Times in seconds as decimals: their grammar, and the microseconds that they stand for.
use Rattle.std.specs.Prelude.{ℕ, Bool, ◌+◌, ◌*◌, ◌^◌, ◌&&◌, ◌||◌, ◌==◌, not, List, ◌++◌, length, drop, get_or, nat_lt, Option, Some, None, Result, Ok, Err, if◌then◌else◌}
use Rattle.std.specs.Char.{is_ascii_digit}
use Rattle.std.specs.Int.{div_ceil}
use Rattle.std.specs.List.{list_all, position_or_len, before_first, after_first}
use Rattle.std.specs.Option.{option_map}
use Rattle.std.specs.Str.Parse.{digits_value}
use Rattle.objective.specs.declared.Micros.{Micros}
use Rattle.plain_text.specs.declared.times.TimeFault.{TimeFault}
use Rattle.plain_text.specs.declared.times.TimeFault.TheVariants.{NotDecimal, TooLarge}
use Rattle.plain_text.specs.Decimals.{count_of}

-- the letter before an exponent: e or E
abbrev pub is_letter : ℕ → Bool
is_letter b = (b == 101) || (b == 69)

-- a decimal point
abbrev pub is_point : ℕ → Bool
is_point b = b == 46

-- what stands before the exponent's letter
abbrev pub mantissa : List ℕ → List ℕ
mantissa text = before_first is_letter text

-- the digits before the point
abbrev pub whole : List ℕ → List ℕ
whole text = before_first is_point (mantissa text)

-- the digits after the point
abbrev pub fraction : List ℕ → List ℕ
fraction text = after_first is_point (mantissa text)

-- digits on both sides of the point, at least one in all
abbrev pub are_digits : List ℕ → List ℕ → Bool
are_digits before after = list_all is_ascii_digit before && list_all is_ascii_digit after && nat_lt 0 (length before + length after)

-- a digit other than 0
abbrev pub is_more : ℕ → Bool
is_more b = not (b == 48)

-- whether an exponent begins with a sign
abbrev pub is_signed : List ℕ → Bool
is_signed power = (get_or power 0 0 == 43) || (get_or power 0 0 == 45)

-- whether an exponent begins with a minus
abbrev pub is_negative : List ℕ → Bool
is_negative power = get_or power 0 0 == 45

-- an exponent without its sign
abbrev pub without_sign : List ℕ → List ℕ
without_sign power = drop (if is_signed power then 1 else 0) power

-- the size of an exponent of one to three digits
unfoldable pub power_size : List ℕ → Option ℕ
power_size power = if nat_lt (length (without_sign power)) 4 then count_of (without_sign power) else None

-- by how many places an exponent moves the point to the right and to the left
unfoldable pub power_shifts : List ℕ → Option (ℕ × ℕ)
power_shifts power = option_map (λ n. if is_negative power then (0, n) else (n, 0)) (power_size power)

-- the same of a decimal, which may have no exponent
unfoldable pub shifts : List ℕ → Option (ℕ × ℕ)
shifts text = if nat_lt (position_or_len is_letter text) (length text) then power_shifts (after_first is_letter text) else Some (0, 0)

-- the microseconds of the seconds with these digits before and after the point, which is moved
-- to the right and to the left: rounded up to a whole number
unfoldable pub micros_of : List ℕ → List ℕ → ℕ → ℕ → ℕ
micros_of before after right left = div_ceil (digits_value 10 (before ++ after) * 10 ^ (6 + right)) (10 ^ (length after + left))

-- a number of microseconds, where it is below 2^64
unfoldable pub in_range : ℕ → Result Micros TimeFault
in_range n = if nat_lt n (2 ^ 64) then Ok (record { 0 = n }) else Err TooLarge

-- what a text of these digits and shifts is read as
unfoldable pub read_parts : List ℕ → List ℕ → Option (ℕ × ℕ) → Result Micros TimeFault
read_parts before after None = Err NotDecimal
read_parts before after (Some (right, left)) = if are_digits before after then in_range (micros_of before after right left) else Err NotDecimal

-- what a text is read as
unfoldable pub micros_read : List ℕ → Result Micros TimeFault
micros_read text = read_parts (whole text) (fraction text) (shifts text)
