-- Numbers as text: counts that are read, seconds that are written.
use Rattle.std.specs.Prelude.{ℕ, Bool, ◌/◌, ◌%◌, ◌^◌, ◌&&◌, List, ◌++◌, length, nat_lt, Option, Some, None, if◌then◌else◌, codes}
use Rattle.std.specs.Char.{is_ascii_digit}
use Rattle.std.specs.List.{list_all}
use Rattle.std.specs.Str.Parse.{digits_value}
use Rattle.std.specs.Fmt.{decimal}

-- one or more digits that make a number below 2^64
abbrev pub is_count : List ℕ → Bool
is_count text = list_all is_ascii_digit text && nat_lt 0 (length text) && nat_lt (digits_value 10 text) (2 ^ 64)

-- the number that a text of digits stands for
abbrev pub count_of : List ℕ → Option ℕ
count_of text = if is_count text then Some (digits_value 10 text) else None

-- the last six digits
abbrev pub six_digits : ℕ → List ℕ
six_digits n =
    decimal (n / 100000 % 10) ++ (decimal (n / 10000 % 10) ++ (decimal (n / 1000 % 10)
    ++ (decimal (n / 100 % 10) ++ (decimal (n / 10 % 10) ++ decimal (n % 10)))))

-- microseconds as whole seconds, a point and six digits
abbrev pub seconds : ℕ → List ℕ
seconds n = decimal (n / 1000000) ++ (codes "." ++ six_digits n)
