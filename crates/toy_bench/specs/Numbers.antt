-- Which words are a toy's number, and which number.
use Rattle.std.specs.Prelude.{ℕ, Bool, ◌^◌, ◌&&◌, List, length, nat_lt, Option, Some, None, if◌then◌else◌}
use Rattle.std.specs.Char.{is_ascii_digit}
use Rattle.std.specs.List.{list_all}
use Rattle.std.specs.Str.Parse.{digits_value}

-- one or more digits that make a number below 2^32
abbrev pub is_number : List ℕ → Bool
is_number word = list_all is_ascii_digit word && nat_lt 0 (length word) && nat_lt (digits_value 10 word) (2 ^ 32)

-- the number that a word of digits stands for
abbrev pub number_of : List ℕ → Option ℕ
number_of word = if is_number word then Some (digits_value 10 word) else None
