-- The lines of a text, and their numbers.
use Rattle.std.specs.Prelude.{ℕ, Bool, ◌+◌, ◌-◌, ◌==◌, List, [], ◌∷◌, length, take, get_or, if◌then◌else◌}
use Rattle.std.specs.List.{slice_split}

-- a line feed
abbrev pub is_break : ℕ → Bool
is_break b = b == 10

-- what a line feed ends, without a carriage return directly before it
abbrev pub without_return : List ℕ → List ℕ
without_return part = if get_or part (length part - 1) 0 == 13 then take (length part - 1) part else part

-- what no line feed ends is a line where it isn't empty
abbrev pub open_line : List ℕ → List (List ℕ)
open_line [] = []
open_line (b ∷ part) = (b ∷ part) ∷ []

-- the lines of the parts of a text between its line feeds
unfoldable pub lines_among : List (List ℕ) → List (List ℕ)
lines_among [] = []
lines_among (part ∷ []) = open_line part
lines_among (part ∷ next ∷ parts) = without_return part ∷ lines_among (next ∷ parts)

-- the lines of a text
abbrev pub lines : List ℕ → List (List ℕ)
lines text = lines_among (slice_split is_break text)

-- texts with their numbers, from a number on
unfoldable pub numbered_from : ℕ → List (List ℕ) → List (ℕ × List ℕ)
numbered_from n [] = []
numbered_from n (text ∷ texts) = (n, text) ∷ numbered_from (n + 1) texts

-- the lines of a text, each with its number, from 1
unfoldable pub numbered_lines : List ℕ → List (ℕ × List ℕ)
numbered_lines text = numbered_from 1 (lines text)
