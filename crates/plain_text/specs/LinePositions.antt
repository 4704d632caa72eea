-- Where the lines of a text stand, and their numbers.
use Rattle.std.specs.Prelude.{ℕ, ◌≡◌, ◌+◌, ◌-◌, List, [], ◌∷◌, length, map}
use Rattle.std.specs.List.{slice_split}
use Rattle.plain_text.specs.Lines.{is_break, without_return, open_line}
use Rattle.plain_text.specs.declared.line_positions.Line.{Line}

-- a line after a number of others, at a position
abbrev pub line_at : ℕ → ℕ → ℕ → Line
line_at given start size = record { number = given + 1; start = start; end = start + size }

-- the lines of the parts of a text between its line feeds, after a number of others, from a position on
unfoldable pub positions_of : ℕ → ℕ → List (List ℕ) → List Line
positions_of given start [] = []
positions_of given start (part ∷ []) = map (λ line. line_at given start (length line)) (open_line part)
positions_of given start (part ∷ next ∷ parts) = line_at given start (length (without_return part)) ∷ positions_of (given + 1) (start + length part + 1) (next ∷ parts)

-- the positions of a text's lines
abbrev pub line_positions : List ℕ → List Line
line_positions text = positions_of 0 0 (slice_split is_break text)

-- the first line of a text, at its position, and the lines of what stands after its end
abbrev pub IsFirstLine : List ℕ → List ℕ → List ℕ → Type 0
IsFirstLine text line later =
    (given start : ℕ) → positions_of given start (slice_split is_break text) ≡ line_at given start (length line) ∷ positions_of (given + 1) (start + (length text - length later)) (slice_split is_break later)
