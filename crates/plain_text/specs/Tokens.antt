-- The tokens of a line: marks, and runs of other bytes without blanks.
use Rattle.std.specs.Prelude.{ℕ, Bool, true, false, ◌+◌, ◌||◌, ◌==◌, List, [], ◌∷◌, if◌then◌else◌}
use Rattle.std.specs.List.{list_any, position_or_len, before_first}
use Rattle.plain_text.specs.Words.{is_blank}
use Rattle.plain_text.specs.Comments.{uncommented}
use Rattle.plain_text.specs.declared.tokenizer.Token.{Token}

-- the bytes { } [ ] | , = , each of which is a token of its own
abbrev pub stands_alone : ℕ → Bool
stands_alone b = list_any (λ m. b == m) (123 ∷ 125 ∷ 91 ∷ 93 ∷ 124 ∷ 44 ∷ 61 ∷ [])

-- a byte that is in no run: a blank or one of these
abbrev pub parts_runs : ℕ → Bool
parts_runs b = is_blank b || stands_alone b

-- the texts of the tokens of a text without a comment; `free` where no run goes on at its first byte
unfoldable pub texts_after : Bool → List ℕ → List (List ℕ)
texts_after free [] = []
texts_after free (b ∷ rest) =
    if is_blank b then texts_after true rest
    else if stands_alone b then (b ∷ []) ∷ texts_after true rest
    else if free then (b ∷ before_first parts_runs rest) ∷ texts_after false rest
    else texts_after false rest

-- the texts of the tokens of a line
unfoldable pub token_texts : List ℕ → List (List ℕ)
token_texts line = texts_after true (uncommented line)

-- the positions of these tokens, where the first byte has this position
unfoldable pub tokens_after : Bool → ℕ → List ℕ → List Token
tokens_after free position [] = []
tokens_after free position (b ∷ rest) =
    if is_blank b then tokens_after true (position + 1) rest
    else if stands_alone b then record { start = position; end = position + 1 } ∷ tokens_after true (position + 1) rest
    else if free then record { start = position; end = position + 1 + position_or_len parts_runs rest } ∷ tokens_after false (position + 1) rest
    else tokens_after false (position + 1) rest

-- the positions of the tokens of a line
unfoldable pub tokens : List ℕ → List Token
tokens line = tokens_after true 0 (uncommented line)
