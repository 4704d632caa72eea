-- Which bytes of a text make a word.
use Rattle.std.specs.Prelude.{ℕ, Bool, ◌||◌, ◌&&◌, ◌==◌, not, nat_lt, List, length, [], ◌∷◌}
use Rattle.std.specs.List.{list_any, list_all}

-- the bytes { } [ ] | , = #
abbrev pub marks : List ℕ
marks = 123 ∷ 125 ∷ 91 ∷ 93 ∷ 124 ∷ 44 ∷ 61 ∷ 35 ∷ []

-- an ASCII control character
abbrev pub is_control : ℕ → Bool
is_control b = nat_lt b 32 || (b == 127)

-- a space or a tab
abbrev pub is_blank : ℕ → Bool
is_blank b = (b == 32) || (b == 9)

-- a byte of a word: no control character, no space, none of the marks
abbrev pub is_word_byte : ℕ → Bool
is_word_byte b = not (is_control b || (b == 32) || list_any (λ m. b == m) marks)

-- one or more such bytes
abbrev pub is_word : List ℕ → Bool
is_word text = nat_lt 0 (length text) && list_all is_word_byte text
