-- Texts without blanks at their ends, and their first words.
use Rattle.std.specs.Prelude.{ℕ, ◌-◌, List, length, take, drop}
use Rattle.std.specs.List.{prefix_len, suffix_len, position_or_len, before_first}
use Rattle.plain_text.specs.Words.{is_blank}

-- a text without the blanks at its beginning
abbrev pub front_trimmed : List ℕ → List ℕ
front_trimmed text = drop (prefix_len is_blank text) text

-- a text without the blanks at its end
abbrev pub end_trimmed : List ℕ → List ℕ
end_trimmed text = take (length text - suffix_len is_blank text) text

-- a text without the blanks around it
abbrev pub trimmed : List ℕ → List ℕ
trimmed text = end_trimmed (front_trimmed text)

-- what stands before the first blank
abbrev pub first_word : List ℕ → List ℕ
first_word text = before_first is_blank text

-- the rest from the first blank on
abbrev pub after_word : List ℕ → List ℕ
after_word text = drop (position_or_len is_blank text) text
