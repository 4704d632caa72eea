-- What a child answers, by a letter of a table.
use Rattle.std.specs.Prelude.{ℕ, Bool, false, ◌+◌, ◌-◌, ◌*◌, ◌==◌, ◌||◌, List, [], ◌∷◌, bytes_eq, codes, slice_index_or, if◌then◌else◌}
use Rattle.objective.specs.declared.Outcome.{Outcome}
use Rattle.objective.specs.declared.Outcome.TheVariants.{Solved, Unsolved, Crashed, Abort}
use Rattle.wrapper_lines.specs.declared.runs.Key.{Key}
use Rattle.wrapper_lines.specs.declared.runs.Setting.{Setting}

-- the first setting has this value
abbrev pub has : List ℕ → List Setting → Bool
has value [] = false
has value (s ∷ rest) = bytes_eq s.value value

-- the letters of an instance with these specifics
abbrev pub letters_of : List ℕ → List ℕ
letters_of specifics = if bytes_eq specifics (codes "0") then codes "3429" else specifics

-- the first setting has the second value of a space
abbrev pub is_second : List Setting → Bool
is_second settings = has (codes "b") settings || has (codes "random") settings

-- the column of a run: of the seed 1 or another one, and of the first value or the second
abbrev pub column_of : Key → ℕ
column_of key = let others : ℕ = if key.seed == 1 then 0 else 1 in if is_second key.settings then 2 + others else others

-- the outcome that a letter stands for: a digit for that many seconds, q for 1.25 and h for 1.5, u for no solution, c for a crash, x for an abort and l for a late one
abbrev pub outcome_of : ℕ → Outcome
outcome_of letter =
    if letter == 117 then Unsolved
    else if letter == 99 then Crashed (record { 0 = 1000000 })
    else if letter == 120 then Abort (record { 0 = 1000000 })
    else if letter == 108 then Abort (record { 0 = 8000000 })
    else if letter == 113 then Solved (record { 0 = 1250000 })
    else if letter == 104 then Solved (record { 0 = 1500000 })
    else Solved (record { 0 = (letter - 48) * 1000000 })

-- the outcome of a run, by the letter in its column
abbrev pub outcome_at : Key → Outcome
outcome_at key = outcome_of (slice_index_or (letters_of key.specifics) (column_of key) 117)
