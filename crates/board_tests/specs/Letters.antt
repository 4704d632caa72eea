-- What a child answers, by a letter of a table.
use Rattle.std.specs.Prelude.{ℕ, ◌+◌, ◌-◌, ◌*◌, ◌==◌, List, [], ◌∷◌, slice_index_or, if◌then◌else◌}
use Rattle.objective.specs.declared.Outcome.{Outcome}
use Rattle.objective.specs.declared.Outcome.TheVariants.{Solved, Unsolved, Crashed, Abort}
use Rattle.wrapper_lines.specs.declared.runs.Key.{Key}
use Rattle.wrapper_lines.specs.declared.runs.Setting.{Setting}

-- the first byte of the first setting's value; that of a where there is none
abbrev pub first_byte : List Setting → ℕ
first_byte [] = 97
first_byte (s ∷ rest) = slice_index_or s.value 0 97

-- the column of a run: there are four of each value, one for each seed
abbrev pub column_of : Key → ℕ
column_of key = (first_byte key.settings - 97) * 4 + (key.seed - 1)

-- the outcome that a letter stands for: a digit for that many seconds, u for no solution, c for a crash, x for an abort after a second and l for one after eight
abbrev pub outcome_of : ℕ → Outcome
outcome_of letter =
    if letter == 117 then Unsolved
    else if letter == 99 then Crashed (record { 0 = 1000000 })
    else if letter == 120 then Abort (record { 0 = 1000000 })
    else if letter == 108 then Abort (record { 0 = 8000000 })
    else Solved (record { 0 = (letter - 48) * 1000000 })

-- the outcome of a run, by the letter in its column
abbrev pub outcome_at : Key → Outcome
outcome_at key = outcome_of (slice_index_or key.specifics (column_of key) 117)
