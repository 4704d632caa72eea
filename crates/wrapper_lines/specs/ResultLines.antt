-- The result lines of a program's output, and the answer that they are read as.
use Rattle.std.specs.Prelude.{ℕ, ◌==◌, Bool, ◌||◌, List, Option, Some, None, Result, Ok, Err, nat_le, if◌then◌else◌, codes}
use Rattle.std.specs.List.{before_first, after_first, filter_map, last_or}
use Rattle.std.specs.Str.{str_eq_ignore_ascii_case}
use Rattle.plain_text.specs.Lines.{lines}
use Rattle.plain_text.specs.Parts.{after_prefix}
use Rattle.plain_text.specs.Trimming.{front_trimmed, trimmed}
use Rattle.plain_text.specs.Times.{micros_read}
use Rattle.plain_text.specs.declared.times.TimeFault.{TimeFault}
use Rattle.plain_text.specs.declared.times.TimeFault.TheVariants.{NotDecimal, TooLarge}
use Rattle.objective.specs.declared.Micros.{Micros}
use Rattle.objective.specs.declared.Answer.{Answer}
use Rattle.objective.specs.declared.Answer.TheVariants.{Solved, Timeout, Crashed, Abort}

-- what a line says that begins, after blanks, as a result line does; None of any other line
abbrev pub said_in : List ℕ → Option (List ℕ)
said_in line = after_prefix (codes "Result for ParamILS:") (front_trimmed line)

-- what the last result line of an output says
abbrev pub last_said : List ℕ → Option (List ℕ)
last_said output = last_or None (filter_map said_in (lines output))

-- a comma
abbrev pub is_comma : ℕ → Bool
is_comma b = b == 44

-- the first of the fields that stand between commas, without the blanks around it
abbrev pub first_field : List ℕ → List ℕ
first_field said = trimmed (before_first is_comma said)

-- the second of these fields
abbrev pub second_field : List ℕ → List ℕ
second_field said = first_field (after_first is_comma said)

-- a word that says that a run was solved, in any case
abbrev pub says_solved : List ℕ → Bool
says_solved word =
    str_eq_ignore_ascii_case word (codes "SAT") || str_eq_ignore_ascii_case word (codes "UNSAT")
    || str_eq_ignore_ascii_case word (codes "SUCCESS")

-- a run that was solved after a time: a time above the cutoff is a timeout, and what isn't a time a crash
abbrev pub solved_after : ℕ → Result Micros TimeFault → Answer
solved_after cutoff (Ok t) = if nat_le t.0 cutoff then Solved t else Timeout
solved_after cutoff (Err TooLarge) = Timeout
solved_after cutoff (Err NotDecimal) = Crashed

-- what a word and a time say
abbrev pub answer_by : ℕ → List ℕ → Result Micros TimeFault → Answer
answer_by cutoff word time =
    if says_solved word then solved_after cutoff time
    else if str_eq_ignore_ascii_case word (codes "TIMEOUT") then Timeout
    else if str_eq_ignore_ascii_case word (codes "ABORT") then Abort
    else Crashed

-- the answer of what the last result line says; a crash where there is none
abbrev pub answer_after : ℕ → Option (List ℕ) → Answer
answer_after cutoff None = Crashed
answer_after cutoff (Some said) = answer_by cutoff (first_field said) (micros_read (second_field said))

-- what an output shows under a cutoff
unfoldable pub answer_of : List ℕ → ℕ → Answer
answer_of output cutoff = answer_after cutoff (last_said output)
