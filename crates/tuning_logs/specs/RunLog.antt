-- The run log: a line of a header, and a line for each recorded run.
use Rattle.std.specs.Prelude.{ℕ, ◌==◌, Bool, List, [], ◌∷◌, ◌++◌, codes, if◌then◌else◌}
use Rattle.std.specs.List.{list_any, flat_map}
use Rattle.std.specs.Fmt.{decimal}
use Rattle.objective.specs.declared.Answer.{Answer}
use Rattle.objective.specs.declared.Answer.TheVariants as answer
use Rattle.plain_text.specs.Decimals.{seconds}
use Rattle.param_space.specs.Space.{Lists}
use Rattle.tuning_logs.specs.EntryLines.{settings_of}

-- a recorded run
pub record LoggedRun : Type 0 where
  pub number : ℕ
  pub place : ℕ
  pub cutoff : ℕ
  pub answer : Answer
  pub config : List ℕ

-- a recorded run, by its parts
abbrev pub logged_run : ℕ → ℕ → ℕ → Answer → List ℕ → LoggedRun
logged_run number place cutoff answer config =
    record { number = number; place = place; cutoff = cutoff; answer = answer; config = config }

-- the word for an answer
abbrev pub answer_word : Answer → List ℕ
answer_word (answer.Solved time) = codes "SOLVED"
answer_word answer.Timeout = codes "TIMEOUT"
answer_word answer.Crashed = codes "CRASHED"
answer_word answer.Abort = codes "ABORT"

-- the time of a solution; 0 where there is none
abbrev pub time_of : Answer → ℕ
time_of (answer.Solved time) = time.0
time_of answer.Timeout = 0
time_of answer.Crashed = 0
time_of answer.Abort = 0

-- a double quote
abbrev pub is_quote : ℕ → Bool
is_quote b = b == 34

-- a text with each of its double quotes doubled
abbrev pub doubled : List ℕ → List ℕ
doubled text = flat_map (λ b. if is_quote b then b ∷ b ∷ [] else b ∷ []) text

-- a text that holds a double quote stands between double quotes, with each of its own doubled
abbrev pub quoted : List ℕ → List ℕ
quoted text = if list_any is_quote text then codes "\"" ++ (doubled text ++ codes "\"") else text

-- the first line
abbrev pub header_line : List ℕ
header_line = codes "number,pair,cutoff,answer,time,settings\n"

-- six fields parted by commas, the last one in quotes where it holds one
abbrev pub fields_text : List ℕ → List ℕ → List ℕ → List ℕ → List ℕ → List ℕ → List ℕ
fields_text number place cutoff word time settings =
    number ++ (codes "," ++ (place ++ (codes "," ++ (cutoff ++ (codes "," ++ (word ++ (codes "," ++ (time
    ++ (codes "," ++ (quoted settings ++ codes "\n"))))))))))

-- the number, the place of the pair, the cutoff, the answer, the time and the settings of a run
abbrev pub row_line : Lists → LoggedRun → List ℕ
row_line space run =
    fields_text (decimal run.number) (decimal run.place) (seconds run.cutoff) (answer_word run.answer)
    (seconds (time_of run.answer)) (settings_of space run.config)

-- the lines of these runs
abbrev pub row_lines : Lists → List LoggedRun → List ℕ
row_lines space runs = flat_map (row_line space) runs

-- a whole run log
abbrev pub rows : Lists → List LoggedRun → List ℕ
rows space runs = header_line ++ row_lines space runs
