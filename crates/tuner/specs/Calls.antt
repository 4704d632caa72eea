-- What the top call is given, and what is told of it.
use Rattle.std.specs.Prelude.{ℕ, ◌≡◌, ◌≤◌, List, Option, Ok, Err}
use Rattle.objective.specs.declared.Outcome.{Outcome}
use Rattle.wrapper_lines.specs.declared.runs.Key.{Key}
use Rattle.outside.specs.ToldStates.{FilesTold}
use Rattle.scenario_files.specs.Words.{words_read}
use Rattle.scenario_files.specs.declared.call.Words.{Words}
use Rattle.pool_run.specs.Seats.{SeatState}
use Rattle.tune_front.specs.Readings.{Gives, task_of}
use Rattle.tune_front.specs.declared.task.Task.{Task}

-- what a call is given, with what its files tell and what its seats hold before and after it
pub record Call : Type 0 where
  pub words : List (List ℕ)
  pub files : FilesTold
  pub files' : FilesTold
  pub truth : Option (Key → Outcome)  -- of the seats, where it is told
  pub seats : List SeatState
  pub seats' : List SeatState

abbrev pub call_of : List (List ℕ) → FilesTold → FilesTold → Option (Key → Outcome) → List SeatState → List SeatState
    → Call
call_of words files files' truth seats seats' =
    record { words = words; files = files; files' = files'; truth = truth; seats = seats; seats' = seats' }

-- the key word at this place is the first that is wrong; or none is, there are so many words and none names the scenario file
abbrev pub IsMisused : List (List ℕ) → ℕ → Type 0
IsMisused words place = words_read words ≡ Err place

-- the words have a reading
pub record IsCalled (words : List (List ℕ)) : Type 0 where
  pub given : Words
  pub reads : words_read words ≡ Ok given

-- the words and the files, where these are told, state this task
pub record StatesTask (words : List (List ℕ)) (files : FilesTold) (task : Task) : Type 0 where
  pub called : IsCalled words
  pub reads : Gives (task_of words) files task

-- so many seats are as many as the task asks for
abbrev pub IsSeated : ℕ → Task → Type 0
IsSeated seats task = task.problem.rules.workers ≤ seats
