-- The promises of the top call.
use Rattle.std.specs.Prelude.{ℕ, ◌≡◌, ◌<◌, ◌⊎◌, Bool, true, false, IsTrue, List, [], ◌∷◌, length, nat_le, slice_get, Option, Some, IsSome}
use Rattle.objective.specs.declared.Outcome.{Outcome}
use Rattle.wrapper_lines.specs.declared.runs.Key.{Key}
use Rattle.outside.specs.Counts.{Rose}
use Rattle.outside.specs.ToldStates.{FilesTold, SinkTold}
use Rattle.outside.specs.WholePieces.{Took, TookPartOf}
use Rattle.uncapped.specs.Procedure.{Incumbent, Finished, Aborted}
use Rattle.uncapped.specs.Totals.{NeverAborts}
use Rattle.ils_face.specs.ProcedureAborts.{entries_of}
use Rattle.ils_face.specs.Steady.{Grows}
use Rattle.run_cache.specs.declared.cell.Cell.{Cell}
use Rattle.board_steps.specs.ProblemRuns.{table_of}
use Rattle.pool_run.specs.Seats.{SeatState}
use Rattle.tuner.specs.AnyAnswers.{EndsAs, may_end_any_call_that_reads}
use Rattle.tuner.specs.CallStarts.{StartsDue}
use Rattle.tuner.specs.Calls.{call_of, IsMisused, StatesTask, IsSeated}
use Rattle.tuning_logs.specs.EntryLines.{all_lines}
use Rattle.tuner.specs.Lines.{lines_with, output_of, aborted_line}
use Rattle.tune_front.specs.Readings.{Reads, Bad, task_of}
use Rattle.tuner.specs.SearchEnds.{IsSearched, AreFirst}
use Rattle.tuner.specs.Tasks.{true_run, quiet_run}
use Rattle.tune_front.specs.declared.status.FileKind.{FileKind}
use Rattle.tune_front.specs.declared.status.What.{What}
use Rattle.tune_front.specs.declared.status.Status.{Status}
use Rattle.tune_front.specs.declared.status.Status.TheVariants as status
use Rattle.tune_front.specs.declared.task.Task.{Task}

-- ---- the headline

-- the bytes that the output took are the lines of a search of the stated task that made all comparisons, and
-- nothing else; where the seats tell a truth that never aborts, the uncapped procedure over it finishes, and where it
-- finishes, they are its lines
pub record IsPrinted (words : List (List ℕ)) (files : FilesTold) (truth : Option (Key → Outcome)) (out out' : SinkTold) : Type 0 where
  pub task : Task
  pub stated : StatesTask words files task
  pub entries : List Incumbent
  pub last : Incumbent
  pub searched : IsSearched task.problem.rules entries last
  pub printed : Took out out' (all_lines task.problem.rules.space entries last)
  pub finished : IsSome truth → NeverAborts task.problem.rules.limits (table_of truth task.problem)
      → (true_run truth task).end ≡ Finished
  pub told : IsSome truth → (true_run truth task).end ≡ Finished
      → Took out out' (output_of task.problem.rules.space (true_run truth task))

-- with Ok the trajectory is printed
abbrev pub Headline : List (List ℕ) → FilesTold → Option (Key → Outcome) → SinkTold → SinkTold → Status → Type 0
Headline words files truth out out' result = result ≡ status.Ok → IsPrinted words files truth out out'

-- ---- starts

-- with Ok the first seat has started due runs of the stated task, and nothing else
abbrev pub Starts : List (List ℕ) → FilesTold → FilesTold → Option (Key → Outcome) → List SeatState → List SeatState
    → Status → Type 0
Starts words files files' truth seats seats' result =
    result ≡ status.Ok → StartsDue (call_of words files files' truth seats seats')

-- ---- aborts, and entries so far

-- with Ok all entries and the last line of the uncapped procedure with each abort as unsolved were printed, where a truth is told
pub record IsUnabortedOutput (words : List (List ℕ)) (files : FilesTold) (truth : Option (Key → Outcome)) (out out' : SinkTold) : Type 0 where
  pub task : Task
  pub stated : StatesTask words files task
  pub entries : List Incumbent
  pub last : Incumbent
  pub printed : Took out out' (all_lines task.problem.rules.space entries last)
  pub holds : IsSome truth → Grows (entries_of (true_run truth task)) entries
  pub all : IsSome truth → entries ≡ entries_of (quiet_run truth task)
  pub end : IsSome truth → last ≡ (quiet_run truth task).last

-- with Aborted entries and the line of the cell were printed: where a truth is told, the uncapped procedure is aborted,
-- its entries are the first ones of these, and these are the first ones of it with each abort as unsolved
pub record IsAbortedOutput (words : List (List ℕ)) (files : FilesTold) (truth : Option (Key → Outcome)) (cell : Cell) (out out' : SinkTold) : Type 0 where
  pub task : Task
  pub stated : StatesTask words files task
  pub entries : List Incumbent
  pub printed : Took out out' (lines_with task.problem.rules.space entries (aborted_line task.problem.rules.space cell.place cell.config))
  pub aborts : IsSome truth → (true_run truth task).end ≡ Aborted
  pub holds : IsSome truth → Grows (entries_of (true_run truth task)) entries
  pub first : AreFirst task truth entries

-- the abort sentence
pub record AbortSentence (words : List (List ℕ)) (files : FilesTold) (truth : Option (Key → Outcome)) (out out' : SinkTold) (result : Status) : Type 0 where
  pub ok : result ≡ status.Ok → IsUnabortedOutput words files truth out out'
  pub aborted : (cell : Cell) → result ≡ status.Aborted cell → IsAbortedOutput words files truth cell out out'

-- the text isn't empty, and begins with a lower-case letter: it is no entry's line
abbrev pub begins_with_letter : List ℕ → Bool
begins_with_letter [] = false
begins_with_letter (byte ∷ rest) = nat_le 97 byte

-- whatever the answer, the output took the lines of entries and then one that is none, or a first part of these; where a
-- truth is told, the entries are the first ones of the uncapped procedure over it with each abort as unsolved
pub data PrintsFirst (words : List (List ℕ)) (files : FilesTold) (truth : Option (Key → Outcome)) (out out' : SinkTold) : Type 0 where
  none : (line : List ℕ) → IsTrue (begins_with_letter line) → TookPartOf out out' line → PrintsFirst words files truth out out'
  some : (task : Task) (entries : List Incumbent) (line : List ℕ) → StatesTask words files task → AreFirst task truth entries
      → IsTrue (begins_with_letter line) → TookPartOf out out' (lines_with task.problem.rules.space entries line) → PrintsFirst words files truth out out'

-- ---- refusals

-- a wrong key word gives Usage, whatever the files are, where nothing else comes in between
abbrev pub RefusesMisused : List (List ℕ) → Status → Type 0
RefusesMisused words result = (place : ℕ) → IsMisused words place → EndsAs (status.Usage place) result

-- a file with a fault gives BadFile, where nothing else comes in between
pub record RefusesFaulty (words : List (List ℕ)) (files : FilesTold) (result : Status) : Type 0 where
  pub refuses : (contents : List ℕ → Option (List ℕ)) (kind : FileKind) (name : List ℕ) (line : ℕ) (what : What) → files.contents ≡ Some contents
      → task_of words contents ≡ Bad kind name line what → (result ≡ status.BadFile kind line what) ⊎ IsTrue (may_end_any_call_that_reads result)

-- a task that asks for more seats than these gives TooFewSeats, where nothing else comes in between
pub record RefusesUnseated (words : List (List ℕ)) (files : FilesTold) (seats : ℕ) (result : Status) : Type 0 where
  pub refuses : (contents : List ℕ → Option (List ℕ)) (task : Task) → files.contents ≡ Some contents
      → task_of words contents ≡ Reads task → seats < task.problem.rules.workers
      → (result ≡ status.TooFewSeats task.problem.rules.workers seats) ⊎ IsTrue (may_end_any_call_that_reads result)

-- ---- completeness

-- no seat's count of faults rose
abbrev pub NoSeatFails : List SeatState → List SeatState → Type 0
NoSeatFails seats seats' = (k : ℕ) (before after : SeatState) → slice_get seats k ≡ Some before → slice_get seats' k ≡ Some after
    → ¬ Rose before.told.faults after.told.faults

-- where files and seats work, words and files state a task, there are enough seats and the told truth never aborts,
-- the call ends Ok, or for want of memory or a failed write
pub record IsComplete (words : List (List ℕ)) (files files' : FilesTold) (truth : Option (Key → Outcome))
    (seats seats' : List SeatState) (result : Status) : Type 0 where
  pub complete : (contents : List ℕ → Option (List ℕ)) (task : Task)
      → files.contents ≡ Some contents → task_of words contents ≡ Reads task → IsSeated (length seats) task
      → IsSome truth → NeverAborts task.problem.rules.limits (table_of truth task.problem)
      → ¬ Rose files.faults files'.faults → NoSeatFails seats seats'
      → EndsAs status.Ok result
