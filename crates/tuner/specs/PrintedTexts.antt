-- What the top call prints, by how it is to end, and what comes of it.
use Rattle.std.specs.Prelude.{ℕ, ◌≡◌, List, Option, IfSome, IsSome}
use Rattle.objective.specs.declared.Outcome.{Outcome}
use Rattle.wrapper_lines.specs.declared.runs.Key.{Key}
use Rattle.outside.specs.ToldStates.{FilesTold, SinkTold}
use Rattle.uncapped.specs.Procedure.{Incumbent}
use Rattle.ils_face.specs.Replies.{entries_before}
use Rattle.ils_face.specs.Steady.{Grows}
use Rattle.run_cache.specs.declared.cell.Cell.{Cell}
use Rattle.board_steps.specs.declared.tickets.Ticket.{Ticket}
use Rattle.pool_run.specs.Seats.{SeatState}
use Rattle.tune_front.specs.SaidTexts.{Said}
use Rattle.tuner.specs.Calls.{StatesTask}
use Rattle.tuner.specs.KeptFaults.{IsKeptBy}
use Rattle.tune_front.specs.RefusalLines.{no_memory_line, usage_line, bad_file_line, read_fault_line, seats_line}
use Rattle.tuning_logs.specs.EntryLines.{all_lines}
use Rattle.tuner.specs.Lines.{lines_with, aborted_line, child_fault_line}
use Rattle.tune_front.specs.Readings.{Bad, Gives, task_of, file_name}
use Rattle.tuner.specs.SearchEnds.{IsTrajectoryOf, IsStoppedSearch, AreFirst}
use Rattle.tuner.specs.Tasks.{quiet_run}
use Rattle.tune_front.specs.declared.status.FileKind.{FileKind}
use Rattle.tune_front.specs.declared.status.What.{What}
use Rattle.tune_front.specs.declared.status.Status.{Status}
use Rattle.tune_front.specs.declared.status.Status.TheVariants as status
use Rattle.tune_front.specs.declared.task.Task.{Task}

-- the entries and the last line of a search that made all comparisons
pub record IsSearchText (words : List (List ℕ)) (files : FilesTold) (truth : Option (Key → Outcome)) (text : List ℕ) : Type 0 where
  pub task : Task
  pub stated : StatesTask words files task
  pub entries : List Incumbent
  pub last : Incumbent
  pub trajectory : IsTrajectoryOf task truth entries last
  pub lines : text ≡ all_lines task.problem.rules.space entries last

-- the line of the file's first fault
pub record IsBadFileText (words : List (List ℕ)) (files : FilesTold) (kind : FileKind) (line : ℕ) (what : What) (text : List ℕ) : Type 0 where
  pub name : List ℕ
  pub first : IfSome files.contents (λ contents. task_of words contents ≡ Bad kind name line what)
  pub same : text ≡ bad_file_line name line what

-- the line of the file that is to be read next
pub record IsReadFaultText (words : List (List ℕ)) (files : FilesTold) (kind : FileKind) (text : List ℕ) : Type 0 where
  pub name : List ℕ
  pub next : Gives (λ contents. file_name words contents kind) files name
  pub same : text ≡ read_fault_line name

-- the entries of a search that a child aborts, and then the place and the settings of its run
pub record IsAbortedText (words : List (List ℕ)) (files : FilesTold) (truth : Option (Key → Outcome)) (cell : Cell) (text : List ℕ) : Type 0 where
  pub task : Task
  pub stated : StatesTask words files task
  pub entries : List Incumbent
  pub stopped : IsStoppedSearch task truth entries
  pub lines : text ≡ lines_with task.problem.rules.space entries (aborted_line task.problem.rules.space cell.place cell.config)

-- the entries of a search so far, and then the place and the settings of the run of a seat's kept ticket; where a truth is told,
-- they are at least those that the uncapped procedure, each abort as unsolved, adds before the ask with the ticket's place
pub record IsChildFaultText (words : List (List ℕ)) (files : FilesTold) (truth : Option (Key → Outcome)) (seats : List SeatState)
    (seat : ℕ) (text : List ℕ) : Type 0 where
  pub task : Task
  pub stated : StatesTask words files task
  pub entries : List Incumbent
  pub first : AreFirst task truth entries
  pub ticket : Ticket
  pub before : IsSome truth → Grows (entries_before (quiet_run truth task) ticket.place) entries
  pub kept : IsKeptBy task.problem seats seat ticket
  pub lines : text ≡ lines_with task.problem.rules.space entries (child_fault_line task.problem.rules.space ticket.cell.place ticket.cell.config)

-- the line that there is no memory, by itself or after the entries of a search so far
pub data IsNoMemoryText (words : List (List ℕ)) (files : FilesTold) (truth : Option (Key → Outcome)) (text : List ℕ) : Type 0 where
  alone : text ≡ no_memory_line → IsNoMemoryText words files truth text
  after_entries : (task : Task) (entries : List Incumbent) → StatesTask words files task → AreFirst task truth entries
      → text ≡ lines_with task.problem.rules.space entries no_memory_line → IsNoMemoryText words files truth text

-- the whole text of a call that is to end so; the seats are those after the call
abbrev pub IsTextOf : List (List ℕ) → FilesTold → Option (Key → Outcome) → List SeatState → Status → List ℕ → Type 0
IsTextOf words files truth seats status.Ok text = IsSearchText words files truth text
IsTextOf words files truth seats (status.Usage place) text = text ≡ usage_line place
IsTextOf words files truth seats (status.BadFile kind line what) text = IsBadFileText words files kind line what text
IsTextOf words files truth seats (status.ReadFault kind) text = IsReadFaultText words files kind text
IsTextOf words files truth seats status.WriteFault text = ⊥
IsTextOf words files truth seats (status.Aborted cell) text = IsAbortedText words files truth cell text
IsTextOf words files truth seats (status.ChildFault seat) text = IsChildFaultText words files truth seats seat text
IsTextOf words files truth seats status.NoMemory text = IsNoMemoryText words files truth text
IsTextOf words files truth seats (status.TooFewSeats asked given) text = text ≡ seats_line asked given

-- how the call was to end, what it was to print then, and what came of it
pub record Printed (words : List (List ℕ)) (files : FilesTold) (truth : Option (Key → Outcome)) (seats : List SeatState) (out out' : SinkTold) (result : Status) : Type 0 where
  pub end : Status
  pub text : List ℕ
  pub wanted : IsTextOf words files truth seats end text
  pub said : Said out out' end result text
