-- The cause of each answer of the top call.
use Rattle.std.specs.Prelude.{ℕ, ◌≡◌, ◌<◌, List, length, slice_get, Option, Some, IfSome, IsSome}
use Rattle.objective.specs.declared.Outcome.{Outcome}
use Rattle.wrapper_lines.specs.declared.runs.Key.{Key}
use Rattle.outside.specs.Counts.{Rose}
use Rattle.outside.specs.ToldStates.{FilesTold}
use Rattle.uncapped.specs.Procedure.{Finished, Aborted}
use Rattle.uncapped.specs.Totals.{NeverAborts}
use Rattle.run_cache.specs.declared.cell.Cell.{Cell}
use Rattle.board_steps.specs.ProblemRuns.{table_of}
use Rattle.board_steps.specs.declared.tickets.Ticket.{Ticket}
use Rattle.pool_run.specs.Seats.{SeatState}
use Rattle.tuner.specs.AbortCauses.{IsAbortCause}
use Rattle.tuner.specs.Calls.{Call, call_of, IsMisused, IsCalled, StatesTask, IsSeated}
use Rattle.tuner.specs.KeptFaults.{HasFault}
use Rattle.tune_front.specs.Readings.{Bad, Gives, task_of, file_name}
use Rattle.tuner.specs.Tasks.{true_run, ask_over}
use Rattle.tune_front.specs.declared.status.FileKind.{FileKind}
use Rattle.tune_front.specs.declared.status.What.{What}
use Rattle.tune_front.specs.declared.status.Status.{Status}
use Rattle.tune_front.specs.declared.status.Status.TheVariants as status
use Rattle.tune_front.specs.declared.task.Task.{Task}

-- words and files state this task, and there are as many seats as it asks for
pub record IsRun (call : Call) (task : Task) : Type 0 where
  pub stated : StatesTask call.words call.files task
  pub seated : IsSeated (length call.seats) task

-- the cause of Ok: a search was run, and where a truth is told that never aborts, the uncapped procedure finishes
pub record IsFinished (call : Call) : Type 0 where
  pub task : Task
  pub run : IsRun call task
  pub finished : IsSome call.truth → NeverAborts task.problem.rules.limits (table_of call.truth task.problem)
      → (true_run call.truth task).end ≡ Finished

-- the cause of BadFile: this fault is the first in the files, and its file was read
pub record IsBadFile (call : Call) (kind : FileKind) (line : ℕ) (what : What) : Type 0 where
  pub name : List ℕ
  pub called : IsCalled call.words
  pub first : IfSome call.files.contents (λ contents. task_of call.words contents ≡ Bad kind name line what)

-- the cause of ReadFault: the count rose, and the files before this one have a reading
pub record IsUnread (call : Call) (kind : FileKind) : Type 0 where
  pub name : List ℕ
  pub called : IsCalled call.words
  pub next : Gives (λ contents. file_name call.words contents kind) call.files name
  pub rose : Rose call.files.faults call.files'.faults

-- the cause of TooFewSeats: words and files state a task that asks for more seats than there are
pub record IsTooFew (call : Call) (asked given : ℕ) : Type 0 where
  pub task : Task
  pub stated : StatesTask call.words call.files task
  pub workers : asked ≡ task.problem.rules.workers
  pub all : given ≡ length call.seats
  pub fewer : given < asked

-- the cause of Aborted: where a truth is told, the uncapped procedure is aborted, and the run of this cell is the first one of
-- an ask that aborts
pub record IsAborted (call : Call) (cell : Cell) : Type 0 where
  pub task : Task
  pub run : IsRun call task
  pub number : ℕ  -- of the ask
  pub abort : IsAbortCause task.problem call.truth (ask_over call.truth task number) cell
  pub ended : IsSome call.truth → (true_run call.truth task).end ≡ Aborted

-- the cause of ChildFault: one of the seats that the task asks for keeps a ticket that was asked for, whose run is the one that
-- failed, and its count rose; where a truth is told, the run is due at the ask whose number is the ticket's place
pub record IsChildFault (call : Call) (seat : ℕ) : Type 0 where
  pub task : Task
  pub run : IsRun call task
  pub one : seat < task.problem.rules.workers
  pub ticket : Ticket
  pub before : SeatState
  pub after : SeatState
  pub was : slice_get call.seats seat ≡ Some before
  pub is : slice_get call.seats' seat ≡ Some after
  pub fault : HasFault task call.truth before after ticket

-- the cause of each answer, but of want of memory; that of WriteFault is the output's
abbrev pub CauseOf : Call → Status → Type 0
CauseOf call status.Ok = IsFinished call
CauseOf call (status.Usage place) = IsMisused call.words place
CauseOf call (status.BadFile kind line what) = IsBadFile call kind line what
CauseOf call (status.ReadFault kind) = IsUnread call kind
CauseOf call status.WriteFault = Unit {0}
CauseOf call (status.Aborted cell) = IsAborted call cell
CauseOf call (status.ChildFault seat) = IsChildFault call seat
CauseOf call status.NoMemory = Unit {0}
CauseOf call (status.TooFewSeats asked given) = IsTooFew call asked given

-- the answer has its cause in the words, and in what files tell and what seats hold before and after the call
abbrev pub HasCause : List (List ℕ) → FilesTold → FilesTold → Option (Key → Outcome) → List SeatState → List SeatState → Status
    → Type 0
HasCause words files files' truth seats seats' = CauseOf (call_of words files files' truth seats seats')
