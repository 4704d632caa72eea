-- What the first seat starts in a call, by how that ends.
use Rattle.std.specs.Prelude.{◌≡◌, List, All, map, slice_get, Option, Some, IsSome}
use Rattle.objective.specs.declared.Outcome.{Outcome}
use Rattle.wrapper_lines.specs.declared.runs.Key.{Key}
use Rattle.run_cache.specs.Runs.{IsRising}
use Rattle.board_steps.specs.AgreeingBoards.{IsShown}
use Rattle.board_steps.specs.ProblemRuns.{table_of}
use Rattle.pool_run.specs.Drives.{Answered, tickets_in, run_in, IsAskedTicket, AreDueInOrder}
use Rattle.pool_run.specs.Seats.{SeatState}
use Rattle.pool_run.specs.Starts.{HasStarted}
use Rattle.tuner.specs.Calls.{Call, StatesTask}
use Rattle.tuner.specs.Tasks.{asks_over}
use Rattle.tune_front.specs.declared.status.Status.{Status}
use Rattle.tune_front.specs.declared.status.Status.TheVariants as status
use Rattle.tune_front.specs.declared.task.Task.{Task}

-- a seat took tickets that a task's asks needed, and started the run of each in order: rising runs; where a truth is told, it
-- shows their answers, and each is due at the ask with its ticket's place, the places never falling
pub record RanDue (task : Task) (truth : Option (Key → Outcome)) (before after : SeatState) : Type 0 where
  pub answered : List Answered
  pub tickets : after.tickets ≡ tickets_in answered
  pub each : All (IsAskedTicket task.problem) (tickets_in answered)
  pub started : HasStarted task.program before.told after.told (map (λ a. a.ticket.run) answered)
  pub rising : IsRising (map run_in answered)
  pub shown : IsSome truth → All (IsShown (table_of truth task.problem)) (map run_in answered)
  pub due : IsSome truth → AreDueInOrder task.problem.rules.limits (table_of truth task.problem) (asks_over truth task) (tickets_in answered)

-- the first seat has started due runs of the stated task, where that asks for one seat, and nothing else
pub record StartsDue (call : Call) : Type 0 where
  pub task : Task
  pub stated : StatesTask call.words call.files task
  pub before : SeatState
  pub after : SeatState
  pub was : slice_get call.seats 0 ≡ Some before
  pub is : slice_get call.seats' 0 ≡ Some after
  pub ran : task.problem.rules.workers ≡ 1 → RanDue task call.truth before after

-- what is promised of the starts, which is nothing but with Ok
abbrev pub StartsOf : Call → Status → Type 0
StartsOf call status.Ok = StartsDue call
StartsOf call (status.Usage place) = Unit {0}
StartsOf call (status.BadFile kind line what) = Unit {0}
StartsOf call (status.ReadFault kind) = Unit {0}
StartsOf call status.WriteFault = Unit {0}
StartsOf call (status.Aborted cell) = Unit {0}
StartsOf call (status.ChildFault seat) = Unit {0}
StartsOf call status.NoMemory = Unit {0}
StartsOf call (status.TooFewSeats asked given) = Unit {0}
