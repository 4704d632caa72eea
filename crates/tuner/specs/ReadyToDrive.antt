-- A board and a seat with which a task is driven on.
use Rattle.std.specs.Prelude.{ℕ, ◌≡◌, ◌<◌, ◌≤◌, [], false, Option, Some, slice_get}
use Rattle.objective.specs.Costs.{Table}
use Rattle.objective.specs.declared.Outcome.{Outcome}
use Rattle.wrapper_lines.specs.declared.runs.Key.{Key}
use Rattle.uncapped.specs.Uncapped.{Run}
use Rattle.ils_face.specs.Rules.{Rules}
use Rattle.board_steps.specs.Boards.{BoardState}
use Rattle.board_steps.specs.declared.tickets.Ticket.{Ticket}
use Rattle.pool_run.specs.Seats.{SeatState, IsFault, fault_of}
use Rattle.tuner.specs.Calls.{Call}
use Rattle.tuner.specs.Conducted.{Runs}
use Rattle.tuner.specs.Tasks.{IsProcedureOf}
use Rattle.tune_front.specs.declared.task.Task.{Task}

-- a board of this task: its problem is the task's, and its search's procedure is that of the task's approach
pub record IsBoardOf (task : Task) (plain : Rules → Table → Run) (b : BoardState) : Type 0 where
  pub problem : b.problem ≡ task.problem
  pub procedure : IsProcedureOf task.approach plain

-- a board that one seat may drive: it has no live ticket and isn't stopped
pub record IsFree (b : BoardState) : Type 0 where
  pub free : b.live ≡ []
  pub going : b.stopped ≡ false

-- a call has a seat with this number, which was so before it and is so after it
pub record HasSeat (call : Call) (number : ℕ) (before after : SeatState) : Type 0 where
  pub was : slice_get call.seats number ≡ Some before
  pub is : slice_get call.seats' number ≡ Some after

-- one of the seats that a call's task asks for keeps this ticket, whose run failed
pub record KeepsFault (call : Call) (task : Task) (number : ℕ) (t : Ticket) : Type 0 where
  pub one : number < task.problem.rules.workers
  pub before : SeatState
  pub after : SeatState
  pub seat : HasSeat call number before after
  pub kept : fault_of after ≡ Some t
  pub fault : IsFault before.told after.told t

-- a seat that may drive a task's board: its count didn't fall since it was so before the call, and where the task asks for one
-- seat its spawner tells the same as then
pub record IsReady (task : Task) (before seat : SeatState) : Type 0 where
  pub counts : before.told.faults ≤ seat.told.faults
  pub same : task.problem.rules.workers ≡ 1 → seat.told ≡ before.told

-- a call runs this task; its first seat, which tells this truth, is ready to drive now, and stands so after the call
pub record DrivesOn (call : Call) (task : Task) (truth : Option (Key → Outcome)) (seat seat' : SeatState) : Type 0 where
  pub runs : Runs call task truth
  pub before : SeatState
  pub ready : IsReady task before seat
  pub first : HasSeat call 0 before seat'
