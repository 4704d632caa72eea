-- Seats that work beside each other, and what they come to.
use Rattle.std.specs.Prelude.{ℕ, ◌≡◌, ◌≤◌, ◌<◌, List, All, length, Option, Some, IfSome, IsTrue, slice_get}
use Rattle.std.specs.List.{AllZip}
use Rattle.objective.specs.declared.Outcome.{Outcome}
use Rattle.wrapper_lines.specs.declared.runs.Key.{Key}
use Rattle.pool_run.specs.Seats.{SeatState, IsFault, fault_of}
use Rattle.tuner.specs.Calls.{Call}
use Rattle.tuner.specs.Conducted.{Runs}
use Rattle.tune_front.specs.declared.task.Task.{Task}

-- no seat has a child
abbrev pub AreIdle : List SeatState → Type 0
AreIdle seats = All (λ seat. IsTrue seat.told.idle) seats

-- the seats that a task asks for, which are several: as many as it says, and none has a child
pub record AreSeatsOf (task : Task) (seats : List SeatState) : Type 0 where
  pub several : 1 < task.problem.rules.workers
  pub all : length seats ≡ task.problem.rules.workers
  pub idle : AreIdle seats

-- since a seat was so, it worked on a board: it has no child, its count didn't fall, and a fault that it keeps came since then
pub record HasWorkedOn (seat seat' : SeatState) : Type 0 where
  pub idle : IsTrue seat'.told.idle
  pub counts : seat.told.faults ≤ seat'.told.faults
  pub fault : IfSome (fault_of seat') (IsFault seat.told seat'.told)

-- a call has these seats as its first ones: so they were before it, and so they are after it
pub record HasSeats (call : Call) (before after : List SeatState) : Type 0 where
  pub was : (k : ℕ) (s : SeatState) → slice_get before k ≡ Some s → slice_get call.seats k ≡ Some s
  pub is : (k : ℕ) (s : SeatState) → slice_get after k ≡ Some s → slice_get call.seats' k ≡ Some s

-- a call runs this task on its first seats, which tell this truth: so they were before it, and so they are after it
pub record RunsOn (call : Call) (task : Task) (truth : Option (Key → Outcome)) (before after : List SeatState) : Type 0 where
  pub runs : Runs call task truth
  pub has : HasSeats call before after

-- such a call whose seats have worked on a board since it began, and stand so now
pub record RunsWorked (call : Call) (task : Task) (truth : Option (Key → Outcome)) (seats after : List SeatState) : Type 0 where
  pub before : List SeatState
  pub on : RunsOn call task truth before after
  pub worked : AllZip HasWorkedOn before seats
