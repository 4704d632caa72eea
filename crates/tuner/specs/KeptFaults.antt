-- The ticket that a seat keeps where its run failed, and which one of several seats is reported.
use Rattle.std.specs.Prelude.{ℕ, ◌≡◌, ◌==◌, ◌&&◌, Bool, false, List, All, take, slice_get, Option, Some, None, IsSome, IsSomeAnd}
use Rattle.std.specs.List.{Contains}
use Rattle.objective.specs.declared.Outcome.{Outcome}
use Rattle.wrapper_lines.specs.declared.runs.Key.{Key}
use Rattle.ils_face.specs.declared.asks.Reply.{Reply}
use Rattle.ils_face.specs.Rules.{Rules}
use Rattle.ils_face.specs.Views.{View}
use Rattle.board_steps.specs.Boards.{BoardState}
use Rattle.board_steps.specs.declared.events.Event.{Event}
use Rattle.board_steps.specs.declared.events.Event.TheVariants.{Take}
use Rattle.board_steps.specs.Ledgers.{take_event}
use Rattle.board_steps.specs.Problem.{Problem}
use Rattle.board_steps.specs.ProblemRuns.{table_of}
use Rattle.board_steps.specs.Tickets.{same_cell, same_kind}
use Rattle.board_steps.specs.declared.tickets.Ticket.{Ticket}
use Rattle.pool_run.specs.Drives.{IsAskedTicket, IsDueTicket, is_over}
use Rattle.pool_run.specs.Seats.{SeatState, IsFault, fault_of}
use Rattle.tuner.specs.AnyAnswers.{EndsAs}
use Rattle.tuner.specs.Tasks.{asks_over}
use Rattle.tune_front.specs.declared.status.Status.{Status}
use Rattle.tune_front.specs.declared.status.Status.TheVariants as status
use Rattle.tune_front.specs.declared.task.Task.{Task}

-- among these seats the one with this number keeps this ticket of the problem, which was asked for and whose run it tells as
-- the one that failed
pub record IsKeptBy (problem : Problem) (seats : List SeatState) (seat : ℕ) (t : Ticket) : Type 0 where
  pub after : SeatState
  pub is : slice_get seats seat ≡ Some after
  pub kept : fault_of after ≡ Some t
  pub asked : IsAskedTicket problem t
  pub failed : after.told.failed_run ≡ Some t.run

-- a seat keeps this ticket of the task, which was asked for: its run is the one that failed, and the spawner's count rose;
-- where a truth is told, it is due at the ask whose number is the ticket's place
pub record HasFault (task : Task) (truth : Option (Key → Outcome)) (before after : SeatState) (t : Ticket) : Type 0 where
  pub kept : fault_of after ≡ Some t
  pub fault : IsFault before.told after.told t
  pub asked : IsAskedTicket task.problem t
  pub due : IsSome truth → IsDueTicket task.problem.rules.limits (table_of truth task.problem) (asks_over truth task) t

-- ---- which one is reported

-- the event is that this ticket was taken
abbrev pub takes : Ticket → Event → Bool
takes t (Take kind number cell cutoff place) = (number == t.number)
    && (place == t.place)
    && same_kind kind t.kind
    && same_cell cell t.cell
    && (cutoff.0 == t.run.cutoff.0)
takes t e = false

-- the event is that this ticket of the problem was taken, which was asked for
pub record IsTakeOf (problem : Problem) (t : Ticket) (event : Event) : Type 0 where
  pub event_is : event ≡ take_event t
  pub asked : IsAskedTicket problem t

-- the ticket was asked for, and the journal has that it was taken
pub record IsTakenIn (problem : Problem) (journal : List Event) (t : Ticket) : Type 0 where
  pub taken : Contains journal (take_event t)
  pub asked : IsAskedTicket problem t

-- the seat keeps a ticket whose run failed, which the board gave for a run that was needed
abbrev pub KeepsTaken : BoardState → SeatState → Type 0
KeepsTaken b seat = IsSomeAnd (fault_of seat) (IsTakenIn b.problem b.journal)

-- the number of the first element of which this holds; none where it holds of none
abbrev pub IsFirst : {X : Type 0} → (X → Type 0) → List X → Option ℕ → Type 0
IsFirst P xs None = All (λ x. ¬ P x) xs
IsFirst P xs (Some k) = IsSomeAnd (slice_get xs k) P × All (λ x. ¬ P x) (take k xs)

-- where a board is one of this task and isn't at its end, the first seat that keeps one of its faults is reported
abbrev pub ReportsFault : (Rules → List Reply → View) → Task → BoardState → List SeatState → Status → Type 0
ReportsFault shown task b seats result = b.problem ≡ task.problem → is_over shown b ≡ false
    → (k : ℕ) → IsFirst (KeepsTaken b) seats (Some k) → EndsAs (status.ChildFault k) result
