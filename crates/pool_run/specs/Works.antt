-- What a seat does turn by turn, and what it started.
use Rattle.std.specs.Prelude.{◌≡◌, ◌≤◌, ◌++◌, ◌↔◌, Bool, true, List, filter, map, Result, Err, IfSome, IsSome, IsTrue}
use Rattle.wrapper_lines.specs.declared.runs.Program.{Program}
use Rattle.wrapper_lines.specs.declared.runs.Run.{Run}
use Rattle.outside.specs.Changes.{has_failed}
use Rattle.outside.specs.declared.faults.Fault.{Fault}
use Rattle.outside.specs.declared.faults.Fault.TheVariants.{Memory}
use Rattle.board_steps.specs.declared.tickets.Ticket.{Ticket}
use Rattle.pool_run.specs.Seats.{SeatState, IsFault, fault_of}
use Rattle.pool_run.specs.Starts.{HasStarted}
use Rattle.pool_run.specs.Turns.{TookOne}
use Rattle.pool_run.specs.declared.turns.Next.{Next}
use Rattle.pool_run.specs.declared.turns.Next.TheVariants as next

-- a ticket, and whether its child was started
pub record Worked : Type 0 where
  pub ticket : Ticket
  pub started : Bool

-- the tickets
abbrev pub tickets_of : List Worked → List Ticket
tickets_of worked = map (λ w. w.ticket) worked

-- the runs whose children were started
abbrev pub runs_started : List Worked → List Run
runs_started worked = map (λ w. w.ticket.run) (filter (λ w. w.started) worked)

-- a seat took these tickets, and started the children of some of them, one each, in this order
pub record HasWorked (program : Program) (seat seat' : SeatState) : Type 0 where
  pub worked : List Worked
  pub tickets : seat'.tickets ≡ seat.tickets ++ tickets_of worked
  pub started : HasStarted program seat.told seat'.told (runs_started worked)

-- what a turn made of a seat
abbrev pub SeatTurned : Next → SeatState → SeatState → Type 0
SeatTurned next.Run seat seat' = TookOne seat seat'
SeatTurned next.Idle seat seat' = seat' ≡ seat
SeatTurned next.Over seat seat' = seat' ≡ seat
SeatTurned next.Short seat seat' = seat' ≡ record seat { short = true }

-- what a seat came to that took turns and made their runs until this end
pub record WorkedTo (program : Program) (end : Result (Unit {0}) Fault) (seat seat' : SeatState) : Type 0 where
  pub idle : IsTrue seat'.told.idle
  pub counts : seat.told.faults ≤ seat'.told.faults
  pub worked : HasWorked program seat seat'
  pub fault : IfSome (fault_of seat') (IsFault seat.told seat'.told)
  pub kept : has_failed end ≡ true ↔ IsSome (fault_of seat')
  pub short : end ≡ Err Memory → seat'.short ≡ true
