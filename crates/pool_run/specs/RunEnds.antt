-- What the end of a run makes of a board and of a seat.
use Rattle.std.specs.Prelude.{◌≡◌, ◌∷◌, [], IsSomeAnd, OnOk, OnErr, Some, true, false, Result, Ok, Err, is_ok}
use Rattle.objective.specs.declared.Answer.{Answer}
use Rattle.wrapper_lines.specs.declared.runs.Program.{Program}
use Rattle.outside.specs.Changes.{has_failed}
use Rattle.outside.specs.Counts.{Rose}
use Rattle.outside.specs.declared.faults.Fault.{Fault}
use Rattle.outside.specs.ToldStates.{SpawnerTold}
use Rattle.board_steps.specs.declared.tickets.Kind.{Kind}
use Rattle.board_steps.specs.declared.tickets.Kind.TheVariants.{Asked, Ahead}
use Rattle.board_steps.specs.declared.tickets.Ticket.{Ticket}
use Rattle.board_steps.specs.Boards.{BoardState, PlainBoard, plain_board}
use Rattle.board_steps.specs.Steps.{after_lost, after_record, after_stop}
use Rattle.pool_run.specs.Seats.{SeatState, last_of, with_fault}
use Rattle.pool_run.specs.Starts.{HasStarted, MayHaveStarted}

-- a board that lost a ticket of this kind: it is stopped where the ticket was asked for
abbrev pub stopped_for : Kind → PlainBoard → PlainBoard
stopped_for Asked b = after_stop b
stopped_for Ahead b = b

-- an answer of the ticket was recorded
pub record HasAnswered (t : Ticket) (board board' : BoardState) : Type 0 where
  pub answer : Answer
  pub after : plain_board board' ≡ after_record (plain_board board) t answer

-- the ticket was given up
pub record HasGivenUp (t : Ticket) (board board' : BoardState) : Type 0 where
  pub after : plain_board board' ≡ stopped_for t.kind (after_lost (plain_board board) t)

-- a seat after a run, whose spawner tells this now: it keeps why a needed run can't be made
abbrev pub seat_after : Result (Unit {0}) Fault → SeatState → SpawnerTold → SeatState
seat_after (Ok u) seat told = record seat { told = told }
seat_after (Err f) seat told = with_fault f (record seat { told = told })

-- the run of a ticket was made or not: no other child was started, and it is a fault only where the ticket was asked for
pub record RanTicket (program : Program) (end : Result (Unit {0}) Fault) (seat seat' : SeatState) (t : Ticket) : Type 0 where
  pub after : seat' ≡ seat_after end seat seat'.told
  pub may : MayHaveStarted program seat.told seat'.told t.run
  pub asked : is_ok end ≡ false → t.kind ≡ Asked
  pub failed : has_failed end ≡ true → seat'.told.failed_run ≡ Some t.run
  pub rose : has_failed end ≡ true → Rose seat.told.faults seat'.told.faults

-- the run of a ticket that was asked for was made, and its answer is recorded; or it can't be made, and the ticket is given up
pub record RanAsked (program : Program) (end : Result (Unit {0}) Fault) (board board' : BoardState)
    (told told' : SpawnerTold) (t : Ticket) : Type 0 where
  pub answered : OnOk end (HasAnswered t board board')
  pub started : OnOk end (HasStarted program told told' (t.run ∷ []))
  pub lost : OnErr end (HasGivenUp t board board')

-- the same of a seat's last ticket, where that was asked for
abbrev pub RanLast : Program → Result (Unit {0}) Fault → BoardState → BoardState → SeatState → SeatState → Type 0
RanLast program end board board' seat seat' =
    IsSomeAnd (last_of seat.tickets) (λ t. t.kind ≡ Asked → RanAsked program end board board' seat.told seat'.told t)
