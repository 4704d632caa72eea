-- Seats as plain data, and the faults that they keep.
use Rattle.std.specs.Prelude.{◌≡◌, ◌-◌, Bool, true, List, Option, Some, None, length, slice_get, if◌then◌else◌}
use Rattle.outside.specs.Counts.{Rose}
use Rattle.outside.specs.declared.faults.Fault.{Fault}
use Rattle.outside.specs.declared.faults.Fault.TheVariants as fault
use Rattle.outside.specs.ToldStates.{SpawnerTold}
use Rattle.board_steps.specs.declared.tickets.Kind.TheVariants.{Asked}
use Rattle.board_steps.specs.declared.tickets.Ticket.{Ticket}

-- a seat
pub record SeatState : Type 0 where
  pub told : SpawnerTold  -- by its spawner
  pub tickets : List Ticket  -- that it took since it was made or cleared, oldest first
  pub failed : Bool  -- the run of the last one failed
  pub short : Bool  -- it had no memory

-- the last of a list
abbrev pub last_of : List Ticket → Option Ticket
last_of tickets = slice_get tickets (length tickets - 1)

-- the ticket whose run failed
abbrev pub fault_of : SeatState → Option Ticket
fault_of seat = if seat.failed then last_of seat.tickets else None

-- the seat keeps why a run couldn't be made: it failed, or there was no memory
abbrev pub with_fault : Fault → SeatState → SeatState
with_fault fault.Failed seat = record seat { failed = true }
with_fault fault.Memory seat = record seat { short = true }

-- the ticket was asked for, its run is the one that the spawner tells as failed, and the spawner's count rose in a call
pub record IsFault (before after : SpawnerTold) (t : Ticket) : Type 0 where
  pub asked : t.kind ≡ Asked
  pub failed : after.failed_run ≡ Some t.run
  pub rose : Rose before.faults after.faults
