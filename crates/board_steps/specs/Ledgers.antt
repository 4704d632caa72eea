-- The ledger of a board: its live tickets and its journal, with the room for what ends them.
use Rattle.std.specs.Prelude.{ℕ, suc, ◌+◌, ◌≤◌, ◌++◌, Bool, true, false, List, [], ◌∷◌, length, map, if◌then◌else◌}
use Rattle.std.specs.List.{sum_by}
use Rattle.run_cache.specs.declared.cell.Cell.{Cell}
use Rattle.board_steps.specs.declared.events.Event.{Event}
use Rattle.board_steps.specs.declared.events.Event.TheVariants.{Advance, Take, Lost, Stop, Resume}
use Rattle.board_steps.specs.declared.tickets.LiveTicket.{LiveTicket}
use Rattle.board_steps.specs.declared.tickets.Ticket.{Ticket}
use Rattle.board_steps.specs.Tickets.{is_ahead, without, marked, marked_if, mark_events, with_cell}

-- what a ledger holds
pub record LedgerState : Type 0 where
  pub live : List LiveTicket
  pub lost_ahead : List Cell  -- each once
  pub next : ℕ
  pub stopped : Bool
  pub journal : List Event
  pub spare : ℕ  -- the events that the journal has room for, beside those that may still come of the tickets

-- how many events may still come of a live ticket: a mark and an end
abbrev pub events_of : LiveTicket → ℕ
events_of l = if l.marked then 1 else 2

-- the event of a stop that may still come
abbrev pub event_to_stop : Bool → ℕ
event_to_stop true = 0
event_to_stop false = 1

-- the events for which the journal keeps room: those of the live tickets, and a stop
unfoldable pub events_kept : List LiveTicket → Bool → ℕ
events_kept live stopped = sum_by events_of live + event_to_stop stopped

-- the journal has the room that is kept, and so many more cells whose run ahead is lost find room
pub record HasRoom (journal_room more_cells : ℕ) (live : List LiveTicket) (next : ℕ) (stopped : Bool) (journal : List Event) : Type 0 where
  pub events : length journal + events_kept live stopped ≤ journal_room
  pub cells : length live ≤ more_cells
  pub numbers : next ≤ length journal + 1  -- each ticket has an event

-- the event that a ticket was taken
abbrev pub take_event : Ticket → Event
take_event t = Take t.kind t.number t.cell t.run.cutoff t.place

-- a ticket that isn't marked
abbrev pub unmarked : Ticket → LiveTicket
unmarked t = record { ticket = t; marked = false }

-- a run ahead that is lost isn't made ahead again
abbrev pub lost_ahead_after : List Cell → Ticket → List Cell
lost_ahead_after lost_ahead t = if is_ahead t.kind then with_cell lost_ahead t.cell else lost_ahead

-- a ledger without tickets
abbrev pub opening_ledger : ℕ → LedgerState
opening_ledger spare = record { live = []; lost_ahead = []; next = 1; stopped = false; journal = []; spare = spare }

-- What each step makes of a ledger, with the events that it has room for then.

-- the board advanced
abbrev pub with_advance : LedgerState → ℕ → LedgerState
with_advance l spare = record l { journal = l.journal ++ Advance ∷ []; spare = spare }

-- a ticket is given
abbrev pub with_ticket : LedgerState → Ticket → ℕ → LedgerState
with_ticket l t spare = record l { live = l.live ++ unmarked t ∷ []; next = suc l.next; journal = l.journal ++ take_event t ∷ []; spare = spare }

-- the live ticket with a number is ended by an event
abbrev pub with_end : LedgerState → ℕ → Event → ℕ → LedgerState
with_end l number e spare = record l { live = without l.live number; journal = l.journal ++ e ∷ []; spare = spare }

-- the live ticket with a number is lost: this one
abbrev pub with_loss : LedgerState → ℕ → Ticket → ℕ → LedgerState
with_loss l number t spare = record l {
  live = without l.live number;
  lost_ahead = lost_ahead_after l.lost_ahead t;
  journal = l.journal ++ Lost number ∷ [];
  spare = spare;
}

-- live tickets are marked where they aren't wanted
abbrev pub with_marks : LedgerState → (LiveTicket → Bool) → ℕ → LedgerState
with_marks l is_unwanted spare = record l {
  live = map (marked_if is_unwanted) l.live;
  journal = l.journal ++ mark_events is_unwanted l.live;
  spare = spare;
}

-- it is stopped, and every live ticket is marked
abbrev pub with_stop : LedgerState → ℕ → LedgerState
with_stop l spare = record l { live = map marked l.live; stopped = true; journal = l.journal ++ Stop ∷ []; spare = spare }

-- it goes on without live tickets
abbrev pub with_resume : LedgerState → ℕ → LedgerState
with_resume l spare = record l { live = []; stopped = false; journal = l.journal ++ Resume ∷ []; spare = spare }
