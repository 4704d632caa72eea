-- Tickets: which are the same, and those that are live.
use Rattle.std.specs.Prelude.{ℕ, ◌==◌, ◌&&◌, not, Bool, true, false, List, [], ◌∷◌, ◌++◌, Option, Some, None, bytes_eq, if◌then◌else◌}
use Rattle.std.specs.Cmp.Lexicographic.{pointwise}
use Rattle.std.specs.List.{find, list_any, flat_map, remove, position_or_len}
use Rattle.wrapper_lines.specs.declared.runs.Setting.{Setting}
use Rattle.wrapper_lines.specs.declared.runs.Key.{Key}
use Rattle.run_cache.specs.declared.cell.Cell.{Cell}
use Rattle.run_cache.specs.Caches.{is_at}
use Rattle.board_steps.specs.declared.events.Event.{Event}
use Rattle.board_steps.specs.declared.events.Event.TheVariants.{Mark}
use Rattle.board_steps.specs.declared.tickets.Kind.{Kind}
use Rattle.board_steps.specs.declared.tickets.Kind.TheVariants.{Asked, Ahead}
use Rattle.board_steps.specs.declared.tickets.Ticket.{Ticket}
use Rattle.board_steps.specs.declared.tickets.LiveTicket.{LiveTicket}
use Rattle.board_steps.specs.declared.answers.Standing.{Standing}
use Rattle.board_steps.specs.declared.answers.Standing.TheVariants.{Live, Marked, Stranger}

-- the settings are the same
abbrev pub same_setting : Setting → Setting → Bool
same_setting one other = bytes_eq one.name other.name && bytes_eq one.value other.value

-- the keys are the same
abbrev pub same_key : Key → Key → Bool
same_key one other = bytes_eq one.instance other.instance
    && (bytes_eq one.specifics other.specifics && ((one.seed == other.seed) && pointwise same_setting one.settings other.settings))

-- the cells are the same
abbrev pub same_cell : Cell → Cell → Bool
same_cell one other = is_at one other.config other.place

-- the run is made ahead
abbrev pub is_ahead : Kind → Bool
is_ahead Asked = false
is_ahead Ahead = true

-- the runs are made for the same reason
abbrev pub same_kind : Kind → Kind → Bool
same_kind Asked Asked = true
same_kind Ahead Ahead = true
same_kind Asked Ahead = false
same_kind Ahead Asked = false

-- the tickets are the same
unfoldable pub same_ticket : Ticket → Ticket → Bool
same_ticket one other = (one.number == other.number)
    && (one.place == other.place)
    && same_kind one.kind other.kind
    && same_cell one.cell other.cell
    && (one.run.cutoff.0 == other.run.cutoff.0)
    && same_key one.run.key other.run.key

-- the live ticket has this number
abbrev pub has_number : ℕ → LiveTicket → Bool
has_number number l = l.ticket.number == number

-- the index of the live ticket with a number; the list's length where there is none
abbrev pub position_of : List LiveTicket → ℕ → ℕ
position_of live number = position_or_len (has_number number) live

-- the live ticket with a number
abbrev pub live_at : List LiveTicket → ℕ → Option LiveTicket
live_at live number = find (has_number number) live

-- the live tickets without the one with a number
unfoldable pub without : List LiveTicket → ℕ → List LiveTicket
without live number = remove live (position_of live number)

-- the live ticket, where it is of this ticket
abbrev pub if_same : Ticket → Option LiveTicket → Option LiveTicket
if_same t None = None
if_same t (Some l) = if same_ticket l.ticket t then Some l else None

-- the live ticket that a ticket is of
unfoldable pub found_in : List LiveTicket → Ticket → Option LiveTicket
found_in live t = if_same t (live_at live t.number)

-- what a live ticket that was found says of its ticket
abbrev pub standing_of : Option LiveTicket → Standing
standing_of None = Stranger
standing_of (Some l) = if l.marked then Marked else Live

-- the live ticket, marked
abbrev pub marked : LiveTicket → LiveTicket
marked l = record l { marked = true }

-- the live ticket, marked where it is to be
abbrev pub marked_if : (LiveTicket → Bool) → LiveTicket → LiveTicket
marked_if is_unwanted l = if is_unwanted l then marked l else l

-- the event that a live ticket is marked, where it is to be and isn't yet
abbrev pub mark_event : (LiveTicket → Bool) → LiveTicket → List Event
mark_event is_unwanted l = if is_unwanted l && not l.marked then Mark l.ticket.number ∷ [] else []

-- the events that live tickets are marked
abbrev pub mark_events : (LiveTicket → Bool) → List LiveTicket → List Event
mark_events is_unwanted live = flat_map (mark_event is_unwanted) live

-- a live ticket is of this cell
unfoldable pub has_ticket : List LiveTicket → Cell → Bool
has_ticket live cell = list_any (λ l. same_cell cell l.ticket.cell) live

-- a cell is among these
unfoldable pub has_cell : List Cell → Cell → Bool
has_cell cells cell = list_any (same_cell cell) cells

-- these cells and one more, each once
abbrev pub with_cell : List Cell → Cell → List Cell
with_cell cells cell = if has_cell cells cell then cells else cells ++ cell ∷ []
