-- What a seat does with the board between two runs.
use Rattle.std.specs.Prelude.{◌≡◌, ◌++◌, Bool, true, false, not, List, [], ◌∷◌, filter}
use Rattle.std.specs.Option.{is_some}
use Rattle.ils_face.specs.declared.asks.Reply.{Reply}
use Rattle.ils_face.specs.Rules.{Rules}
use Rattle.ils_face.specs.Views.{View}
use Rattle.capping.specs.declared.verdicts.Verdict.TheVariants as verdict
use Rattle.board_steps.specs.Boards.{BoardState, PlainBoard, plain_board}
use Rattle.board_steps.specs.declared.answers.BoardVerdict.{BoardVerdict}
use Rattle.board_steps.specs.declared.answers.BoardVerdict.TheVariants as board_verdict
use Rattle.board_steps.specs.declared.answers.Taken.TheVariants as taken
use Rattle.board_steps.specs.declared.events.Event.{Event}
use Rattle.board_steps.specs.declared.tickets.Ticket.{Ticket}
use Rattle.board_steps.specs.Events
use Rattle.board_steps.specs.Numbering.{tickets_of}
use Rattle.board_steps.specs.BoardVerdicts.{board_verdict_of}
use Rattle.board_steps.specs.Steps.{taken_on, with_ticket}
use Rattle.pool_run.specs.Seats.{SeatState}
use Rattle.pool_run.specs.declared.turns.Next.{Next}
use Rattle.pool_run.specs.declared.turns.Next.TheVariants as next

-- the event took a ticket
abbrev pub is_take : Event → Bool
is_take e = is_some (Events.taken e)

-- the event recorded an answer
abbrev pub is_record : Event → Bool
is_record e = is_some (Events.recorded e)

-- the events that came neither took a ticket nor recorded an answer, and the problem is the same
pub record AddsNoRun (before after : PlainBoard) : Type 0 where
  pub events : List Event
  pub journal : after.journal ≡ before.journal ++ events
  pub takes : filter is_take events ≡ []
  pub records : filter is_record events ≡ []
  pub problem : after.problem ≡ before.problem

-- besides, the same tickets are live
pub record KeepsTickets (before after : PlainBoard) : Type 0 where
  pub added : AddsNoRun before after
  pub live : tickets_of after.live ≡ tickets_of before.live

-- besides, it is stopped where it was before
pub record KeepsGoing (before after : PlainBoard) : Type 0 where
  pub keeps : KeepsTickets before after
  pub going : after.stopped ≡ before.stopped

-- a run of the present ask is needed
abbrev pub needs_run : BoardVerdict → Bool
needs_run (board_verdict.Open (verdict.Need place cutoff)) = true
needs_run p = false

-- no run is needed any more
abbrev pub is_done : BoardVerdict → Bool
is_done board_verdict.Stopped = true
is_done board_verdict.Aborted = true
is_done (board_verdict.Open verdict.Ended) = true
is_done p = false

-- a seat took a ticket
pub record TookOne (seat seat' : SeatState) : Type 0 where
  pub ticket : Ticket
  pub list : seat' ≡ record seat { tickets = seat.tickets ++ ticket ∷ [] }

module _ (shown : Rules → List Reply → View) where
  -- a board advanced as far as it goes: a run is needed then, or none any more
  pub record AdvancedTo (needed : Bool) (board board' : PlainBoard) : Type 0 where
    pub keeps : KeepsGoing board board'
    pub needs : needs_run (board_verdict_of shown board') ≡ needed
    pub done : is_done (board_verdict_of shown board') ≡ not needed

  -- a seat took a ticket, which the board gave after steps that keep the tickets
  pub record TookTicket (board board' : PlainBoard) (seat seat' : SeatState) : Type 0 where
    pub one : TookOne seat seat'
    pub between : PlainBoard
    pub keeps : KeepsTickets board between
    pub given : taken_on shown between ≡ taken.Ticket one.ticket
    pub after : board' ≡ with_ticket between one.ticket

  -- the needed run is being made, and there is none to make ahead
  pub record StayedIdle (board board' : PlainBoard) (seat seat' : SeatState) : Type 0 where
    pub keeps : KeepsTickets board board'
    pub busy : tickets_of board.live ≡ [] → ⊥
    pub none : taken_on shown board' ≡ taken.Idle
    pub same : seat' ≡ seat

  -- no run is needed any more
  pub record CameToEnd (board board' : PlainBoard) (seat seat' : SeatState) : Type 0 where
    pub keeps : KeepsGoing board board'
    pub done : is_done (board_verdict_of shown board') ≡ true
    pub same : seat' ≡ seat

  -- there was no memory, and the board was stopped
  pub record RanShort (board board' : PlainBoard) (seat seat' : SeatState) : Type 0 where
    pub keeps : KeepsTickets board board'
    pub stopped : board'.stopped ≡ true
    pub noted : seat' ≡ record seat { short = true }

  -- what a turn made of a board and of a seat
  abbrev pub HasTurned : Next → BoardState → BoardState → SeatState → SeatState → Type 0
  HasTurned next.Run board board' seat seat' = TookTicket (plain_board board) (plain_board board') seat seat'
  HasTurned next.Idle board board' seat seat' = StayedIdle (plain_board board) (plain_board board') seat seat'
  HasTurned next.Over board board' seat seat' = CameToEnd (plain_board board) (plain_board board') seat seat'
  HasTurned next.Short board board' seat seat' = RanShort (plain_board board) (plain_board board') seat seat'
