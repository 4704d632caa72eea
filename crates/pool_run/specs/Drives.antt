-- What a seat that drives a board adds to the journal and to its list of tickets, and what that tells.
use Rattle.std.specs.Prelude.{◌≡◌, ◌≤◌, ◌++◌, ◌||◌, Bool, true, false, List, [], ◌∷◌, All, filter, length, map, Option, Some, None, IsSome, IsSomeAnd, Result, Ok, Err, if◌then◌else◌}
use Rattle.std.specs.List.Sorted.{IsNonDecreasing}
use Rattle.std.specs.Option.{is_some}
use Rattle.objective.specs.Bounds.{Bounds}
use Rattle.objective.specs.Costs.{Table}
use Rattle.objective.specs.declared.Answer.{Answer}
use Rattle.objective.specs.declared.Outcome.{Outcome}
use Rattle.wrapper_lines.specs.declared.runs.Key.{Key}
use Rattle.wrapper_lines.specs.declared.runs.Program.{Program}
use Rattle.outside.specs.declared.faults.Fault.{Fault}
use Rattle.outside.specs.declared.faults.Fault.TheVariants as fault
use Rattle.outside.specs.ToldStates.{SpawnerTold}
use Rattle.uncapped.specs.Procedure.{Question}
use Rattle.uncapped.specs.Uncapped.{Run}
use Rattle.ils_face.specs.declared.asks.Ask.{Ask}
use Rattle.ils_face.specs.declared.asks.Ask.TheVariants.{Full, Versus, End}
use Rattle.ils_face.specs.declared.asks.Reply.{Reply}
use Rattle.ils_face.specs.Rules.{Rules}
use Rattle.ils_face.specs.Views.{View}
use Rattle.run_cache.specs.declared.cell.Cell.{Cell}
use Rattle.run_cache.specs.Runs.{CellRun, IsDue, IsRising}
use Rattle.board_steps.specs.AgreeingBoards.{IsShown}
use Rattle.board_steps.specs.Boards.{BoardState, PlainBoard, plain_board}
use Rattle.board_steps.specs.declared.events.Event.{Event}
use Rattle.board_steps.specs.declared.events.Event.TheVariants.{Record}
use Rattle.board_steps.specs.declared.tickets.Kind.TheVariants.{Asked}
use Rattle.board_steps.specs.declared.tickets.Ticket.{Ticket}
use Rattle.board_steps.specs.JournalRuns.{run_of, runs_of}
use Rattle.board_steps.specs.Ledgers.{take_event}
use Rattle.board_steps.specs.Numbering.{IsRunnable}
use Rattle.board_steps.specs.Problem.{Problem}
use Rattle.board_steps.specs.ProblemRuns.{key_of, table_of}
use Rattle.board_steps.specs.RepliedAsks.{quiet_by}
use Rattle.board_steps.specs.ShownEntries.{ShowsAll, ShowsAborted}
use Rattle.pool_run.specs.Seats.{SeatState, fault_of}
use Rattle.pool_run.specs.Starts.{HasStarted}
use Rattle.pool_run.specs.Turns.{is_take, is_record}
use Rattle.pool_run.specs.declared.driving.Driven.{Driven}
use Rattle.pool_run.specs.declared.driving.Driven.TheVariants as driven

-- a ticket whose run was made, with what that showed
pub record Answered : Type 0 where
  pub ticket : Ticket
  pub answer : Answer

-- the tickets of answered ones
abbrev pub tickets_in : List Answered → List Ticket
tickets_in answered = map (λ a. a.ticket) answered

-- the run of an answered ticket
abbrev pub run_in : Answered → CellRun
run_in a = run_of a.ticket a.answer

-- the event that an answer was learnt
abbrev pub record_event : Answered → Event
record_event a = Record a.ticket.number a.answer

-- the ticket was asked for; its run is of its cell, which may be run under this cutoff
pub record IsAskedTicket (problem : Problem) (t : Ticket) : Type 0 where
  pub asked : t.kind ≡ Asked
  pub key : t.run.key ≡ key_of problem t.cell
  pub runnable : IsRunnable problem.rules t.cell t.run.cutoff.0

-- since a board stood so, tickets were added to a list that were asked for; the runs of all but those that are left were
-- started, one child each, and their answers recorded
pub record HasMade (program : Program) (left : List Ticket) (board board' : PlainBoard) (told told' : SpawnerTold)
    (tickets tickets' : List Ticket) : Type 0 where
  pub answered : List Answered
  pub events : List Event
  pub added : tickets' ≡ tickets ++ (tickets_in answered ++ left)
  pub journal : board'.journal ≡ board.journal ++ events
  pub takes : filter is_take events ≡ map take_event (tickets_in answered ++ left)
  pub records : filter is_record events ≡ map record_event answered
  pub runs : runs_of board'.journal ≡ runs_of board.journal ++ map run_in answered
  pub each : All (IsAskedTicket board.problem) (tickets_in answered ++ left)
  pub started : HasStarted program told told' (map (λ a. a.ticket.run) answered)
  pub problem : board'.problem ≡ board.problem

-- the ticket's run is due, whatever it answers, at the ask whose number is the ticket's place
abbrev pub IsDueTicket : Bounds → Table → List Question → Ticket → Type 0
IsDueTicket limits T asks t = (answer : Answer) → IsDue limits T asks t.place (run_of t answer)

-- the tickets' runs are due at their places, which never fall along the list
pub record AreDueInOrder (limits : Bounds) (T : Table) (asks : List Question) (tickets : List Ticket) : Type 0 where
  pub due : All (IsDueTicket limits T asks) tickets
  pub order : IsNonDecreasing (map (λ t. t.place) tickets)

-- the ticket that was taken last and whose run wasn't recorded: none at the end, after a fault the kept one
abbrev pub IsLeft : Driven → SeatState → List Ticket → Type 0
IsLeft driven.Ended seat left = left ≡ []
IsLeft driven.Fault seat left = IsSomeAnd (fault_of seat) (λ t. left ≡ t ∷ [])
IsLeft driven.Memory seat left = length left ≤ 1

-- a seat that drove a board took these tickets, and recorded the answers of all but those that are left; where a truth is
-- told, the answers are the truth's, and the runs are due at their places
pub record HasDriven (procedure : Rules → Table → Run) (truth : Option (Key → Outcome)) (program : Program)
    (result : Driven) (board board' : BoardState) (seat seat' : SeatState) : Type 0 where
  pub answered : List Answered
  pub left : List Ticket
  pub events : List Event
  pub last : IsLeft result seat' left
  pub tickets : seat'.tickets ≡ seat.tickets ++ (tickets_in answered ++ left)
  pub journal : board'.journal ≡ board.journal ++ events
  pub takes : filter is_take events ≡ map take_event (tickets_in answered ++ left)
  pub records : filter is_record events ≡ map record_event answered
  pub each : All (IsAskedTicket board.problem) (tickets_in answered ++ left)
  pub rising : IsRising (map run_in answered)
  pub shown : IsSome truth → All (IsShown (table_of truth board.problem)) (map run_in answered)
  pub due : IsSome truth → AreDueInOrder board.problem.rules.limits (table_of truth board.problem)
      (quiet_by procedure truth board.problem).asks (tickets_in answered ++ left)
  pub started : result ≡ driven.Ended → HasStarted program seat.told seat'.told (map (λ a. a.ticket.run) answered)

-- the drive ended
abbrev pub has_ended : Driven → Bool
has_ended driven.Ended = true
has_ended driven.Fault = false
has_ended driven.Memory = false

-- nothing more is asked for
abbrev pub is_end : Ask → Bool
is_end (Full θ n) = false
is_end (Versus θ n bound) = false
is_end End = true

-- the search of a board is at its end, or a cell is set as aborted
abbrev pub is_over : (Rules → List Reply → View) → BoardState → Bool
is_over shown b = is_some b.aborted || is_end (shown b.problem.rules b.replies).ask

-- what is shown at the end, by the cell that is set as aborted, beside the procedure over the truth and the same where each
-- abort counts as unsolved
abbrev pub ShowsAtEnd : Option Cell → View → Run → Run → Type 0
ShowsAtEnd None view run whole = ShowsAll view run whole
ShowsAtEnd (Some cell) view run whole = ShowsAborted view run whole

-- how a drive ends whose turns ended so: a search that is at its end needs no memory
abbrev pub driven_by : Result (Unit {0}) Fault → Bool → Driven
driven_by (Ok u) over = driven.Ended
driven_by (Err fault.Failed) over = driven.Fault
driven_by (Err fault.Memory) over = if over then driven.Ended else driven.Memory

-- what holds where a drive begins: no ticket is live, and the board isn't stopped
pub record MayDrive (board : BoardState) : Type 0 where
  pub free : board.live ≡ []
  pub going : board.stopped ≡ false

-- what a drive came to, on the board and by its seat's tickets
pub record DroveTo (shown : Rules → List Reply → View) (program : Program) (result : Driven) (board board' : BoardState)
    (seat seat' : SeatState) : Type 0 where
  pub left : List Ticket
  pub told : SpawnerTold  -- after the last run that was answered
  pub made : HasMade program left (plain_board board) (plain_board board') seat.told told seat.tickets seat'.tickets
  pub last : IsLeft result seat' left
  pub now : result ≡ driven.Ended → told ≡ seat'.told
  pub over : has_ended result ≡ is_over shown board'
  pub stopped : has_ended result ≡ false → board'.stopped ≡ true
  pub free : board'.live ≡ []
