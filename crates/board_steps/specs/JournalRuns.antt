-- The runs that a journal records, and the events that took the live tickets.
use Rattle.std.specs.Prelude.{ℕ, ◌≡◌, ◌==◌, ◌++◌, Bool, false, List, [], ◌∷◌, All, filter, option_map}
use Rattle.std.specs.List.{flat_map}
use Rattle.std.specs.Option.{unwrap_or}
use Rattle.objective.specs.declared.Answer.{Answer}
use Rattle.run_cache.specs.Runs.{CellRun}
use Rattle.board_steps.specs.declared.events.Event.{Event}
use Rattle.board_steps.specs.declared.tickets.Ticket.{Ticket}
use Rattle.board_steps.specs.Boards.{PlainBoard}
use Rattle.board_steps.specs.Events.{taken, recorded, listed}
use Rattle.board_steps.specs.Ledgers.{take_event}
use Rattle.board_steps.specs.Numbering.{tickets_of}

-- the event took the ticket with this number
abbrev pub takes : ℕ → Event → Bool
takes number e = unwrap_or (option_map (λ t. t.number == number) (taken e)) false

-- the run of an event that took a ticket, with this answer
abbrev pub run_taken : Answer → Event → List CellRun
run_taken answer e = listed (option_map (λ t. record { cell = t.cell; cutoff = t.cutoff; answer = answer }) (taken e))

-- the run that an event records, of a ticket that was taken in the journal before it
abbrev pub recorded_in : List Event → Event → List CellRun
recorded_in before e = unwrap_or (option_map (λ r. flat_map (run_taken r.answer) (filter (takes r.number) before)) (recorded e)) []

-- the runs that the rest of a journal records, after this first part of it
abbrev pub runs_after : List Event → List Event → List CellRun
runs_after before [] = []
runs_after before (e ∷ later) = recorded_in before e ++ runs_after (before ++ e ∷ []) later

-- the runs that a journal records, oldest first
abbrev pub runs_of : List Event → List CellRun
runs_of journal = runs_after [] journal

-- a ticket's run, with this answer
abbrev pub run_of : Ticket → Answer → CellRun
run_of t answer = record { cell = t.cell; cutoff = t.run.cutoff.0; answer = answer }

-- one event of the journal took the ticket with this number, and this one
abbrev pub IsTakenIn : List Event → Ticket → Type 0
IsTakenIn journal t = filter (takes t.number) journal ≡ take_event t ∷ []

-- each live ticket was taken
pub record AreTaken (b : PlainBoard) : Type 0 where
  pub each : All (IsTakenIn b.journal) (tickets_of b.live)
