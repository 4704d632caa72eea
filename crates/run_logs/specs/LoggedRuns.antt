-- The rows of a journal: the runs that it records, each with the number of its ticket.
use Rattle.std.specs.Prelude.{ℕ, ◌≢◌, ◌++◌, List, [], ◌∷◌, map, option_map}
use Rattle.std.specs.List.{AllPairs}
use Rattle.std.specs.Option.{unwrap_or}
use Rattle.run_cache.specs.Runs.{CellRun}
use Rattle.board_steps.specs.declared.events.Event.{Event}
use Rattle.board_steps.specs.Events.{recorded}
use Rattle.board_steps.specs.JournalRuns.{recorded_in}
use Rattle.tuning_logs.specs.RunLog.{LoggedRun}

-- a run, recorded for the ticket with this number
abbrev pub logged_as : ℕ → CellRun → LoggedRun
logged_as number run =
    record { number = number; place = run.cell.place; cutoff = run.cutoff; answer = run.answer; config = run.cell.config }

-- what an event records, of a ticket that was taken in the journal before it
abbrev pub logged_in : List Event → Event → List LoggedRun
logged_in before e = unwrap_or (option_map (λ r. map (logged_as r.number) (recorded_in before e)) (recorded e)) []

-- what the rest of a journal records, after this first part of it
abbrev pub logged_after : List Event → List Event → List LoggedRun
logged_after before [] = []
logged_after before (e ∷ later) = logged_in before e ++ logged_after (before ++ e ∷ []) later

-- what a journal records, oldest first
abbrev pub logged_runs : List Event → List LoggedRun
logged_runs journal = logged_after [] journal

-- the run of a row
abbrev pub run_in : LoggedRun → CellRun
run_in row = record { cell = record { config = row.config; place = row.place }; cutoff = row.cutoff; answer = row.answer }

-- the runs of these rows
abbrev pub runs_in : List LoggedRun → List CellRun
runs_in rows = map run_in rows

-- no two rows are of one ticket
abbrev pub HaveOwnTickets : List LoggedRun → Type 0
HaveOwnTickets rows = AllPairs (λ one other. one.number ≢ other.number) rows
