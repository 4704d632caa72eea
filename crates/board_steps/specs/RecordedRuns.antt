-- The runs that a board records: they are rising, what is known comes of them, and the tickets that are live tell more.
use Rattle.std.specs.Prelude.{◌≡◌, false, List, [], All, IfSome}
use Rattle.ils_face.specs.Rules.{Rules}
use Rattle.run_cache.specs.Caches.{Knowledge}
use Rattle.run_cache.specs.Knowledge.{is_settled}
use Rattle.run_cache.specs.Runs.{IsRising, IsBacked}
use Rattle.board_steps.specs.declared.events.Event.{Event}
use Rattle.board_steps.specs.declared.tickets.Kind.TheVariants.{Asked}
use Rattle.board_steps.specs.declared.tickets.Ticket.{Ticket}
use Rattle.board_steps.specs.Numbering.{tickets_of}
use Rattle.board_steps.specs.JournalRuns.{runs_of}
use Rattle.board_steps.specs.Boards.{PlainBoard}
use Rattle.board_steps.specs.Events.{taken}

-- a ticket that an event takes is asked for
abbrev pub IsAskedTake : Event → Type 0
IsAskedTake e = IfSome (taken e) (λ t. t.kind ≡ Asked)

-- the ticket's run tells more than what is known of its cell
abbrev pub IsUnsettled : Knowledge → Ticket → Type 0
IsUnsettled known t = is_settled (known t.cell.config t.cell.place) t.run.cutoff.0 ≡ false

-- the runs that a journal records are rising, what is known comes of them, the tickets' runs tell more, and a single
-- worker's are all asked for
pub record AreRecorded (rules : Rules) (known : Knowledge) (tickets : List Ticket) (journal : List Event) : Type 0 where
  pub rising : IsRising (runs_of journal)
  pub backed : IsBacked rules.limits (runs_of journal) known
  pub unsettled : All (IsUnsettled known) tickets
  pub asked : rules.workers ≡ 1 → All IsAskedTake journal

-- the runs that a board records, and its live tickets; a single worker has no wishes
pub record AreRising (b : PlainBoard) : Type 0 where
  pub runs : AreRecorded b.problem.rules b.known (tickets_of b.live) b.journal
  pub wishes : b.problem.rules.workers ≡ 1 → b.wishes ≡ []
