use Rattle.std.proofs.Common.{sym, ◌∙◌}
use Rattle.std.proofs.lemmas.Bool.{false≢true}
use Rattle.tuner.proofs.TakenTickets.{of_ahead, of_another, runnable_by, taken_exactly}
use Rattle.tuner.proofs.kept_faults.is_take_of.Goals as goal

pub returns-then-not-is_taking : goal.returns-then-not-is_taking
returns-then-not-is_taking c = (
  λ e. absurd (false≢true e),
  λ h. absurd (of_another c.args.problem.now c.args.event.now c.args.ticket.now (sym c.is_taking.ensures ∙ c.if-not-is_taking.true) h),
)

pub is_key_of-requires-clause-belongs : goal.is_key_of-requires-clause-belongs
is_key_of-requires-clause-belongs c =
    (runnable_by c.args.problem.now c.args.event.now c.args.ticket.now (sym c.is_taking.ensures ∙ c.if-not-is_taking.false) c.requires).config.belongs

pub is_key_of-requires-clause-first : goal.is_key_of-requires-clause-first
is_key_of-requires-clause-first c =
    (runnable_by c.args.problem.now c.args.event.now c.args.ticket.now (sym c.is_taking.ensures ∙ c.if-not-is_taking.false) c.requires).some

pub is_key_of-requires-clause-last : goal.is_key_of-requires-clause-last
is_key_of-requires-clause-last c =
    (runnable_by c.args.problem.now c.args.event.now c.args.ticket.now (sym c.is_taking.ensures ∙ c.if-not-is_taking.false) c.requires).within

pub returns-in-Asked : goal.returns-in-Asked
returns-in-Asked c =
    taken_exactly c.args.problem.now c.args.event.now c.args.ticket.now (sym c.is_taking.ensures ∙ c.if-not-is_taking.false) c.in-Asked.is c.requires
    c.is_key_of.result c.is_key_of.ensures

pub returns-in-Ahead : goal.returns-in-Ahead
returns-in-Ahead c = (λ e. absurd (false≢true e), λ h. absurd (of_ahead c.args.problem.now c.args.event.now c.args.ticket.now c.in-Ahead.is h))
