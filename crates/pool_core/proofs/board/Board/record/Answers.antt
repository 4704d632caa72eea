use Rattle.std.proofs.Common.{◌∙◌, sym, subst}
use Rattle.objective.specs.Costs.{IsWithin}
use Rattle.board_steps.specs.Boards.{state_of}
use Rattle.board_steps.proofs.KeptBoards.{step-answer}
use Rattle.board_steps.specs.AgreeingBoards.{IsTold}
use Rattle.pool_core.proofs.TicketEnds.{found-some, is-some, ticket-found, live-ticket, record-live, record-marked, record-none, recorded-live, recorded-marked, recorded-none}
use Rattle.pool_core.proofs.board.Board.record.Goals as goal

pub learn-learnt-requires-clause-place : goal.learn-learnt-requires-clause-place
learn-learnt-requires-clause-place g c =
    (live-ticket c.self.inside.problem c.self.inside.ledger.live c.self.inside.ledger.next c.self.inside.cache c.args.ticket.now c.in-Some.l.now c.in-Some.ensures
    c.self.invariant.board.limits c.self.invariant.board.numbering.numbers.each c.self.invariant.board.numbering.places).has_place

pub learn-learnt-requires-clause-cutoff : goal.learn-learnt-requires-clause-cutoff
learn-learnt-requires-clause-cutoff g c =
    (live-ticket c.self.inside.problem c.self.inside.ledger.live c.self.inside.ledger.next c.self.inside.cache c.args.ticket.now c.in-Some.l.now c.in-Some.ensures
    c.self.invariant.board.limits c.self.invariant.board.numbering.numbers.each c.self.invariant.board.numbering.places).in_range

pub learn-learnt-requires-clause-within : goal.learn-learnt-requires-clause-within
learn-learnt-requires-clause-within g c = rw (ticket-found c.self.inside.ledger.live c.args.ticket.now c.in-Some.l.now c.in-Some.ensures) c.requires.within

pub end-requires : goal.end-requires
end-requires g c = is-some _ _ (found-some c.self.inside.ledger.live c.args.ticket.now c.in-Some.l.now c.in-Some.ensures)

pub invariant_of-self : goal.invariant_of-self
invariant_of-self g c =
    let i = c.self.inside in
    let b = state_of i.problem i.search.replies i.cache i.wishes.items i.aborted i.ledger in
    let l = c.in-Some.l.now in
    let found = found-some i.ledger.live c.args.ticket.now l c.in-Some.ensures in
    let same = ticket-found i.ledger.live c.args.ticket.now l c.in-Some.ensures in
    let within = subst (λ t. IsWithin c.args.answer t.run.cutoff.0) (sym same) c.requires.within in
    let told = subst (λ t. IsTold g.S.Spawner.truth t c.args.answer) (sym same) c.requires.told in
    let e = c.learn-learnt.ensures in
    record {
      rules_same = c.self.invariant.rules_same;
      kept = tt;
      board = rw c.end.ensures (step-answer g.P.Search.shown g.P.Search.plain g.S.Spawner.truth b c.learn-learnt.new.self c.args.answer l found within told e.limits e.known e.conflicts e.places c.self.invariant.board).kept;
    }

pub returns-in-None-clause-answer : goal.returns-in-None-clause-answer
returns-in-None-clause-answer g c =
    let i = c.self.inside in
    let b = state_of i.problem i.search.replies i.cache i.wishes.items i.aborted i.ledger in
    rw (← c.self.view_is) (recorded-none b c.args.ticket.now c.args.answer c.in-None.ensures)

pub returns-in-None-clause-board : goal.returns-in-None-clause-board
returns-in-None-clause-board g c =
    let i = c.self.inside in
    let b = state_of i.problem i.search.replies i.cache i.wishes.items i.aborted i.ledger in
    rw (← c.self.view_is) (record-none b c.args.ticket.now c.args.answer c.in-None.ensures)

pub returns-then-l-clause-answer : goal.returns-then-l-clause-answer
returns-then-l-clause-answer g c =
    let i = c.self.inside in
    let b = state_of i.problem i.search.replies i.cache i.wishes.items i.aborted i.ledger in
    rw (← c.self.view_is) (recorded-marked b c.args.ticket.now c.args.answer c.in-Some.l.now c.in-Some.ensures c.if-l.true)

pub returns-then-l-clause-board : goal.returns-then-l-clause-board
returns-then-l-clause-board g c =
    let i = c.self.inside in
    let b = state_of i.problem i.search.replies i.cache i.wishes.items i.aborted i.ledger in
    rw (← c.self.view_is) (record-marked b c.args.ticket.now c.args.answer c.in-Some.l.now c.in-Some.ensures c.if-l.true)

pub returns-else-l-clause-answer : goal.returns-else-l-clause-answer
returns-else-l-clause-answer g c =
    let i = c.self.inside in
    let b = state_of i.problem i.search.replies i.cache i.wishes.items i.aborted i.ledger in
    rw (c.recorded_as.ensures, c.learn-learnt.ensures.answer, ← c.self.view_is) (recorded-live b c.args.ticket.now c.args.answer c.in-Some.l.now c.self.invariant.board.limits c.in-Some.ensures c.if-l.false)

pub returns-else-l-clause-board : goal.returns-else-l-clause-board
returns-else-l-clause-board g c =
    let i = c.self.inside in
    let b = state_of i.problem i.search.replies i.cache i.wishes.items i.aborted i.ledger in
    let l = c.in-Some.l.now in
    let found = found-some i.ledger.live c.args.ticket.now l c.in-Some.ensures in
    let same = ticket-found i.ledger.live c.args.ticket.now l c.in-Some.ensures in
    let within = subst (λ t. IsWithin c.args.answer t.run.cutoff.0) (sym same) c.requires.within in
    let told = subst (λ t. IsTold g.S.Spawner.truth t c.args.answer) (sym same) c.requires.told in
    let e = c.learn-learnt.ensures in
    rw (c.end.ensures, ← c.self.view_is) ((step-answer g.P.Search.shown g.P.Search.plain g.S.Spawner.truth b c.learn-learnt.new.self c.args.answer l found within told e.limits e.known e.conflicts e.places c.self.invariant.board).plain_is
    ∙ record-live b c.args.ticket.now c.args.answer l c.in-Some.ensures c.if-l.false)
