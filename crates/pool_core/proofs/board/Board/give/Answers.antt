use Rattle.std.proofs.Common.{ap, sym, ◌∙◌, arith}
use Rattle.board_steps.specs.Boards.{state_of}
use Rattle.board_steps.proofs.KeptBoards.{step-places}
use Rattle.pool_core.proofs.DecidedAsks.{decided-places}
use Rattle.pool_core.proofs.GivenBoards.{ticket-given}
use Rattle.pool_core.proofs.Offers.{always-err, ticket-parts}
use Rattle.pool_core.proofs.board.Board.give.Goals as goal

pub reserve-requires-clause-from_one : goal.reserve-requires-clause-from_one
reserve-requires-clause-from_one g c =
    let parts = ticket-parts c.args.self.now c.args.kind c.args.cell c.args.cutoff.0 c.in_ok-ticket.ticket c.in_ok-ticket.ensures.value in
    rw (c.in_ok-cell.ensures, parts.of_cell) c.requires.runnable.some

pub reserve-requires-clause-most : goal.reserve-requires-clause-most
reserve-requires-clause-most g c =
    let parts = ticket-parts c.args.self.now c.args.kind c.args.cell c.args.cutoff.0 c.in_ok-ticket.ticket c.in_ok-ticket.ensures.value in
    let place = ap (λ x. x.place) (c.in_ok-cell.ensures ∙ parts.of_cell) in
    omega (arith, place, c.requires.runnable.within, c.ticket_for.ensures.few)

pub give-requires-clause-number : goal.give-requires-clause-number
give-requires-clause-number g c =
    let kept_is = c.in_ok-kept.ensures ∙ c.in_ok-ticket.ensures.value in
    (ticket-parts c.args.self.now c.args.kind c.args.cell c.args.cutoff.0 c.in_ok-kept.kept kept_is).number ∙ sym (ap (λ s. s.next) c.self.view_is)

pub invariant_of-self-in_err-give : goal.invariant_of-self-in_err-give
invariant_of-self-in_err-give g c =
    let i = c.self.inside in
    let b = state_of i.problem i.search.replies i.cache i.wishes.items i.aborted i.ledger in
    let e = c.reserve.ensures in
    let places = step-places g.P.Search.shown g.P.Search.plain g.S.Spawner.truth b c.reserve.new.self e.limits e.known e.conflicts e.places c.self.invariant.board in
    record {
      rules_same = c.self.invariant.rules_same;
      kept = decided-places g.P.Search.shown b c.reserve.new.self i.decided e.known c.self.invariant.kept;
      board = rw c.in_err-give.ensures.err places.kept;
    }

pub returns-in_err-give-clause-err : goal.returns-in_err-give-clause-err
returns-in_err-give-clause-err g c =
    let i = c.self.inside in
    let b = state_of i.problem i.search.replies i.cache i.wishes.items i.aborted i.ledger in
    let e = c.reserve.ensures in
    let places = step-places g.P.Search.shown g.P.Search.plain g.S.Spawner.truth b c.reserve.new.self e.limits e.known e.conflicts e.places c.self.invariant.board in
    rw (c.in_err-give.ensures.err, ← c.self.view_is) (always-err _ places.plain_is)

pub invariant_of-self-2 : goal.invariant_of-self-2
invariant_of-self-2 g c =
    let i = c.self.inside in
    let b = state_of i.problem i.search.replies i.cache i.wishes.items i.aborted i.ledger in
    let e = c.reserve.ensures in
    let places = step-places g.P.Search.shown g.P.Search.plain g.S.Spawner.truth b c.reserve.new.self e.limits e.known e.conflicts e.places c.self.invariant.board in
    let copied = c.in_ok-cell.ensures ∙ sym (ap (λ x. x.cell) c.in_ok-kept.ensures) in
    let given = ticket-given g.P.Search.shown g.P.Search.plain g.S.Spawner.truth g.met.P.Search.follows c.args.self.now b c.args.kind c.args.cell c.args.cutoff.0 c.in_ok-kept.kept
    c.reserve.new.self c.in_ok-cell.cell c.self.view_is (c.in_ok-kept.ensures ∙ c.in_ok-ticket.ensures.value) copied
    c.requires.offered c.requires.running c.requires.alone c.requires.runnable places c.in_ok-reserve.ensures.place in
    record {
      rules_same = c.self.invariant.rules_same;
      kept = decided-places g.P.Search.shown b c.reserve.new.self i.decided e.known c.self.invariant.kept;
      board = rw c.in_ok-give.ensures.ok given.kept;
    }

pub returns-clause-board : goal.returns-clause-board
returns-clause-board g c =
    let i = c.self.inside in
    let b = state_of i.problem i.search.replies i.cache i.wishes.items i.aborted i.ledger in
    let e = c.reserve.ensures in
    let places = step-places g.P.Search.shown g.P.Search.plain g.S.Spawner.truth b c.reserve.new.self e.limits e.known e.conflicts e.places c.self.invariant.board in
    let copied = c.in_ok-cell.ensures ∙ sym (ap (λ x. x.cell) c.in_ok-kept.ensures) in
    let given = ticket-given g.P.Search.shown g.P.Search.plain g.S.Spawner.truth g.met.P.Search.follows c.args.self.now b c.args.kind c.args.cell c.args.cutoff.0 c.in_ok-kept.kept
    c.reserve.new.self c.in_ok-cell.cell c.self.view_is (c.in_ok-kept.ensures ∙ c.in_ok-ticket.ensures.value) copied
    c.requires.offered c.requires.running c.requires.alone c.requires.runnable places c.in_ok-reserve.ensures.place in
    rw c.in_ok-give.ensures.ok given.board
