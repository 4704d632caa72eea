use Rattle.std.proofs.Common.{◌∙◌}
use Rattle.board_steps.specs.Boards.{state_of}
use Rattle.board_steps.proofs.KeptBoards.{step-loss}
use Rattle.pool_core.proofs.TicketEnds.{found-some, is-some, some-then, lost-live, lost-none}
use Rattle.pool_core.proofs.board.Board.lost.Goals as goal

pub lose-requires : goal.lose-requires
lose-requires g c = is-some _ _ (found-some c.self.inside.ledger.live c.args.ticket.now c.in-Some.l.now c.in-Some.ensures)

pub invariant_of-self : goal.invariant_of-self
invariant_of-self g c =
    let i = c.self.inside in
    let b = state_of i.problem i.search.replies i.cache i.wishes.items i.aborted i.ledger in
    let l = c.in-Some.l.now in
    let found = found-some i.ledger.live c.args.ticket.now l c.in-Some.ensures in
    let lost = some-then _ _ l found c.lose.ensures in
    record {
      rules_same = c.self.invariant.rules_same;
      kept = c.self.invariant.kept;
      board = rw lost (step-loss g.P.Search.shown g.P.Search.plain g.S.Spawner.truth b l found c.self.invariant.board).kept;
    }

pub returns-in-None-clause-board : goal.returns-in-None-clause-board
returns-in-None-clause-board g c =
    let i = c.self.inside in
    let b = state_of i.problem i.search.replies i.cache i.wishes.items i.aborted i.ledger in
    rw (← c.self.view_is) (lost-none b c.args.ticket.now c.in-None.ensures)

pub returns-in-Some-clause-board : goal.returns-in-Some-clause-board
returns-in-Some-clause-board g c =
    let i = c.self.inside in
    let b = state_of i.problem i.search.replies i.cache i.wishes.items i.aborted i.ledger in
    let l = c.in-Some.l.now in
    let found = found-some i.ledger.live c.args.ticket.now l c.in-Some.ensures in
    let lost = some-then _ _ l found c.lose.ensures in
    rw (lost, ← c.self.view_is) ((step-loss g.P.Search.shown g.P.Search.plain g.S.Spawner.truth b l found c.self.invariant.board).plain_is ∙ lost-live b c.args.ticket.now l c.in-Some.ensures)
