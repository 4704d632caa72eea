use Rattle.std.proofs.Common.{◌∙◌}
use Rattle.board_steps.specs.Boards.{state_of}
use Rattle.board_steps.proofs.KeptBoards.{step-kill}
use Rattle.pool_core.proofs.TicketEnds.{found-some, is-some, killed-marked, killed-live, killed-none}
use Rattle.pool_core.proofs.board.Board.killed.Goals as goal

pub end-requires : goal.end-requires
end-requires g c = is-some _ _ (found-some c.self.inside.ledger.live c.args.ticket.now c.in-Some.l.now c.in-Some.ensures)

pub invariant_of-self : goal.invariant_of-self
invariant_of-self g c =
    let i = c.self.inside in
    let b = state_of i.problem i.search.replies i.cache i.wishes.items i.aborted i.ledger in
    let found = found-some i.ledger.live c.args.ticket.now c.in-Some.l.now c.in-Some.ensures in
    record {
      rules_same = c.self.invariant.rules_same;
      kept = c.self.invariant.kept;
      board = rw c.end.ensures (step-kill g.P.Search.shown g.P.Search.plain g.S.Spawner.truth b c.in-Some.l.now found c.self.invariant.board).kept;
    }

pub returns-in-None-clause-board : goal.returns-in-None-clause-board
returns-in-None-clause-board g c =
    let i = c.self.inside in
    let b = state_of i.problem i.search.replies i.cache i.wishes.items i.aborted i.ledger in
    rw (← c.self.view_is) (killed-none b c.args.ticket.now c.in-None.ensures)

pub returns-then-not-l-clause-board : goal.returns-then-not-l-clause-board
returns-then-not-l-clause-board g c =
    let i = c.self.inside in
    let b = state_of i.problem i.search.replies i.cache i.wishes.items i.aborted i.ledger in
    rw (← c.self.view_is) (killed-live b c.args.ticket.now c.in-Some.l.now c.in-Some.ensures c.if-not-l.true)

pub returns-else-not-l-clause-board : goal.returns-else-not-l-clause-board
returns-else-not-l-clause-board g c =
    let i = c.self.inside in
    let b = state_of i.problem i.search.replies i.cache i.wishes.items i.aborted i.ledger in
    let l = c.in-Some.l.now in
    let found = found-some i.ledger.live c.args.ticket.now l c.in-Some.ensures in
    rw (c.end.ensures, ← c.self.view_is) ((step-kill g.P.Search.shown g.P.Search.plain g.S.Spawner.truth b l found c.self.invariant.board).plain_is ∙ killed-marked b c.args.ticket.now l c.in-Some.ensures c.if-not-l.false)
