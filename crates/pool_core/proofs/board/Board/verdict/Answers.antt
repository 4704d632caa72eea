use Rattle.board_steps.specs.Boards.{state_of}
use Rattle.pool_core.proofs.DecidedAsks.{verdict-kept, verdict-made}
use Rattle.pool_core.proofs.board.Board.verdict.Goals as goal

pub returns-in-Some : goal.returns-in-Some
returns-in-Some g c =
    let i = c.self.inside in
    let b = state_of i.problem i.search.replies i.cache i.wishes.items i.aborted i.ledger in
    rw (← c.self.view_is) (verdict-kept g.P.Search.shown b i.decided c.in-Some.verdict c.in-Some.is c.self.invariant.kept)

pub returns-in-None : goal.returns-in-None
returns-in-None g c =
    let i = c.self.inside in
    let b = state_of i.problem i.search.replies i.cache i.wishes.items i.aborted i.ledger in
    let e = c.verdict_by.ensures in
    rw (← c.self.view_is) (verdict-made g.P.Search.shown b i.search.rules b.replies c.verdict_by.result c.self.invariant.rules_same c.self.invariant.board.limits e.value e.fits e.runnable)
