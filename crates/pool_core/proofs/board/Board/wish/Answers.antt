use Rattle.std.proofs.Common.{sym, ◌∙◌}
use Rattle.board_steps.specs.Boards.{state_of}
use Rattle.pool_core.proofs.DecidedAsks.{wishes-decided}
use Rattle.pool_core.proofs.board.Board.wish.Goals as goal

pub returns-then-is_some-clause-board : goal.returns-then-is_some-clause-board
returns-then-is_some-clause-board g c =
    let i = c.self.inside in
    let b = state_of i.problem i.search.replies i.cache i.wishes.items i.aborted i.ledger in
    rw (← c.self.view_is) (wishes-decided g.P.Search.shown b i.decided (sym c.is_some.ensures ∙ c.if-is_some.true) c.self.invariant.kept)
