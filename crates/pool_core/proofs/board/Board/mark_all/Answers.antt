use Rattle.board_steps.specs.Boards.{state_of}
use Rattle.board_steps.specs.UnwantedRuns.{all_unwanted}
use Rattle.board_steps.proofs.KeptBoards.{step-marks}
use Rattle.pool_core.proofs.board.Board.mark_all.Goals as goal

pub invariant_of-self : goal.invariant_of-self
invariant_of-self g c =
    let i = c.self.inside in
    let b = state_of i.problem i.search.replies i.cache i.wishes.items i.aborted i.ledger in
    record {
      rules_same = c.self.invariant.rules_same;
      kept = c.self.invariant.kept;
      board = rw c.mark_all.ensures.marked (step-marks g.P.Search.shown g.P.Search.plain g.S.Spawner.truth b all_unwanted c.self.invariant.board).kept;
    }

pub returns-clause-board : goal.returns-clause-board
returns-clause-board g c =
    let i = c.self.inside in
    let b = state_of i.problem i.search.replies i.cache i.wishes.items i.aborted i.ledger in
    rw (c.mark_all.ensures.marked, ← c.self.view_is) (step-marks g.P.Search.shown g.P.Search.plain g.S.Spawner.truth b all_unwanted c.self.invariant.board).plain_is
