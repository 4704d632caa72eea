use Rattle.std.proofs.Common.{ap, ◌∙◌}
use Rattle.board_steps.specs.Boards.{plain_board, state_of}
use Rattle.board_steps.specs.BoardVerdicts.{board_verdict_of}
use Rattle.board_steps.proofs.KeptBoards.{step-abort}
use Rattle.pool_core.proofs.PresentVerdicts.{asked-now}
use Rattle.pool_core.proofs.board.Board.abort.Goals as goal

pub invariant_of-self-2 : goal.invariant_of-self-2
invariant_of-self-2 g c =
    let i = c.self.inside in
    let b = state_of i.problem i.search.replies i.cache i.wishes.items i.aborted i.ledger in
    let stands = ap (λ x. board_verdict_of g.P.Search.shown (plain_board x)) c.self.view_is ∙ c.requires in
    let cell = asked-now g.P.Search.shown b i.search.rules c.in_ok-cell.cell c.args.place c.self.invariant.rules_same c.in_ok-cell.ensures in
    record {
      rules_same = c.self.invariant.rules_same;
      kept = tt;
      board = rw (c.advance.ensures, c.make_room.ensures.same, c.clear.ensures.items) (step-abort g.P.Search.shown g.P.Search.plain g.S.Spawner.truth b c.args.place c.in_ok-cell.cell stands cell c.self.invariant.board).kept;
    }

pub returns-clause-board : goal.returns-clause-board
returns-clause-board g c =
    let i = c.self.inside in
    let b = state_of i.problem i.search.replies i.cache i.wishes.items i.aborted i.ledger in
    let stands = ap (λ x. board_verdict_of g.P.Search.shown (plain_board x)) c.self.view_is ∙ c.requires in
    let cell = asked-now g.P.Search.shown b i.search.rules c.in_ok-cell.cell c.args.place c.self.invariant.rules_same c.in_ok-cell.ensures in
    rw (c.advance.ensures, c.make_room.ensures.same, c.clear.ensures.items, ← c.self.view_is) (step-abort g.P.Search.shown g.P.Search.plain g.S.Spawner.truth b c.args.place c.in_ok-cell.cell stands cell c.self.invariant.board).plain_is
