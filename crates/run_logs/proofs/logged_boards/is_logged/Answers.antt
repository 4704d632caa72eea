use Rattle.run_logs.proofs.LoggedBoards.{board-rising, board-tickets, board-shown, board-ending, board-incumbent}
use Rattle.run_logs.proofs.logged_boards.is_logged.Goals as goal

pub returns-clause-rising : goal.returns-clause-rising
returns-clause-rising g c = board-rising g.P.Search.shown g.P.Search.plain g.S.Spawner.truth c.args.board.now c.is_board.ensures

pub returns-clause-tickets : goal.returns-clause-tickets
returns-clause-tickets g c = board-tickets g.P.Search.shown g.P.Search.plain g.S.Spawner.truth c.args.board.now c.is_board.ensures

pub returns-clause-shown : goal.returns-clause-shown
returns-clause-shown g c = board-shown g.P.Search.shown g.P.Search.plain g.S.Spawner.truth c.args.board.now c.is_board.ensures

pub returns-clause-incumbent : goal.returns-clause-incumbent
returns-clause-incumbent g c =
    board-incumbent g.P.Search.shown g.P.Search.plain g.S.Spawner.truth c.args.board.now c.is_board.ensures g.met.P.Search.steady
    _ _ c.search.ensures.rules c.search.ensures.replies c.ask.ensures.fitting

pub returns-clause-abort : goal.returns-clause-abort
returns-clause-abort g c = board-ending g.P.Search.shown g.P.Search.plain g.S.Spawner.truth c.args.board.now c.is_board.ensures
