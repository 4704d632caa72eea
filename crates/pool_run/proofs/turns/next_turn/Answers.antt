use Rattle.board_steps.specs.Boards.{plain_board}
use Rattle.pool_run.proofs.TurnSteps.{short-so}
use Rattle.pool_run.proofs.turns.next_turn.Goals as goal

pub returns-in-Err : goal.returns-in-Err
returns-in-Err g c =
    short-so g.P.Search.shown (plain_board c.args.board.now) (plain_board c.take_turn.new.board) (plain_board c.stop.new.self) c.args.seat.now c.take_turn.new.seat _
    c.in-Err.ensures.keeps c.stop.ensures c.in-Err.ensures.same c.keep.ensures
