use Rattle.board_steps.specs.Boards.{plain_board}
use Rattle.pool_run.proofs.TurnSteps.{marked-so}
use Rattle.pool_run.proofs.turns.advance_and_mark.Goals as goal

pub returns-clause-advanced : goal.returns-clause-advanced
returns-clause-advanced g c =
    marked-so g.P.Search.shown (plain_board c.args.board.now) (plain_board c.advance_on.new.board) (plain_board c.mark.new.self) c.in_ok-needed.needed
    c.in_ok-needed.ensures.advanced c.mark.ensures.board
