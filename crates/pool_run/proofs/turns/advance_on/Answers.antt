use Rattle.board_steps.specs.Boards.{plain_board}
use Rattle.board_steps.specs.declared.answers.Advanced.TheVariants.{Waits}
use Rattle.pool_run.proofs.TurnSteps.{going-none, going-more, advanced-so, advanced-over}
use Rattle.pool_run.proofs.turns.advance_on.Goals as goal

pub loop-init : goal.loop-init
loop-init g c = (tt, tt, going-none (plain_board c.args.board.now))

pub loop-preserved : goal.loop-preserved
loop-preserved g c =
    (tt, tt, going-more g.P.Search.shown (plain_board c.args.board.now) (plain_board c.loop.board) (plain_board c.advance.new.self) c.loop.invariant.2 c.in_ok-advance.ensures.board)

pub returns-in-Waits-clause-advanced : goal.returns-in-Waits-clause-advanced
returns-in-Waits-clause-advanced g c =
    advanced-so g.P.Search.shown (plain_board c.args.board.now) (plain_board c.loop.board) (plain_board c.advance.new.self) _ Waits _ c.loop.invariant.2
    c.in_ok-advance.ensures.answer c.in_ok-advance.ensures.board c.in-Waits.is (λ p stands. stands)

pub returns-in-Ended-clause-advanced : goal.returns-in-Ended-clause-advanced
returns-in-Ended-clause-advanced g c =
    advanced-over g.P.Search.shown (plain_board c.args.board.now) (plain_board c.loop.board) (plain_board c.advance.new.self) _ c.loop.invariant.2
    c.in_ok-advance.ensures.answer c.in_ok-advance.ensures.board c.in-Ended.is
