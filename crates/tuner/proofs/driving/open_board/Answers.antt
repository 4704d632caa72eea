use Rattle.std.proofs.Common.{ap, ◌∙◌}
use Rattle.std.proofs.lemmas.Result.{IfOk-weaker}
use Rattle.board_steps.specs.Boards.{plain_board}
use Rattle.tuner.proofs.driving.open_board.Goals as goal

pub returns-clause-problem : goal.returns-clause-problem
unfolding plain_board
returns-clause-problem g c = IfOk-weaker c.open.result _ _ (λ b e. ap (λ p. p.problem) e ∙ c.in_ok-copy.ensures) c.open.ensures.board

pub returns-clause-free : goal.returns-clause-free
unfolding plain_board
returns-clause-free g c =
    IfOk-weaker c.open.result _ _ (λ b e. record { free = ap (λ p. p.live) e; going = ap (λ p. p.stopped) e }) c.open.ensures.board
