use Rattle.std.proofs.Common.{◌≡◌, [], false, ap}
use Rattle.std.proofs.lemmas.Result.{IfOk-weaker}
use Rattle.board_steps.specs.Boards.{BoardState, plain_board, opening}
use Rattle.board_steps.specs.Problem.{Problem}
use Rattle.board_tests.proofs.drives.opened.Goals as goal

-- an opening board has no live ticket, and isn't stopped
no-live : (problem : Problem) (b : BoardState) → plain_board b ≡ opening problem → b.live ≡ []
unfolding plain_board
no-live problem b is = ap (λ x. x.live) is

not-stopped : (problem : Problem) (b : BoardState) → plain_board b ≡ opening problem → b.stopped ≡ false
unfolding plain_board
not-stopped problem b is = ap (λ x. x.stopped) is

pub returns-clause-free : goal.returns-clause-free
returns-clause-free g c = IfOk-weaker _ _ _ (no-live _) c.open.ensures.board

pub returns-clause-going : goal.returns-clause-going
returns-clause-going g c = IfOk-weaker _ _ _ (not-stopped _) c.open.ensures.board
