use Rattle.std.proofs.Common.{◌≡◌, subst}
use Rattle.std.proofs.lemmas.Result.{IfOk-weaker}
use Rattle.board_steps.specs.Boards.{BoardState, plain_board, state_of}
use Rattle.board_steps.specs.BoardVerdicts.{asked_cell}
use Rattle.pool_core.proofs.PresentVerdicts.{asked-now}
use Rattle.pool_core.proofs.board.Board.needed_cell.Goals as goal

pub returns : goal.returns
returns g c =
    let shown = g.P.Search.shown in
    let i = c.self.inside in
    let b = state_of i.problem i.search.replies i.cache i.wishes.items i.aborted i.ledger in
    IfOk-weaker c.asked_cell.result _ _ (λ cell is.
    let N : BoardState → Type 0 = λ x. cell ≡ asked_cell shown (plain_board x) c.args.place in
    subst N c.self.view_is (asked-now shown b i.search.rules cell c.args.place c.self.invariant.rules_same is)) c.asked_cell.ensures
