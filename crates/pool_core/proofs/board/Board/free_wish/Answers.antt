use Rattle.std.proofs.Common.{◌≡◌, ◌≤◌, ◌<◌, Some, length, get_or, ap, sym, ◌∙◌, arith}
use Rattle.std.specs.List.{find, position_or_len}
use Rattle.std.proofs.lemmas.List.Sums.{passes_at_first}
use Rattle.board_steps.specs.Boards.{plain_board}
use Rattle.board_steps.specs.Steps.{is_free}
use Rattle.board_steps.proofs.FoundTickets.{find_here, find_past}
use Rattle.pool_core.proofs.Offers.{free-alone}
use Rattle.pool_core.proofs.board.Board.free_wish.Goals as goal

pub returns-then-i-wishes-clause-value : goal.returns-then-i-wishes-clause-value
returns-then-i-wishes-clause-value g c =
    let xs = c.as_slice-wishes.result.now in
    let p = is_free (plain_board c.args.self.now) c.args.needed.now in
    let same : xs ≡ c.args.self.now.wishes = c.as_slice-wishes.ensures.value ∙ ap (λ s. s.wishes) c.self.view_is in
    let past : length xs ≤ position_or_len p xs = omega arith in
    sym (find_past p xs past) ∙ ap (find p) same

pub returns-clause-value : goal.returns-clause-value
returns-clause-value g c =
    let xs = c.as_slice-wishes.result.now in
    let p = is_free (plain_board c.args.self.now) c.args.needed.now in
    let w = c.index-wishes-i.result in
    let same : xs ≡ c.args.self.now.wishes = c.as_slice-wishes.ensures.value ∙ ap (λ s. s.wishes) c.self.view_is in
    let within : position_or_len p xs < length xs = omega arith in
    let at : w ≡ get_or xs (position_or_len p xs) w = c.index-wishes-i.is ∙ ap (λ n. get_or xs n w) c.first_free-i.ensures.value in
    ap Some c.in_ok-copy.ensures ∙ sym (find_here p xs w within at) ∙ ap (find p) same

pub returns-clause-free : goal.returns-clause-free
returns-clause-free g c =
    let xs = c.as_slice-wishes.result.now in
    let p = is_free (plain_board c.args.self.now) c.args.needed.now in
    let w = c.index-wishes-i.result in
    let within : position_or_len p xs < length xs = omega arith in
    let at : w ≡ get_or xs (position_or_len p xs) w = c.index-wishes-i.is ∙ ap (λ n. get_or xs n w) c.first_free-i.ensures.value in
    free-alone c.args.self.now c.args.needed.now c.in_ok-copy.field-0 (ap p (c.in_ok-copy.ensures ∙ at) ∙ passes_at_first p xs w within)
