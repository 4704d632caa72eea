use Rattle.std.proofs.Common.{◌≡◌, ◌+◌, drop}
use Rattle.std.specs.List.{position_or_len}
use Rattle.board_steps.specs.Boards.{plain_board}
use Rattle.board_steps.specs.Steps.{is_free}
use Rattle.pool_core.proofs.board.Board.first_free.Given as goal

-- none of the wishes so far is free
abbrev pub invariant-loop-i : goal.invariant-loop-i
invariant-loop-i g l = l.i + position_or_len (is_free (plain_board l.self) l.needed) (drop l.i l.wishes) ≡ position_or_len (is_free (plain_board l.self) l.needed) l.wishes
