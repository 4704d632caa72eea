use Rattle.board_steps.specs.Boards.{plain_board}
use Rattle.pool_run.specs.Turns.{KeepsGoing}
use Rattle.pool_run.proofs.turns.advance_on.Given as goal

-- the steps so far added no run, and left the live tickets and whether the board is stopped
abbrev pub invariant-loop : goal.invariant-loop
invariant-loop g l =
    (goal.iterator-loop g).can_next l.iterator' × (goal.iterator-loop g).is_finite l.iterator' × KeepsGoing (plain_board l.initial.board) (plain_board l.board)
