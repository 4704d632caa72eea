use Rattle.pool_run.specs.HeldBoards.{WhereTold}
use Rattle.pool_run.proofs.DriveTurns.{IsUnderWay}
use Rattle.pool_run.proofs.WorkedSeats.{IsAtWork}
use Rattle.pool_run.proofs.running.turn_by_turn.Given as goal

-- what the seat did so far, and what it made where the board is told
abbrev pub invariant-loop : goal.invariant-loop
invariant-loop g l =
    (goal.iterator-loop g).can_next l.iterator' × (goal.iterator-loop g).is_finite l.iterator' × record {
      work : IsAtWork l.program l.fn.seat l.seat;
      board : WhereTold (g.H.HeldBoard.board l.fn.held) (g.H.HeldBoard.board l.held) (λ b b'. IsUnderWay l.program b b' l.fn.seat l.seat);
    }
