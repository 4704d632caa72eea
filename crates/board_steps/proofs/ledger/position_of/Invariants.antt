use Rattle.std.proofs.Common.{◌≡◌, ◌+◌, drop}
use Rattle.board_steps.specs.Tickets
use Rattle.board_steps.proofs.ledger.position_of.Given as goal

-- the number has no place so far
abbrev pub invariant-loop-i : goal.invariant-loop-i
invariant-loop-i l = l.i + Tickets.position_of (drop l.i l.live) l.number ≡ Tickets.position_of l.live l.number
