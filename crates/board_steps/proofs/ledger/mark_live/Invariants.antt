use Rattle.std.proofs.Common.{◌≡◌, ◌++◌, map, take, drop}
use Rattle.board_steps.specs.Tickets.{marked}
use Rattle.board_steps.proofs.ledger.mark_live.Given as goal

-- those so far are marked
abbrev pub invariant-loop-i : goal.invariant-loop-i
invariant-loop-i l = l.live.items ≡ map marked (take l.i l.initial.live.items) ++ drop l.i l.initial.live.items
