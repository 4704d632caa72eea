use Rattle.std.proofs.Common.{All, take}
use Rattle.tuner.specs.KeptFaults.{IsTakeOf}
use Rattle.tuner.proofs.kept_faults.is_asked_on.Given as goal

-- none of the events so far is of the ticket
abbrev pub invariant-loop-event : goal.invariant-loop-event
invariant-loop-event g l = All (λ e. ¬ IsTakeOf l.board.problem l.ticket e) (take l.event-index l.journal)
