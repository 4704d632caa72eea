use Rattle.std.proofs.Common.{All, ◌≡◌, true}
use Rattle.paramils.proofs.tunings.process_seats.Given as goal

-- the seats so far have no child
abbrev pub invariant-loop-number : goal.invariant-loop-number
invariant-loop-number g l = All (λ seat. seat.told.idle ≡ true) l.seats.items
