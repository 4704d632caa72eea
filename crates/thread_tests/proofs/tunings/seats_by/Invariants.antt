use Rattle.std.proofs.Common.{All, ◌≡◌, true}
use Rattle.thread_tests.proofs.tunings.seats_by.Given as goal

-- the seats so far have no child
abbrev pub invariant-loop : goal.invariant-loop
invariant-loop g l = All (λ seat. seat.told.idle ≡ true) l.seats.items
