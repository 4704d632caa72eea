use Rattle.std.proofs.Common.{All, ◌≡◌, true}
use Rattle.tuning_harness.proofs.harness.all_seats.Given as goal

-- the seats so far have no child
abbrev pub invariant-loop : goal.invariant-loop
invariant-loop l = All (λ seat. seat.told.idle ≡ true) l.seats.items
