use Rattle.std.proofs.Common.{◌≡◌, false}
use Rattle.paramils.proofs.seat_tests.has_ended.Given as goal

-- the child runs still
abbrev pub invariant-loop : goal.invariant-loop
invariant-loop g l = (g.S.Spawner.told l.seat).idle ≡ false
