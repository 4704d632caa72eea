use Rattle.std.proofs.Common.{◌≡◌, true}
use Rattle.paramils.proofs.seat_tests.first_other.Given as goal

-- no child runs
abbrev pub invariant-loop-start : goal.invariant-loop-start
invariant-loop-start g l = (g.S.Spawner.told l.seat).idle ≡ true
