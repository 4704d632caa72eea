use Rattle.std.proofs.Common.{◌≡◌, true}
use Rattle.paramils.proofs.seat_tests.are_always_apart.Given as goal

-- no child runs
abbrev pub invariant-loop : goal.invariant-loop
invariant-loop g l = ((g.S.Spawner.told l.one).idle ≡ true) × ((g.S.Spawner.told l.other).idle ≡ true)
