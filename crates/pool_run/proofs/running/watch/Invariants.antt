use Rattle.std.proofs.Common.{◌≡◌, ◌≤◌, false}
use Rattle.pool_run.proofs.running.watch.Given as goal

-- the child runs still, nothing further was started, and nothing was told of a failure
abbrev pub invariant-loop : goal.invariant-loop
invariant-loop g l =
    (goal.iterator-loop g).can_next l.iterator' × (goal.iterator-loop g).is_finite l.iterator' × record {
      running : (g.S.Spawner.told l.spawner).idle ≡ false;
      same : (g.S.Spawner.told l.spawner).current ≡ (g.S.Spawner.told l.initial.spawner).current;
      started : (g.S.Spawner.told l.spawner).started ≡ (g.S.Spawner.told l.initial.spawner).started;
      folders : (g.S.Spawner.told l.spawner).folders ≡ (g.S.Spawner.told l.initial.spawner).folders;
      counts : (g.S.Spawner.told l.initial.spawner).faults ≤ (g.S.Spawner.told l.spawner).faults;
    }
