use Rattle.std.proofs.Common.{◌≡◌}
use Rattle.run_cache.specs.Caches.{known_in}
use Rattle.predictor.specs.Choices.{with_runs}
use Rattle.predictor.specs.Wishes.{runs_after}
use Rattle.predictor.proofs.choice.Choice.add_after.Given as goal

-- with the runs at the places that are left, these are the wishes with all of them
abbrev pub invariant-loop-done : goal.invariant-loop-done
invariant-loop-done l = record {
  same : with_runs (known_in l.cache) l.self (runs_after l.config l.cutoff.0 l.done l.last)
      ≡ with_runs (known_in l.cache) l.initial.self (runs_after l.config l.cutoff.0 l.place l.last);
}
