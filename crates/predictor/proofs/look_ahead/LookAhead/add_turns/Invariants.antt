use Rattle.std.proofs.Common.{◌≡◌, ◌≤◌, ◌+◌, ◌-◌, max, length}
use Rattle.run_cache.specs.Caches.{known_in}
use Rattle.predictor.specs.Choices.{with_runs}
use Rattle.predictor.specs.LookAheads.{after, GoesOnFrom}
use Rattle.predictor.specs.Wishes.{runs_ahead}
use Rattle.predictor.proofs.look_ahead.LookAhead.add_turns.Given as goal

-- with the runs of the turns that are left, these are the wishes with those of all turns
abbrev pub invariant-loop-turn : goal.invariant-loop-turn
invariant-loop-turn g l = record {
  on : GoesOnFrom l.initial.self l.self;
  long : l.turn + 1 ≤ length l.self.steps;
  few : length l.self.steps ≤ max (length l.initial.self.steps) (l.turn + 1);
  same : with_runs (known_in l.cache) l.choice (runs_ahead (g.P.Search.shown l.self.rules) l.cache.limits (known_in l.cache) (256 - l.turn) (after l.self (l.turn + 1)))
      ≡ with_runs (known_in l.cache) l.initial.choice (runs_ahead (g.P.Search.shown l.initial.self.rules) l.cache.limits (known_in l.cache) 256 (after l.initial.self 1));
}
