use Rattle.std.proofs.Common.{◌≡◌, ◌*◌, ◌-◌, length}
use Rattle.seeded_order.specs.Draws.{generator_at, first_allowed_config, random_config_of}
use Rattle.seeded_order.specs.declared.limits.TheConstants.{MAX_ATTEMPTS}
use Rattle.seeded_order.proofs.draws.Draws.random_config.Given as goal

-- no attempt so far was allowed, and the generator is after their words
abbrev pub invariant-loop-attempt : goal.invariant-loop-attempt
invariant-loop-attempt l = record {
  drawn : l.generator ≡ generator_at l.self l.stream (l._attempt * length l.params);
  left : random_config_of l.self l.stream l.space ≡ first_allowed_config l.self l.stream l.space (MAX_ATTEMPTS - l._attempt) l._attempt;
}
