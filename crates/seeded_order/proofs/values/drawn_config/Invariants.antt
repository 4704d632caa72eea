use Rattle.std.proofs.Common.{ℕ, ◌≡◌, ◌+◌, take}
use Rattle.seeded_order.specs.Draws.{generator_at, values_of}
use Rattle.seeded_order.proofs.values.drawn_config.Given as goal

-- from word k on the values so far are drawn, and the generator is after their words
abbrev pub invariant-loop-param : goal.invariant-loop-param
invariant-loop-param l = (seed stream k : ℕ) → l.initial.generator ≡ generator_at seed stream k → (l.generator ≡ generator_at seed stream (k + l.param-index)) × (l.values.items ≡ values_of seed stream k (take l.param-index l.params))
