use Rattle.std.proofs.Common.{◌≡◌}
use Rattle.seeded_order.specs.Draws.{generator_at, numbered_words}
use Rattle.seeded_order.proofs.draws.Draws.order.Given as goal

-- the numbers so far stand beside their words, and the generator is after these words
abbrev pub invariant-loop-number : goal.invariant-loop-number
invariant-loop-number l = record {
  drawn : l.generator ≡ generator_at l.self l.stream l.number;
  paired : l.pairs.items ≡ numbered_words l.self l.stream l.number;
}
