use Rattle.std.specs.Map.Iter.{deref_pair}
use Rattle.std.proofs.lemmas.Map.Iter.{rest_more}
use Rattle.focused_ils.proofs.MapLemmas.{copied-more}
use Rattle.focused_ils.proofs.counts.Counts.copy.Goals as goal

pub loop-config-preserved : goal.loop-config-preserved
loop-config-preserved c =
    copied-more c.loop-config.further c.in_ok-copy.field-0 c.in-Some.config.now c.in-Some.runs.now c.loop-config.config-iterator c.next.new.self c.insert.new.self.entries c.self.inside.further.entries
    c.in_ok-copy.ensures (rest_more deref_pair c.loop-config.config-iterator c.next.new.self c.next.result (c.in-Some.config, c.in-Some.runs) c.in-Some.is c.next.ensures.steps)
    c.loop-config.invariant c.into_iter-config-iterator.ensures.into_iter_gives.4 c.in_ok-insert.ensures.entries
