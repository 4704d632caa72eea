use Rattle.plain_text.proofs.Rounding.{bounded_zero}
use Rattle.plain_text.proofs.times.with_zeros.Goals as goal

pub loop-zero-preserved : goal.loop-zero-preserved
loop-zero-preserved c = bounded_zero c.args.start c.loop-zero.value c.min-value.result c.loop-zero._zero c.loop-zero.invariant c.min-value.ensures
