use Rattle.plain_text.proofs.Rounding.{bounded_step}
use Rattle.plain_text.proofs.times.read_on.Goals as goal

pub loop-digit-preserved : goal.loop-digit-preserved
loop-digit-preserved c = bounded_step c.args.start c.loop-digit.value c.min-value.result c.args.digits.now c.loop-digit.digit-index c.requires.digits c.loop-digit-test.true c.loop-digit.invariant c.min-value.ensures
