use Rattle.std.proofs.Common.{arith}
use Rattle.neighbourhood.proofs.ParamCounts.{few_read}
use Rattle.neighbourhood.proofs.param_value_count.Goals as goal

pub overflow_cast-result : goal.overflow_cast-result
overflow_cast-result c =
    omega (arith, few_read c.args.space.now.params _ _ _ _ c.params.ensures.space.params c.requires c.params.ensures.value c.as_slice.ensures)
