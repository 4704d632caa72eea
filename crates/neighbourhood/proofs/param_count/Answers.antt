use Rattle.std.proofs.Common.{arith, length, ap}
use Rattle.param_space.proofs.SpaceSizes.{few_params}
use Rattle.neighbourhood.proofs.param_count.Goals as goal

pub overflow_cast-result : goal.overflow_cast-result
overflow_cast-result c = omega (arith, few_params c.args.space.now.params c.params.ensures.space.params, ap length c.params.ensures.value)
