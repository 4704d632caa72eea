use Rattle.std.proofs.Common.{refl}
use Rattle.param_space.specs.Limits
use Rattle.param_space.proofs.ParamMarks.{unmarked}
use Rattle.param_space.proofs.ancestry.next_generation.Goals as goal

pub loop-condition-init : goal.loop-condition-init
loop-condition-init c = record {
  size = refl;
  value = λ a lt. unmarked Limits.max_params a;
}
