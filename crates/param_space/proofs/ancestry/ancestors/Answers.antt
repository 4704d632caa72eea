use Rattle.std.proofs.Common.{refl, sym, ◌∙◌}
use Rattle.param_space.specs.Limits
use Rattle.param_space.proofs.ParamMarks.{unmarked, no_generation, generation_more}
use Rattle.param_space.proofs.ancestry.ancestors.Goals as goal

pub loop-generation-init : goal.loop-generation-init
loop-generation-init c = record {
  size = refl;
  value = λ a lt. unmarked Limits.max_params a ∙ sym (no_generation c.args.conditions.now c.args.param a);
}

pub loop-generation-preserved : goal.loop-generation-preserved
loop-generation-preserved c = record {
  size = c.next_generation-known.ensures.size;
  value = λ a lt. c.next_generation-known.ensures.value a lt
      ∙ generation_more c.args.conditions.now c.args.param c.loop-generation._generation a c.loop-generation.known c.requires c.loop-generation.invariant.value;
}
