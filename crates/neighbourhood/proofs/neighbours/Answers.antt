use Rattle.std.proofs.Common.{◌≡◌, ◌∙◌, All, arith, ap, subst, sym, length}
use Rattle.std.proofs.lemmas.Grind.{common_steps}
use Rattle.neighbourhood.specs.Neighbours.{neighbours_of}
use Rattle.param_space.specs.Configurations.{IsConfig}
use Rattle.neighbourhood.proofs.Soundness.{neighbours_sound}
use Rattle.neighbourhood.proofs.NeighbourCounts.{few_neighbours}
use Rattle.neighbourhood.proofs.Exchanges.{by_param, by_param-active, by_param-inactive}
use Rattle.neighbourhood.proofs.neighbours.Goals as goal
use Rattle.neighbourhood.proofs.neighbours.Goals.{then-is_active+in_ok-push_exchanges, else-is_active}

pub loop-param-preserved : goal.loop-param-preserved
loop-param-preserved c =
    elim c.if-is_active.branch [
      | then-is_active+in_ok-push_exchanges w ↦ grind (arith, common_steps, by_param-active)
      | else-is_active w ↦ grind (arith, common_steps, by_param-inactive)
    ]

pub returns : goal.returns
unfolding neighbours_of
returns c =
    let space = c.args.space.now in
    let value : c.loop-param.found.items ≡ neighbours_of space c.args.config.now = c.loop-param.invariant ∙ ap (by_param space c.args.config.now) (omega arith) in
    record {
      value = value;
      sound = subst (All (IsConfig space)) (sym value) (neighbours_sound space c.param_count-param-end.ensures.space c.args.config.now c.requires);
      few = let few = few_neighbours space c.param_count-param-end.ensures.space c.args.config.now in omega (arith, few, ap length value);
    }
