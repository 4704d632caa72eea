use Rattle.std.proofs.Common.{length}
use Rattle.param_space.proofs.SpaceSizes.{few_params, few_conditions, few_clauses}
use Rattle.param_space.proofs.Soundness.{faultless_named, faultless_picks}
use Rattle.param_space.proofs.Checks.{ranks_rise}
use Rattle.param_space.proofs.ParamMarks.{named_weaker}
use Rattle.param_space.proofs.checking.allowed_order.Goals as goal

pub ranked_order-requires-clause-few : goal.ranked_order-requires-clause-few
ranked_order-requires-clause-few c = few_conditions c.args.params.now c.args.conditions.now c.requires.faultless.conditions

pub ranked_order-requires-clause-named : goal.ranked_order-requires-clause-named
ranked_order-requires-clause-named c =
    named_weaker (length c.args.params.now) c.args.conditions.now (few_params c.args.params.now c.requires.faultless.params) (faultless_named c.args.params.now c.args.conditions.now c.requires.faultless.conditions)

pub ranked_order-requires-clause-rises : goal.ranked_order-requires-clause-rises
ranked_order-requires-clause-rises c =
    ranks_rise (length c.args.params.now) c.args.conditions.now c.args.ranks.now (faultless_named c.args.params.now c.args.conditions.now c.requires.faultless.conditions) c.requires.acyclic c.requires.ranked

pub default_fault-requires-clause-few : goal.default_fault-requires-clause-few
default_fault-requires-clause-few c = (few_params c.args.params.now c.requires.faultless.params, few_clauses c.args.params.now c.args.forbidden.now c.requires.faultless.clauses)

pub default_fault-requires-clause-named : goal.default_fault-requires-clause-named
default_fault-requires-clause-named c = faultless_named c.args.params.now c.args.conditions.now c.requires.faultless.conditions

pub default_fault-requires-clause-picks_named : goal.default_fault-requires-clause-picks_named
default_fault-requires-clause-picks_named c = faultless_picks c.args.params.now c.args.forbidden.now c.requires.faultless.clauses
