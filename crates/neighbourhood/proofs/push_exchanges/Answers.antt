use Rattle.std.proofs.Common.{arith, ap, length}
use Rattle.std.proofs.lemmas.Grind.{common_steps}
use Rattle.param_space.proofs.BelongsLemmas.{length-Belongs}
use Rattle.neighbourhood.proofs.Exchanges.{by_value-other, by_value-present}
use Rattle.neighbourhood.proofs.push_exchanges.Goals as goal
use Rattle.neighbourhood.proofs.push_exchanges.Goals.{then-value-present+in_ok-push_exchange, else-value-present}

pub bounds-values-param : goal.bounds-values-param
bounds-values-param c =
    omega (arith, length-Belongs c.args.space.now.params c.args.config.now c.requires.belongs, ap length c.values.ensures)

pub loop-value-preserved : goal.loop-value-preserved
loop-value-preserved c =
    elim c.if-value-present.branch [
      | then-value-present+in_ok-push_exchange w ↦ grind (arith, common_steps, by_value-other)
      | else-value-present w ↦ grind (arith, common_steps, by_value-present)
    ]
