use Rattle.std.proofs.Common.{arith}
use Rattle.std.proofs.lemmas.Grind.{common_steps}
use Rattle.param_space.proofs.BelongsLemmas.{length-Belongs}
use Rattle.neighbourhood.proofs.Soundness.{Belongs-exchange}
use Rattle.neighbourhood.proofs.push_exchange.Goals as goal

pub set-requires : goal.set-requires
set-requires c = grind (arith, common_steps, length-Belongs)

pub settle-requires : goal.settle-requires
settle-requires c = grind (arith, common_steps, Belongs-exchange)
