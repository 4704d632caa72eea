use Rattle.std.proofs.Common.{arith}
use Rattle.std.proofs.lemmas.List.Edits.{map_over_more}
use Rattle.board_steps.specs.Tickets.{marked}
use Rattle.board_steps.proofs.ledger.mark_live.Goals as goal

pub loop-i-preserved : goal.loop-i-preserved
loop-i-preserved c = map_over_more marked c.args.live.now.items c.loop-i.live.items c.loop-i.i c.index_mut.result.now (grind arith) c.loop-i.invariant c.index_mut.ensures.value
