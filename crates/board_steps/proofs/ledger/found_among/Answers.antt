use Rattle.std.proofs.Common.{arith, sym, ◌∙◌}
use Rattle.board_steps.proofs.FoundTickets.{found_same, found_other, found_none}
use Rattle.board_steps.proofs.ledger.found_among.Goals as goal

pub returns-then-i-live : goal.returns-then-i-live
returns-then-i-live c = found_none c.args.live.now c.args.ticket.now (omega arith)

pub returns-then-is : goal.returns-then-is
returns-then-is c = found_same c.args.live.now c.args.ticket.now c.position_of-i.result c.index-live-i.result c.position_of-i.ensures.value (omega arith) c.index-live-i.is (sym c.is.ensures ∙ c.if-is.true)

pub returns-else-is : goal.returns-else-is
returns-else-is c = found_other c.args.live.now c.args.ticket.now c.position_of-i.result c.index-live-i.result c.position_of-i.ensures.value (omega arith) c.index-live-i.is (sym c.is.ensures ∙ c.if-is.false)
