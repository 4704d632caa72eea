use Rattle.std.proofs.Common.{ap, ◌∙◌, arith}
use Rattle.board_steps.specs.Tickets.{found_in, standing_of}
use Rattle.board_steps.proofs.MarkedTickets.{HaveOwnNumbers}
use Rattle.pool_core.proofs.Standings.{stranger-apart, live-there, marked-there}
use Rattle.pool_core.proofs.board.Board.standing.Goals as goal

pub returns-clause-live : goal.returns-clause-live
returns-clause-live g c = live-there c.args.self.now.live c.args.ticket.now c.standing.result (c.standing.ensures ∙ ap (λ s. standing_of (found_in s.live c.args.ticket.now)) c.self.view_is)

pub returns-clause-marked : goal.returns-clause-marked
returns-clause-marked g c = marked-there c.args.self.now.live c.args.ticket.now c.standing.result (c.standing.ensures ∙ ap (λ s. standing_of (found_in s.live c.args.ticket.now)) c.self.view_is)

pub returns-clause-stranger : goal.returns-clause-stranger
returns-clause-stranger g c =
    let n = c.is_board.ensures.numbering.numbers in
    let own : HaveOwnNumbers c.args.self.now.live = λ number. omega (arith, n.once number) in
    stranger-apart c.args.self.now.live c.args.ticket.now c.standing.result own (c.standing.ensures ∙ ap (λ s. standing_of (found_in s.live c.args.ticket.now)) c.self.view_is)
