use Rattle.std.proofs.Common.{◌≡◌, ◌<◌, ap, ◌∙◌, length, get_or, arith}
use Rattle.board_steps.specs.Tickets
use Rattle.board_steps.proofs.FoundTickets.{find_here, is_found}
use Rattle.board_steps.proofs.ledger.remove.Goals as goal

pub remove-requires : goal.remove-requires
remove-requires c =
    let place : c.position_of-i.result ≡ Tickets.position_of c.args.live.now.items c.args.number = c.position_of-i.ensures.value ∙ ap (λ xs. Tickets.position_of xs c.args.number) c.deref.ensures.value in
    let within : Tickets.position_of c.args.live.now.items c.args.number < length c.args.live.now.items = is_found (Tickets.has_number c.args.number) c.args.live.now.items c.requires in
    omega (arith, place, within, c.deref.ensures.len)

pub returns-clause-value : goal.returns-clause-value
returns-clause-value c =
    let place : c.position_of-i.result ≡ Tickets.position_of c.args.live.now.items c.args.number = c.position_of-i.ensures.value ∙ ap (λ xs. Tickets.position_of xs c.args.number) c.deref.ensures.value in
    let within : Tickets.position_of c.args.live.now.items c.args.number < length c.args.live.now.items = is_found (Tickets.has_number c.args.number) c.args.live.now.items c.requires in
    find_here (Tickets.has_number c.args.number) c.args.live.now.items c.remove.result within (c.remove.ensures.value ∙ ap (λ i. get_or c.args.live.now.items i c.remove.result) place)
