-- What is compared is the same as itself.
use Rattle.std.proofs.Common.{◌≡◌, true, List, refl}
use Rattle.std.specs.Cmp.Lexicographic.{pointwise}
use Rattle.std.proofs.lemmas.Slice.Eq.{slice_eq-Decides}
use Rattle.predictor.specs.declared.wish.Wish.{Wish}
use Rattle.board_steps.specs.declared.tickets.Ticket.{Ticket}
use Rattle.board_steps.specs.Steps.{same_wish}
use Rattle.board_steps.specs.Tickets.{same_ticket}
use Rattle.board_steps.proofs.SameTickets.{same_wish-Decides, same_ticket-Decides}

-- wishes
pub same_wishes-itself : (wishes : List Wish) → pointwise same_wish wishes wishes ≡ true
same_wishes-itself wishes = (slice_eq-Decides same_wish-Decides wishes wishes (pointwise same_wish wishes wishes) refl).1 refl

-- a ticket
pub same_ticket-itself : (t : Ticket) → same_ticket t t ≡ true
same_ticket-itself t = (same_ticket-Decides t t).1 refl
