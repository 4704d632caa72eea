-- Whether a ticket that is given up is live, and whether it is marked.
use Rattle.std.specs.Prelude.{Bool, true, false, Option, Some, None}
use Rattle.board_steps.specs.declared.tickets.LiveTicket.{LiveTicket}

-- the ticket is live
abbrev pub is_known : Option LiveTicket → Bool
is_known None = false
is_known (Some l) = true

-- the ticket is live and marked
abbrev pub is_marked : Option LiveTicket → Bool
is_marked None = false
is_marked (Some l) = l.marked
