-- Steps that change neither the replies nor what is known.
use Rattle.std.specs.Prelude.{◌≡◌, true, Option, Some, None}
use Rattle.board_steps.specs.declared.tickets.LiveTicket.{LiveTicket}
use Rattle.board_steps.specs.Boards.{PlainBoard}

-- the search and what is known stay
pub record KeepsKnowledge (before after : PlainBoard) : Type 0 where
  pub replies : after.replies ≡ before.replies
  pub known : after.known ≡ before.known
  pub conflicts : after.conflicts ≡ before.conflicts

-- no live ticket was found, or one that is marked
abbrev pub IsUnheard : Option LiveTicket → Type 0
IsUnheard None = Unit {0}
IsUnheard (Some l) = l.marked ≡ true
