-- The replies of a search, and the room that there is for more of them.
use Rattle.std.specs.Prelude.{ℕ, List}
use Rattle.ils_face.specs.declared.asks.Reply.{Reply}

-- replies, with the number of further ones that take no memory
pub record HeldReplies : Type 0 where
  pub items : List Reply  -- oldest first
  pub room : ℕ
