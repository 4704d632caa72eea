-- A search that is looked ahead.
use Rattle.std.specs.Prelude.{◌≡◌, List, [], ◌∷◌, ◌++◌}
use Rattle.ils_face.specs.declared.asks.Reply.{Reply}
use Rattle.ils_face.specs.Rules.{Rules}
use Rattle.predictor.specs.LookAheads.{LookAheadState, after}

-- a search, by its rules and its replies
pub record SearchState : Type 0 where
  pub rules : Rules
  pub replies : List Reply

-- the search after a reply
abbrev pub after_reply : SearchState → Reply → SearchState
after_reply search r = record search { replies = search.replies ++ r ∷ [] }

-- a look ahead begins where the search is
pub record BeginsAt (search : SearchState) (l : LookAheadState) : Type 0 where
  pub rules : l.rules ≡ search.rules
  pub start : after l 0 ≡ search.replies
