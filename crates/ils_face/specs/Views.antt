-- What a search shows, and which replies fit it.
use Rattle.std.specs.Prelude.{ℕ, List, [], ◌∷◌}
use Rattle.uncapped.specs.Procedure.{Incumbent}
use Rattle.ils_face.specs.declared.asks.Ask.{Ask}
use Rattle.ils_face.specs.declared.asks.Reply.{Reply}
use Rattle.ils_face.specs.Replies.{Fits}

-- what a search shows
pub record View : Type 0 where
  pub ask : Ask
  pub entries : List Incumbent  -- oldest first
  pub last : Incumbent  -- the incumbent with its runs and their cost, and the comparisons begun
  pub left : ℕ  -- falls with each answer

-- each reply, oldest first, fits what is shown before it
abbrev pub AreFitting : (List Reply → View) → List Reply → Type 0
AreFitting shown [] = Unit {0}
AreFitting shown (r ∷ later) = Fits (shown []).ask r × AreFitting (λ rest. shown (r ∷ rest)) later
