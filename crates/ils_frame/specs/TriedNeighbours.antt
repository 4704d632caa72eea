-- Neighbours that are tried one after another.
use Rattle.std.specs.Prelude.{ℕ, ◌+◌, List, [], ◌∷◌, drop, slice_index_or}
use Rattle.uncapped.specs.Procedure.{Settings}

-- the neighbour that is tried, and those after it
pub record Tried : Type 0 where
  pub neighbour : Settings
  pub rest : List Settings

-- of a list, the one at an index is tried
abbrev pub tried_at : List Settings → ℕ → Tried
tried_at θs index = record { neighbour = slice_index_or θs index []; rest = drop (index + 1) θs }

-- the first of those after it is tried, where there is one
abbrev pub first_tried : Tried → List Settings → Tried
first_tried tried [] = tried
first_tried tried (θ ∷ rest) = record { neighbour = θ; rest = rest }

-- the next one is tried, where there is one
abbrev pub tried_next : Tried → Tried
tried_next tried = first_tried tried tried.rest
