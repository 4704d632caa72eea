-- What a sink has taken of a text.
use Rattle.std.specs.Prelude.{ℕ, ◌≡◌, List, take}
use Rattle.outside.specs.Counts.{Rose}
use Rattle.outside.specs.Changes.{after_taking}
use Rattle.outside.specs.ToldStates.{SinkTold}
use Rattle.outside.specs.declared.whole_pieces.Unwritten.{Unwritten}
use Rattle.outside.specs.declared.whole_pieces.Unwritten.TheVariants.{Fault, Memory}

-- the text was taken, and nothing else
abbrev pub Took : SinkTold → SinkTold → List ℕ → Type 0
Took before after text = after.taken ≡ after_taking before.taken text

-- a first part of the text was taken, and nothing else
pub record TookPartOf (before after : SinkTold) (text : List ℕ) : Type 0 where
  pub length : ℕ
  pub taken : Took before after (take length text)

-- a write failed or took nothing: one of the two counts rose
pub data WroteBadly (before after : SinkTold) : Type 0 where
  failed : Rose before.faults after.faults → WroteBadly before after
  nothing_taken : Rose before.empties after.empties → WroteBadly before after

-- why a piece wasn't written whole, by the counts
abbrev pub IsUnwrittenFor : Unwritten → SinkTold → SinkTold → Type 0
IsUnwrittenFor Fault before after = WroteBadly before after
IsUnwrittenFor Memory before after = Unit {0}
