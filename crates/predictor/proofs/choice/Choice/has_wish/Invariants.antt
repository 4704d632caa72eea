use Rattle.std.proofs.Common.{◌≡◌, false, take}
use Rattle.predictor.specs.Choices.{has_wish}
use Rattle.predictor.proofs.choice.Choice.has_wish.Given as goal

-- no wish so far is for the cell
abbrev pub invariant-loop-wish : goal.invariant-loop-wish
invariant-loop-wish l = has_wish (take l.wish-index l.wish-items) l.config l.place ≡ false
