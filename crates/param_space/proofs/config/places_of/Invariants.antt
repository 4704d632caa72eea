use Rattle.std.proofs.Common.{◌≡◌, take, length}
use Rattle.param_space.proofs.config.places_of.Given as goal

-- the numbers so far have their places, of which there are fifteen
abbrev pub invariant-loop-i : goal.invariant-loop-i
invariant-loop-i l = (take l.i l.places ≡ take l.i l.values) × (length l.places ≡ 15)
