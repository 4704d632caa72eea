-- All that is kept for the next comparisons is allowed.
use Rattle.std.proofs.Common.{List, [], ◌∷◌}
use Rattle.uncapped.specs.Procedure.{Settings}
use Rattle.ils_frame.specs.declared.purpose.After.{After}
use Rattle.ils_frame.specs.declared.purpose.After.TheVariants.{First, Turn}
use Rattle.ils_frame.specs.declared.purpose.Purpose.{Purpose}
use Rattle.ils_frame.specs.declared.purpose.Purpose.TheVariants.{Opening, Trying, Improving, Returning}

module _ (allowed : Settings → Type 0) where
  -- each of the configurations is allowed
  abbrev pub AreAllowed : List Settings → Type 0
  AreAllowed [] = Unit {0}
  AreAllowed (θ ∷ rest) = allowed θ × AreAllowed rest

  -- so is what follows an improvement
  abbrev pub IsAfterAllowed : After → Type 0
  IsAfterAllowed First = Unit {0}
  IsAfterAllowed (Turn more ils) = allowed ils

  -- all that is kept for the next comparisons is allowed
  abbrev pub IsPurposeAllowed : Purpose → Type 0
  IsPurposeAllowed Opening = Unit {0}
  IsPurposeAllowed (Trying more θ current) = allowed θ × allowed current
  IsPurposeAllowed (Improving after left θ tried) = IsAfterAllowed after × allowed θ × allowed tried.neighbour × AreAllowed tried.rest
  IsPurposeAllowed (Returning more θ ils) = allowed θ × allowed ils
