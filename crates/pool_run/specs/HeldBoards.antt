-- What a step of a seat makes of its board, where that is told.
use Rattle.std.specs.Prelude.{Option, IfSome, IsSomeAnd}

-- where the board is told before the step, it is told after it, and this holds of the two
abbrev pub WhereTold : {B : Type 0} → Option B → Option B → (B → B → Type 0) → Type 0
WhereTold old new P = IfSome old (λ b. IsSomeAnd new (P b))
