-- What numbered lines make of a value, one after another.
use Rattle.std.specs.Prelude.{ℕ, List, [], ◌∷◌, Result, Ok}
use Rattle.plain_text.specs.Faults.{LineFault, in_line}
use Rattle.plain_text.specs.Results.{◌>>=◌}

-- what numbered lines make of a value by a step for each, or the first fault with its line
unfoldable pub fold_lines : {A What : Type 0} → (A → ℕ → List ℕ → Result A What) → A → List (ℕ × List ℕ) → Result A (LineFault What)
fold_lines step a [] = Ok a
fold_lines step a ((number, line) ∷ later) = in_line number (step a number line) >>= λ b. fold_lines step b later
