-- A tie never replaces the incumbent.
use Rattle.std.specs.Prelude.{ℕ, ◌≡◌, ◌==◌, ◌&&◌, false, not, Some, bytes_eq, refl}
use Rattle.std.proofs.Math.Bool.{and-false}
use Rattle.std.proofs.Math.Nat.{le_refl}
use Rattle.std.proofs.lemmas.Bool.{le-ltb}
use Rattle.uncapped.specs.Procedure.{Settings, Sums, PlainState}
use Rattle.uncapped.specs.Evaluation.{beats}

-- a tie never replaces the incumbent
pub tie-is-no-win : (sums : Sums) (s : PlainState) (θ : Settings) (n x : ℕ) → sums s.incumbent n ≡ Some x → beats sums s θ n x ≡ false
tie-is-no-win sums s θ n x e = rw (e, le-ltb x x (le_refl x), and-false (not (bytes_eq θ s.incumbent) && (n == s.counts s.incumbent))) refl
