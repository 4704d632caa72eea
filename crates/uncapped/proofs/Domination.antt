-- Of two configurations with as many runs each, one dominates the other.
use Rattle.std.specs.Prelude.{ℕ, ◌≡◌, ◌||◌, true, Some, nat_le, refl}
use Rattle.std.proofs.Common.{inl, inr, arith}
use Rattle.std.proofs.Math.Nat.{le_refl}
use Rattle.std.proofs.Math.Bool.{or-true}
use Rattle.std.proofs.lemmas.Bool.{le-leb, cases_lt}
use Rattle.uncapped.specs.Procedure.{Settings, Sums, PlainState}
use Rattle.uncapped.specs.Evaluation.{dominates}

-- a configuration of known cost dominates itself
pub dominates-itself : (sums : Sums) (s : PlainState) (θ : Settings) (x : ℕ) → sums θ (s.counts θ) ≡ Some x → dominates sums s θ θ ≡ true
dominates-itself sums s θ x e = rw (e, le-leb x x (le_refl x), le-leb (s.counts θ) (s.counts θ) (le_refl (s.counts θ))) refl

-- of two numbers one is at most the other
either-is-at-most : (x y : ℕ) → nat_le x y || nat_le y x ≡ true
either-is-at-most x y = elim (cases_lt x y) as (λ _. nat_le x y || nat_le y x ≡ true) [
  | inl less ↦ rw (le-leb x y (omega (arith, less))) refl
  | inr most ↦ rw (le-leb y x most, or-true (nat_le x y)) refl
]

-- of two configurations with as many runs each, and of known cost, one dominates the other
pub one-dominates : (sums : Sums) (s : PlainState) (θ φ : Settings) (n x y : ℕ) → s.counts θ ≡ n → s.counts φ ≡ n → sums θ n ≡ Some x → sums φ n ≡ Some y → dominates sums s θ φ || dominates sums s φ θ ≡ true
one-dominates sums s θ φ n x y many more e d = rw (many, more, e, d, le-leb n n (le_refl n)) (either-is-at-most x y)
