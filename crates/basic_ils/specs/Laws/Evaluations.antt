-- An evaluation on as many places as the incumbent has runs.
use Rattle.std.proofs.Common.{◌≡◌, ℕ, ◌≤◌, Bool, true, false, not, ◌&&◌, Option, Some, None, nat_lt, bytes_eq, if◌then◌else◌, refl, arith, max, eq-eqb}
use Rattle.std.proofs.lemmas.Slice.Eq.{bytes_eq-Decides}
use Rattle.std.proofs.lemmas.Bool.{le-ltb}
use Rattle.std.proofs.Math.Bool.{and-false, and-true}
use Rattle.std.proofs.Math.Nat.{le_refl}
use Rattle.uncapped.specs.Procedure.{Settings, Sums, PlainState, Goes, Ends, Aborted, goes_on, give, becomes, when}
use Rattle.uncapped.specs.Evaluation.{after_ask, after_win, counts_after, measure, evaluate, overtakes, beats}
use Rattle.basic_ils.specs.State.{after_evaluation, win_where}

-- ---- counts

module _ (counts : Settings → ℕ) (θ : Settings) (n : ℕ) where
  -- no count comes to more
  pub counts_after-most : (φ : Settings) → counts θ ≤ n → counts φ ≤ n → counts_after counts θ n φ ≤ n
  counts_after-most φ h k = at_either (bytes_eq φ θ)
    where
      at_either : (b : Bool) → (if b then max (counts θ) n else counts φ) ≤ n
      at_either true = omega arith
      at_either false = k

  -- a count that was n stays n
  pub counts_after-top : (φ : Settings) → counts θ ≤ n → counts φ ≡ n → counts_after counts θ n φ ≡ n
  counts_after-top φ h k = at_either (bytes_eq φ θ)
    where
      at_either : (b : Bool) → (if b then max (counts θ) n else counts φ) ≡ n
      at_either true = omega arith
      at_either false = k

  -- the count of what was evaluated
  pub counts_after-itself : counts θ ≤ n → counts_after counts θ n θ ≡ n
  counts_after-itself h = rw ((bytes_eq-Decides θ θ).1 refl) (omega arith)

-- ---- one evaluation

module _ (sums : Sums) (θ : Settings) (n : ℕ) (bound : Option ℕ) (s : PlainState) where
  -- with a known cost it goes on
  pub measure-known : (x : ℕ) → sums θ n ≡ Some x → measure sums θ n bound s ≡ Goes (after_evaluation θ n bound s) x
  unfolding measure
  measure-known x e = rw e refl

  -- without one it aborts
  pub measure-unknown : sums θ n ≡ None → measure sums θ n bound s ≡ Ends (after_ask θ n bound s) Aborted
  unfolding measure
  measure-unknown e = rw e refl

  not_overtaken : s.counts s.incumbent ≡ n → overtakes s θ n ≡ false
  not_overtaken t = rw (t, le-ltb n n (le_refl n)) (and-false (not (bytes_eq θ s.incumbent)))

  -- it beats the incumbent where another configuration costs less
  beaten : (x y : ℕ) → s.counts s.incumbent ≡ n → s.counts θ ≤ n → sums s.incumbent n ≡ Some y
      → beats sums (after_evaluation θ n bound s) θ n x ≡ (not (bytes_eq θ s.incumbent) && nat_lt x y)
  beaten x y t h k = rw (counts_after-top s.counts θ n s.incumbent h t, eq-eqb n n refl, k, and-true (not (bytes_eq θ s.incumbent))) refl

  goes_on_won : (b : Bool) (x : ℕ) (s : PlainState) → goes_on (when b (becomes (after_win θ n x)) s) (λ _. give x) ≡ Goes (win_where b θ n x s) x
  goes_on_won true x s = refl
  goes_on_won false x s = refl

  -- with a known cost it goes on, maybe with a new incumbent
  pub evaluate-known : (x y : ℕ) → s.counts s.incumbent ≡ n → s.counts θ ≤ n → sums s.incumbent n ≡ Some y → sums θ n ≡ Some x
      → evaluate sums θ n bound s ≡ Goes (win_where (not (bytes_eq θ s.incumbent) && nat_lt x y) θ n x (after_evaluation θ n bound s)) x
  unfolding evaluate measure
  evaluate-known x y t h k e = rw (not_overtaken t, e, beaten x y t h k) (goes_on_won (not (bytes_eq θ s.incumbent) && nat_lt x y) x (after_evaluation θ n bound s))

  -- without one it aborts
  pub evaluate-unknown : s.counts s.incumbent ≡ n → sums θ n ≡ None → evaluate sums θ n bound s ≡ Ends (after_ask θ n bound s) Aborted
  unfolding evaluate measure
  evaluate-unknown t e = rw (not_overtaken t, e) refl
