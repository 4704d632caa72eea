-- Where the total costs at all counts are known, they stay known after one more evaluation.
use Rattle.std.proofs.Common.{ℕ, ◌≡◌, ◌≤◌, ◌<◌, Bool, true, false, IsSome, nat_le, bytes_eq, if◌then◌else◌, refl, arith, max}
use Rattle.std.proofs.lemmas.Bool.{leb-true, leb-false}
use Rattle.std.proofs.lemmas.Slice.Eq.{bytes_eq-Decides}
use Rattle.uncapped.specs.Procedure.{Settings, Sums}
use Rattle.uncapped.specs.Evaluation.{counts_after}

module _ (sums : Sums) (counts : Settings → ℕ) (θ : Settings) (n : ℕ) where
  greater-known : IsSome (sums θ (counts θ)) → IsSome (sums θ n) → (b : Bool) → nat_le (counts θ) n ≡ b → IsSome (sums θ (max (counts θ) n))
  greater-known h k true e =
      let l : counts θ ≤ n = leb-true (counts θ) n e in
      let m : max (counts θ) n ≡ n = omega (arith, l) in
      rw m k
  greater-known h k false e =
      let l : n < counts θ = leb-false (counts θ) n e in
      let m : max (counts θ) n ≡ counts θ = omega (arith, l) in
      rw m h

  -- so is the cost of what was evaluated
  pub counts_after-known : ((φ : Settings) → IsSome (sums φ (counts φ))) → IsSome (sums θ n) → (φ : Settings) → IsSome (sums φ (counts_after counts θ n φ))
  counts_after-known h k φ = at_either (bytes_eq φ θ) refl
    where
      at_either : (b : Bool) → bytes_eq φ θ ≡ b → IsSome (sums φ (if b then max (counts θ) n else counts φ))
      at_either true e = rw ((bytes_eq-Decides φ θ).0 e) (greater-known (h θ) k (nat_le (counts θ) n) refl)
      at_either false e = h φ
