-- A walk that comes to an abort: its place, and that there is no total cost then.
use Rattle.std.specs.Prelude.{ℕ, zero, suc, ◌<◌, ◌≤◌, ◌≡◌, Option, Some, None, IsSome, refl}
use Rattle.std.proofs.Common.{sym, ap, ◌∙◌, subst, inl, inr, arith}
use Rattle.std.proofs.lemmas.Bool.{cases_lt}
use Rattle.objective.specs.Bounds.{Bounds}
use Rattle.objective.specs.Costs.{Table, cost_of}
use Rattle.uncapped.specs.Procedure.{Settings}
use Rattle.uncapped.specs.Totals.{plus, total_cost}
use Rattle.run_cache.specs.declared.known.Known.{Known}
use Rattle.run_cache.specs.Knowledge.{Agrees}
use Rattle.run_cache.specs.Caches.{Knowledge}
use Rattle.capping.specs.Decisions.{question, IsKnownAbort, IsFirstAbort}
use Rattle.capping.proofs.ExactSums.{exact_below, exact_agrees}
use Rattle.capping.proofs.WalkEnds.{IsPassed, IsAborting}
use Rattle.capping.proofs.NeededRuns.{costs_before, due_cutoff}

plus_none : (o : Option ℕ) → plus o None ≡ None
plus_none None = refl
plus_none (Some x) = refl

-- where a place has no cost there is no total from there on
pub total_cost-none : (limits : Bounds) (T : Table) (θ : Settings) (done n : ℕ) → cost_of limits (T θ (suc done)) ≡ None → done < n
    → total_cost limits T θ n ≡ None
total_cost-none limits T θ done zero h inside = absurd (omega (arith, inside))
total_cost-none limits T θ done (suc n) h inside =
    elim (cases_lt done n) as (λ _. total_cost limits T θ (suc n) ≡ None) [
      | inl below ↦ ap (λ o. plus o (cost_of limits (T θ (suc n)))) (total_cost-none limits T θ done n h below)
      | inr last ↦
          let here : done ≡ n = omega (arith, inside, last) in
          let none = ap (λ i. cost_of limits (T θ (suc i))) (sym here) ∙ h in
          ap (plus (total_cost limits T θ n)) none ∙ plus_none (total_cost limits T θ n)
    ]

-- the place of a run that is known to abort
pub known_abort : (known : Knowledge) (θ : Settings) (bound : Option ℕ) (n place : ℕ) → IsAborting (known θ) bound n place
    → IsKnownAbort known place (question θ n bound)
known_abort known θ bound n place p =
    let inside = p.inside in
    let at = p.place_is in
    record {
      first = omega (arith, at);
      last = omega (arith, at, inside);
      before = λ i h below. costs_before (known θ) p.done p.spent p.passed.sum i h (omega (arith, at, below));
      abort = ap (known θ) at ∙ p.abort;
    }

some_is : {A : Type 0} (o : Option A) (x : A) → o ≡ Some x → IsSome o
some_is o x e = rw e refl

module _ (limits : Bounds) (T : Table) (θ : Settings) (known : ℕ → Known)
    (agrees : (i : ℕ) → Agrees limits (known i) (T θ i)) (bound : Option ℕ) (n place : ℕ) where
  costs : (done spent : ℕ) → IsPassed known bound done spent → (i : ℕ) → 1 ≤ i → i ≤ done → IsSome (cost_of limits (T θ i))
  costs done spent p zero h low = absurd (omega (arith, h))
  costs done spent p (suc i) h low =
      let cost = exact_below known done spent p.sum i (omega (arith, low)) in
      some_is (cost_of limits (T θ (suc i))) cost.0 (exact_agrees limits (known (suc i)) (T θ (suc i)) (agrees (suc i)) cost.0 cost.1)

  -- the place of a run that aborts, over a table
  pub first_abort : IsAborting known bound n place
      → IsFirstAbort limits T place (question θ n bound)
  first_abort p =
      let at = p.place_is in
      let here = subst (λ k. Agrees limits k (T θ (suc p.done))) p.abort (agrees (suc p.done)) in
      let due = due_cutoff limits T θ known agrees bound n p.done p.spent place p.passed p.place_is in
      record {
        abort = ap (λ i. cost_of limits (T θ i)) at ∙ here;
        before = λ i h below. costs p.done p.spent p.passed i h (omega (arith, at, below));
        due = some_is _ _ due;
        unknown = total_cost-none limits T θ p.done n here p.inside;
      }
