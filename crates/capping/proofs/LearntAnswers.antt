-- What a walk comes to once the answer of the run that it needed is learnt.
use Rattle.std.specs.Prelude.{ℕ, suc, ◌-◌, ◌<◌, ◌≤◌, ◌≡◌, ◌≢◌, ◌==◌, ◌&&◌, ◌⊎◌, max, true, false, Option, Some, None, nat_lt, bytes_eq, refl}
use Rattle.std.proofs.Common.{sym, ap, ◌∙◌, subst, inl, inr, arith}
use Rattle.std.proofs.lemmas.Bool.{cases_Bool, cases_order, ltb-true, le-leb, ne_eqb, eq-eqb, and_right, and_from, cond-true, cond-false}
use Rattle.std.proofs.lemmas.Slice.Eq.{bytes_eq-Decides}
use Rattle.objective.specs.Bounds.{Bounds}
use Rattle.objective.specs.declared.Answer.{Answer}
use Rattle.objective.specs.declared.Answer.TheVariants as answer
use Rattle.objective.specs.declared.Micros.{Micros}
use Rattle.uncapped.specs.Procedure.{Settings}
use Rattle.run_cache.specs.declared.known.Known.{Known}
use Rattle.run_cache.specs.declared.known.Known.TheVariants.{Nothing, Over, Exact, Abort}
use Rattle.run_cache.specs.Learning.{lesson}
use Rattle.run_cache.specs.Caches.{Knowledge}
use Rattle.capping.specs.declared.verdicts.Verdict.{Verdict}
use Rattle.capping.specs.declared.verdicts.Verdict.TheVariants as verdict
use Rattle.capping.specs.Verdicts.{leads_past, cutoff_left}
use Rattle.capping.specs.Decisions.{NeedsLater, after_run}
use Rattle.capping.specs.ExactSums.{exact_cost, exact_sum}
use Rattle.capping.proofs.ExactSums.{exact_below, exact_sum-same}
use Rattle.capping.proofs.WalkEnds.{IsUndecided, IsOpen, IsEnd}

-- ---- the place of the run

-- a cutoff below the full one that is left for a run leads past the bound
enough : (limits : Bounds) (bound : Option ℕ) (spent time : ℕ) → cutoff_left limits bound spent < limits.cutoff
    → cutoff_left limits bound spent ≤ time → leads_past bound spent time ≡ true
enough limits None spent time short h = absurd (omega (arith, short))
enough limits (Some b) spent time short h = le-leb (b - spent) time (omega (arith, short, h))

led : (limits : Bounds) (bound : Option ℕ) (spent time : ℕ) → cutoff_left limits bound spent < limits.cutoff
    → cutoff_left limits bound spent ≤ time → leads_past bound spent time ≡ false → ⊥
led limits bound spent time short h e = let yes = enough limits bound spent time short h in absurd (cc)

module _ (limits : Bounds) (bound : Option ℕ) (spent : ℕ) where
  -- after a timeout
  timed_out : (k : Known) → IsUndecided bound spent k
      → (nat_lt (cutoff_left limits bound spent) limits.cutoff ≡ true) ⊎ (nat_lt (cutoff_left limits bound spent) limits.cutoff ≡ false)
      → IsUndecided bound spent (lesson limits k (cutoff_left limits bound spent) answer.Timeout).known → ⊥
  timed_out Nothing u (inl short) h =
      led limits bound spent (cutoff_left limits bound spent) (ltb-true _ _ short) (omega arith) (rw short at h)
  timed_out Nothing u (inr full) h = rw full at h
  timed_out (Over k) u (inl short) h =
      led limits bound spent (max k.0 (cutoff_left limits bound spent)) (ltb-true _ _ short) (omega arith) (rw short at h)
  timed_out (Over k) u (inr full) h = rw full at h
  timed_out (Exact x) u b h = u
  timed_out Abort u b h = u

  -- after a run with the cutoff that is left, what is known of its place decides
  pub decided : (k : Known) (a : Answer) → IsUndecided bound spent k
      → IsUndecided bound spent (lesson limits k (cutoff_left limits bound spent) a).known → ⊥
  decided Nothing (answer.Solved t) u h = h
  decided Nothing answer.Timeout u h = timed_out Nothing u (cases_Bool (nat_lt (cutoff_left limits bound spent) limits.cutoff)) h
  decided Nothing answer.Crashed u h = h
  decided Nothing answer.Abort u h = h
  decided (Over k) (answer.Solved t) u h = h
  decided (Over k) answer.Timeout u h = timed_out (Over k) u (cases_Bool (nat_lt (cutoff_left limits bound spent) limits.cutoff)) h
  decided (Over k) answer.Crashed u h = h
  decided (Over k) answer.Abort u h = h
  decided (Exact x) a u h = u
  decided Abort a u h = u

-- ---- the walk

-- a place with a cost decides
undecided_cost : (bound : Option ℕ) (spent : ℕ) (k : Known) (x : ℕ) → exact_cost k ≡ Some x → IsUndecided bound spent k → ⊥
undecided_cost bound spent Nothing x e h = cc
undecided_cost bound spent (Over time) x e h = cc
undecided_cost bound spent (Exact cost) x e h = h
undecided_cost bound spent Abort x e h = h

module _ (limits : Bounds) (known after : ℕ → Known) (bound : Option ℕ) (n place : ℕ) (cutoff : Micros) (a : Answer)
    (p : IsOpen limits known bound n place cutoff)
    (others : (i : ℕ) → i ≢ place → after i ≡ known i)
    (here : after place ≡ (lesson limits (known place) cutoff.0 a).known) where
  same_before : exact_sum after p.done ≡ Some p.spent
  same_before =
      let at = p.place_is in
      exact_sum-same known after p.done (λ i low high. others i (λ e. omega (arith, at, high, e))) ∙ p.passed.sum

  not_before : (q : ℕ) (later : Micros) (o : IsOpen limits after bound n q later) → o.done < p.done → ⊥
  not_before q later o h =
      let cost = exact_below after p.done p.spent same_before o.done h in
      undecided_cost bound o.spent (after (suc o.done)) cost.0 cost.1 o.undecided

  not_here : (q : ℕ) (later : Micros) (o : IsOpen limits after bound n q later) → o.done ≡ p.done → ⊥
  not_here q later o e =
      let same : Some o.spent ≡ Some p.spent = sym o.passed.sum ∙ ap (exact_sum after) e ∙ same_before in
      let equal : o.spent ≡ p.spent = cc in
      let at : suc o.done ≡ place = ap suc e ∙ sym p.place_is in
      let first = subst (λ i. IsUndecided bound o.spent (after i)) at o.undecided in
      let second = subst (λ s. IsUndecided bound s (after place)) equal first in
      let third = subst (λ k. IsUndecided bound p.spent k) here second in
      let fourth = subst (λ c. IsUndecided bound p.spent (lesson limits (known place) c a).known) p.cutoff_is third in
      let before = subst (λ i. IsUndecided bound p.spent (known i)) (sym p.place_is) p.undecided in
      decided limits bound p.spent (known place) a before fourth

  later_place : (q : ℕ) (later : Micros) → IsOpen limits after bound n q later → place < q
  later_place q later o =
      let at = p.place_is in
      let next = o.place_is in
      elim (cases_order o.done p.done) as (λ _. place < q) [
        | inl same ↦ absurd (not_here q later o same)
        | inr (inl less) ↦ absurd (not_before q later o less)
        | inr (inr more) ↦ omega (arith, at, next, more)
      ]

  pub needs_later : (v : Verdict) → IsEnd limits after bound n v → NeedsLater place v
  needs_later (verdict.Reply r) e = tt
  needs_later (verdict.Need q later) e = later_place q later e
  needs_later (verdict.Aborted q) e = tt
  needs_later verdict.Ended e = tt

-- ---- what is known after the run

module _ (limits : Bounds) (known : Knowledge) (θ : Settings) (place cutoff : ℕ) (a : Answer) where
  -- of the run's cell its lesson is known
  pub after_run-here : after_run limits known (record { config = θ; place = place }) cutoff a θ place ≡ (lesson limits (known θ place) cutoff a).known
  after_run-here =
      let same = (bytes_eq-Decides θ θ).1 refl in
      let at = eq-eqb place place refl in
      cond-true (bytes_eq θ θ && (place == place)) _ _ (and_from _ _ same at)

  -- of another place the same as before
  pub after_run-other : (i : ℕ) → i ≢ place → after_run limits known (record { config = θ; place = place }) cutoff a θ i ≡ known θ i
  after_run-other i h = cond-false (bytes_eq θ θ && (place == i)) _ _ (and_right _ _ (ne_eqb place i (λ e. h (sym e))))
