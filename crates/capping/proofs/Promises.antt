-- What a decision promises, from its value.
use Rattle.std.specs.Prelude.{ℕ, zero, suc, ◌*◌, ◌≤◌, ◌≡◌, Option, Some, None, IsSomeAnd, IfSome, refl}
use Rattle.std.proofs.Common.{sym, subst, arith, inl, inr}
use Rattle.objective.specs.Bounds.{Bounds, AreInRange}
use Rattle.objective.specs.Costs.{Table}
use Rattle.objective.specs.Limits.{max_cutoff}
use Rattle.objective.specs.declared.Answer.{Answer}
use Rattle.objective.specs.declared.Sum.{Sum}
use Rattle.uncapped.specs.Procedure.{Settings, Question}
use Rattle.uncapped.specs.Totals.{total_cost, quiet}
use Rattle.ils_face.specs.declared.asks.Ask.{Ask}
use Rattle.ils_face.specs.declared.asks.Ask.TheVariants.{Full, Versus, End}
use Rattle.ils_face.specs.declared.asks.Reply.TheVariants as reply
use Rattle.ils_face.specs.Replies.{Fits, ask_of}
use Rattle.ils_face.specs.Traces.{question_of, IsReplyBy}
use Rattle.run_cache.specs.declared.known.Known.{Known}
use Rattle.run_cache.specs.declared.known.Known.TheVariants.{Nothing, Over, Exact, Abort}
use Rattle.run_cache.specs.Knowledge.{Agrees, IsInRange}
use Rattle.run_cache.specs.Caches.{Knowledge, Cached, AgreesWith, known_in}
use Rattle.run_cache.proofs.Ranges.{low_in_range}
use Rattle.capping.specs.declared.verdicts.Verdict.{Verdict}
use Rattle.capping.specs.declared.verdicts.Verdict.TheVariants as verdict
use Rattle.capping.specs.Verdicts.{verdict_from, verdict_of}
use Rattle.capping.specs.Decisions.{question, place_count, IfReply, IfNeedOf, IfAbortedOf, OnEnded, IsAtMost, IsNeeded, IsDueAt, IsKnownAbort, IsFirstAbort, GoesOn, AreRanged, NeedsLater, after_run}
use Rattle.capping.specs.ExactSums.{exact_cost, exact_sum}
use Rattle.capping.proofs.ExactSums.{parts_of}
use Rattle.capping.proofs.WalkEnds.{IsEnd, walk_end}
use Rattle.capping.proofs.RepliedCosts.{fitting, replied}
use Rattle.capping.proofs.NeededRuns.{needed, due}
use Rattle.capping.proofs.WalkAborts.{known_abort, first_abort}
use Rattle.capping.proofs.LearntAnswers.{needs_later, after_run-here, after_run-other}

-- ---- the sum that is replied

-- a known cost is at most a thousand of the greatest cutoffs
cost_most : (limits : Bounds) (k : Known) (x : ℕ) → AreInRange limits.cutoff limits.floor → IsInRange limits k → exact_cost k ≡ Some x
    → x ≤ 1000 * max_cutoff
cost_most limits Nothing x r h e = absurd (cc)
cost_most limits (Over time) x r h e = absurd (cc)
cost_most limits (Exact cost) x r h e =
    let same : cost.0 ≡ x = cc in
    let most = low_in_range limits (Exact cost) r h in
    omega (arith, same, most)
cost_most limits Abort x r h e = absurd (cc)

-- so is their sum, for each place
sum_most : (limits : Bounds) (known : ℕ → Known) → AreInRange limits.cutoff limits.floor → ((i : ℕ) → IsInRange limits (known i))
    → (n sum : ℕ) → exact_sum known n ≡ Some sum → sum ≤ n * (1000 * max_cutoff)
sum_most limits known r h zero sum e = let none : 0 ≡ sum = cc in omega (arith, none)
sum_most limits known r h (suc n) sum e =
    let parts = parts_of (exact_sum known n) (exact_cost (known (suc n))) sum e in
    let before = sum_most limits known r h n parts.left parts.left_is in
    let here = cost_most limits (known (suc n)) parts.right r (h (suc n)) parts.right_is in
    let whole = parts.sum_is in
    omega (arith, before, here, whole)

-- ---- a walk over the places of a question

module _ (limits : Bounds) (known : Knowledge) (θ : Settings) (n : ℕ) (bound : Option ℕ) where
  -- how the whole walk ends
  whole_end : IsEnd limits (known θ) bound n (verdict_from limits (known θ) bound n 1 0)
  whole_end = walk_end limits (known θ) bound n n 0 0 (omega arith) refl

  fits_by : (v : Verdict) → IsEnd limits (known θ) bound n v → IfReply v (Fits (ask_of θ n bound))
  fits_by (verdict.Reply r) e = fitting limits (known θ) θ n bound r e
  fits_by (verdict.Need place cutoff) e = tt
  fits_by (verdict.Aborted place) e = tt
  fits_by verdict.Ended e = tt

  bound_by : AreRanged limits known (question θ n bound) → (v : Verdict) → IsEnd limits (known θ) bound n v
      → IfReply v (IsAtMost (n * (1000 * max_cutoff)))
  bound_by r (verdict.Reply (reply.Exact sum)) e = sum_most limits (known θ) r.bounds r.places n sum.0 e.sum
  bound_by r (verdict.Reply reply.Exceeds) e = tt
  bound_by r (verdict.Need place cutoff) e = tt
  bound_by r (verdict.Aborted place) e = tt
  bound_by r verdict.Ended e = tt

-- the ask is of this question
module _ (limits : Bounds) (known : Knowledge) (θ : Settings) (n : ℕ) (bound : Option ℕ)
    (ask : Ask) (asked : question_of ask ≡ Some (question θ n bound)) where
  of_ask : (P : Question → Type 0) → P (question θ n bound) → IsSomeAnd (question_of ask) P
  of_ask P h = subst (λ o. IsSomeAnd o P) (sym asked) h

  need_by : AreRanged limits known (question θ n bound) → (v : Verdict) → IsEnd limits (known θ) bound n v
      → IfNeedOf v ask (IsNeeded limits known)
  need_by r (verdict.Reply x) e = tt
  need_by r (verdict.Need place cutoff) e =
      of_ask (IsNeeded limits known place cutoff.0) (needed limits known θ bound n place cutoff r.bounds r.places e)
  need_by r (verdict.Aborted place) e = tt
  need_by r verdict.Ended e = tt

  -- the same walk after the run that is needed
  goes_on_by : ((other : Knowledge) → verdict_of limits other ask ≡ verdict_from limits (other θ) bound n 1 0)
      → (v : Verdict) → IsEnd limits (known θ) bound n v → IfNeedOf v ask (GoesOn limits known ask)
  goes_on_by value (verdict.Reply r) e = tt
  goes_on_by value (verdict.Need place cutoff) e = of_ask (GoesOn limits known ask place cutoff.0) (record { later = later })
    where
      later : (a : Answer) → NeedsLater place (verdict_of limits (after_run limits known (record { config = θ; place = place }) cutoff.0 a) ask)
      later a = subst (NeedsLater place) (sym (value (after_run limits known (record { config = θ; place = place }) cutoff.0 a)))
          (needs_later limits (known θ) (after_run limits known (record { config = θ; place = place }) cutoff.0 a θ) bound n place cutoff a e
          (after_run-other limits known θ place cutoff.0 a) (after_run-here limits known θ place cutoff.0 a) _
          (whole_end limits (after_run limits known (record { config = θ; place = place }) cutoff.0 a) θ n bound))
  goes_on_by value (verdict.Aborted place) e = tt
  goes_on_by value verdict.Ended e = tt

  found_by : (v : Verdict) → IsEnd limits (known θ) bound n v → IfAbortedOf v ask (IsKnownAbort known)
  found_by (verdict.Reply r) e = tt
  found_by (verdict.Need place cutoff) e = tt
  found_by (verdict.Aborted place) e = of_ask (IsKnownAbort known place) (known_abort known θ bound n place e)
  found_by verdict.Ended e = tt

  ended_by : (v : Verdict) → IsEnd limits (known θ) bound n v → OnEnded v (ask ≡ End)
  ended_by (verdict.Reply r) e = tt
  ended_by (verdict.Need place cutoff) e = tt
  ended_by (verdict.Aborted place) e = tt
  ended_by verdict.Ended e = absurd e

  module _ (T : Table) (agrees : (i : ℕ) → Agrees limits (known θ i) (T θ i)) where
    reply_by : (v : Verdict) → IsEnd limits (known θ) bound n v
        → IfReply v (λ r. IsSomeAnd (question_of ask) (IsReplyBy (total_cost limits (quiet T)) r))
    reply_by (verdict.Reply r) e = of_ask (IsReplyBy (total_cost limits (quiet T)) r) (replied limits T θ (known θ) agrees n bound r e)
    reply_by (verdict.Need place cutoff) e = tt
    reply_by (verdict.Aborted place) e = tt
    reply_by verdict.Ended e = tt

    due_by : (v : Verdict) → IsEnd limits (known θ) bound n v → IfNeedOf v ask (IsDueAt limits T)
    due_by (verdict.Reply r) e = tt
    due_by (verdict.Need place cutoff) e =
        of_ask (IsDueAt limits T place cutoff.0) (record { due = due limits T θ (known θ) agrees bound n place cutoff e })
    due_by (verdict.Aborted place) e = tt
    due_by verdict.Ended e = tt

    aborted_by : (v : Verdict) → IsEnd limits (known θ) bound n v → IfAbortedOf v ask (IsFirstAbort limits T)
    aborted_by (verdict.Reply r) e = tt
    aborted_by (verdict.Need place cutoff) e = tt
    aborted_by (verdict.Aborted place) e =
        of_ask (IsFirstAbort limits T place) (first_abort limits T θ (known θ) agrees bound n place e)
    aborted_by verdict.Ended e = tt

-- ---- the promises, by the ask

module _ (limits : Bounds) (known : Knowledge) where
  full_end : (θ : Settings) (n : ℕ) → IsEnd limits (known θ) None n (verdict_of limits known (Full θ n))
  full_end θ n = whole_end limits known θ n None

  versus_end : (θ : Settings) (n : ℕ) (bound : Sum) → IsEnd limits (known θ) (Some bound.0) n (verdict_of limits known (Versus θ n bound))
  versus_end θ n bound = whole_end limits known θ n (Some bound.0)

  -- a reply fits
  pub fits : (ask : Ask) → IfReply (verdict_of limits known ask) (Fits ask)
  fits (Full θ n) = fits_by limits known θ n None _ (full_end θ n)
  fits (Versus θ n bound) = fits_by limits known θ n (Some bound.0) _ (versus_end θ n bound)
  fits End = tt

  -- a sum that is replied is within its range
  pub bounded : (ask : Ask) → IfSome (question_of ask) (AreRanged limits known)
      → IfReply (verdict_of limits known ask) (IsAtMost (place_count ask * (1000 * max_cutoff)))
  bounded (Full θ n) r = bound_by limits known θ n None r _ (full_end θ n)
  bounded (Versus θ n bound) r = bound_by limits known θ n (Some bound.0) r _ (versus_end θ n bound)
  bounded End r = tt

  -- a run that is needed
  pub needs : (ask : Ask) → IfSome (question_of ask) (AreRanged limits known) → IfNeedOf (verdict_of limits known ask) ask (IsNeeded limits known)
  needs (Full θ n) r = need_by limits known θ n None (Full θ n) refl r _ (full_end θ n)
  needs (Versus θ n bound) r = need_by limits known θ n (Some bound.0) (Versus θ n bound) refl r _ (versus_end θ n bound)
  needs End r = tt

  -- once its answer is learnt, none is needed there again
  pub goes_on : (ask : Ask) → IfNeedOf (verdict_of limits known ask) ask (GoesOn limits known ask)
  goes_on (Full θ n) = goes_on_by limits known θ n None (Full θ n) refl (λ other. refl) _ (full_end θ n)
  goes_on (Versus θ n bound) = goes_on_by limits known θ n (Some bound.0) (Versus θ n bound) refl (λ other. refl) _ (versus_end θ n bound)
  goes_on End = tt

  -- a run that is known to abort
  pub found : (ask : Ask) → IfAbortedOf (verdict_of limits known ask) ask (IsKnownAbort known)
  found (Full θ n) = found_by limits known θ n None (Full θ n) refl _ (full_end θ n)
  found (Versus θ n bound) = found_by limits known θ n (Some bound.0) (Versus θ n bound) refl _ (versus_end θ n bound)
  found End = tt

  -- the search has ended only where nothing is asked for
  pub ended : (ask : Ask) → OnEnded (verdict_of limits known ask) (ask ≡ End)
  ended (Full θ n) = ended_by limits known θ n None (Full θ n) refl _ (full_end θ n)
  ended (Versus θ n bound) = ended_by limits known θ n (Some bound.0) (Versus θ n bound) refl _ (versus_end θ n bound)
  ended End = refl

-- ---- for every table with which a cache agrees

module _ (c : Cached) (T : Table) (a : AgreesWith T c) where
  -- a reply is that of the total costs
  pub replies : (ask : Ask)
      → IfReply (verdict_of c.limits (known_in c) ask) (λ r. IsSomeAnd (question_of ask) (IsReplyBy (total_cost c.limits (quiet T)) r))
  replies (Full θ n) = reply_by c.limits (known_in c) θ n None (Full θ n) refl T (a.cells θ) _ (full_end c.limits (known_in c) θ n)
  replies (Versus θ n bound) = reply_by c.limits (known_in c) θ n (Some bound.0) (Versus θ n bound) refl T (a.cells θ) _ (versus_end c.limits (known_in c) θ n bound)
  replies End = tt

  -- the cutoff of a run that is needed is due
  pub is_due : (ask : Ask) → IfNeedOf (verdict_of c.limits (known_in c) ask) ask (IsDueAt c.limits T)
  is_due (Full θ n) = due_by c.limits (known_in c) θ n None (Full θ n) refl T (a.cells θ) _ (full_end c.limits (known_in c) θ n)
  is_due (Versus θ n bound) = due_by c.limits (known_in c) θ n (Some bound.0) (Versus θ n bound) refl T (a.cells θ) _ (versus_end c.limits (known_in c) θ n bound)
  is_due End = tt

  -- a run that aborts is due, and none before it aborts
  pub aborts : (ask : Ask) → IfAbortedOf (verdict_of c.limits (known_in c) ask) ask (IsFirstAbort c.limits T)
  aborts (Full θ n) = aborted_by c.limits (known_in c) θ n None (Full θ n) refl T (a.cells θ) _ (full_end c.limits (known_in c) θ n)
  aborts (Versus θ n bound) = aborted_by c.limits (known_in c) θ n (Some bound.0) (Versus θ n bound) refl T (a.cells θ) _ (versus_end c.limits (known_in c) θ n bound)
  aborts End = tt
