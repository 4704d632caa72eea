-- The reply of a walk: it fits its ask, and it is that of the total cost of each table that agrees.
use Rattle.std.specs.Prelude.{ℕ, suc, ◌-◌, ◌<◌, ◌≤◌, ◌≡◌, ◌⊎◌, true, false, Option, Some, None, refl}
use Rattle.std.proofs.Common.{sym, ap, ◌∙◌, inl, inr, arith}
use Rattle.std.proofs.lemmas.Bool.{ltb-true, ltb-false, leb-true, le-leb, lt-leb}
use Rattle.objective.specs.Bounds.{Bounds}
use Rattle.objective.specs.Costs.{Table}
use Rattle.objective.specs.declared.Sum.{Sum}
use Rattle.uncapped.specs.Procedure.{Settings}
use Rattle.uncapped.specs.Totals.{total_cost, quiet}
use Rattle.uncapped.specs.Uncapped.{or_nothing}
use Rattle.ils_face.specs.declared.asks.Reply.{Reply}
use Rattle.ils_face.specs.declared.asks.Reply.TheVariants.{Exact, Exceeds}
use Rattle.ils_face.specs.Replies.{Fits, ask_of, reply_up_to}
use Rattle.ils_face.specs.Traces.{IsReplyBy}
use Rattle.ils_face.proofs.QuietTables.{all_quiet}
use Rattle.run_cache.specs.declared.known.Known.{Known}
use Rattle.run_cache.specs.Knowledge.{Agrees}
use Rattle.capping.specs.declared.verdicts.Verdict.TheVariants as verdict
use Rattle.capping.specs.Verdicts.{is_past}
use Rattle.capping.specs.Decisions.{question}
use Rattle.capping.proofs.ExactSums.{total_cost-rises, some_of, exact_quiet_total, over_total}
use Rattle.capping.proofs.WalkEnds.{IsPast, IsLedPast, IsEnd}

-- without a bound nothing is past it
unbounded : {P : Type 0} (known : ℕ → Known) (n : ℕ) → IsPast known None n ⊎ IsLedPast known None n → P
unbounded known n (inl p) = absurd (let e : false ≡ true = p.past in cc)
unbounded known n (inr p) = absurd (let e : false ≡ true = p.past in cc)

-- what isn't past a bound is at most the bound
at_most : (b spent : ℕ) → is_past (Some b) spent ≡ false → spent ≤ b
at_most b spent e = ltb-false b spent e

-- the reply of a walk fits its ask
pub fitting : (limits : Bounds) (known : ℕ → Known) (θ : Settings) (n : ℕ) (bound : Option ℕ) (r : Reply)
    → IsEnd limits known bound n (verdict.Reply r) → Fits (ask_of θ n bound) r
fitting limits known θ n None (Exact sum) p = tt
fitting limits known θ n None Exceeds p = unbounded known n p
fitting limits known θ n (Some b) (Exact sum) p = at_most b sum.0 p.low
fitting limits known θ n (Some b) Exceeds p = tt

-- the reply of a total cost that isn't past the bound is this cost
exact_reply : (sum : Sum) (bound : Option ℕ) → is_past bound sum.0 ≡ false → reply_up_to sum.0 bound ≡ Exact sum
exact_reply sum None e = refl
exact_reply sum (Some b) e = rw (le-leb sum.0 b (at_most b sum.0 e)) refl

-- the reply of a total cost that is past the bound
exceeding_reply : (total b : ℕ) → b < total → reply_up_to total (Some b) ≡ Exceeds
exceeding_reply total b h = rw (lt-leb total b h) refl

module _ (limits : Bounds) (T : Table) (θ : Settings) (known : ℕ → Known)
    (agrees : (i : ℕ) → Agrees limits (known i) (T θ i)) (n : ℕ) where
  -- where the costs at the first places come to more than the bound, the total cost does
  past_total : (b total : ℕ) → IsPast known (Some b) n → total_cost limits (quiet T) θ n ≡ Some total → b < total
  past_total b total p e =
      let before = exact_quiet_total limits T θ known agrees p.done p.spent p.sum in
      let rises = total_cost-rises limits (quiet T) θ p.done n p.spent total p.within before e in
      let more = ltb-true b p.spent p.past in
      omega (arith, rises, more)

  -- where a run that was cut short leads past the bound, the total cost is past it
  led_total : (b total : ℕ) → IsLedPast known (Some b) n → total_cost limits (quiet T) θ n ≡ Some total → b < total
  led_total b total p e =
      let here = some_of (total_cost limits (quiet T) θ (suc p.done)) (all_quiet limits T θ (suc p.done)) in
      let more = over_total limits T θ known agrees p.done p.spent p.time here.0 p.passed.sum p.over here.1 in
      let inside = p.inside in
      let rises = total_cost-rises limits (quiet T) θ (suc p.done) n here.0 total (omega (arith, inside)) here.1 e in
      let left = leb-true (b - p.spent) p.time.0 p.past in
      let low = at_most b p.spent p.passed.low in
      omega (arith, more, rises, left, low)

  exceeds : (b total : ℕ) → IsPast known (Some b) n ⊎ IsLedPast known (Some b) n → total_cost limits (quiet T) θ n ≡ Some total → b < total
  exceeds b total (inl p) e = past_total b total p e
  exceeds b total (inr p) e = led_total b total p e

  same_reply : (bound : Option ℕ) (r : Reply) → IsEnd limits known bound n (verdict.Reply r)
      → r ≡ reply_up_to (or_nothing (total_cost limits (quiet T) θ n)) bound
  same_reply bound (Exact sum) p =
      let total = exact_quiet_total limits T θ known agrees n sum.0 p.sum in
      sym (ap (λ o. reply_up_to (or_nothing o) bound) total ∙ exact_reply sum bound p.low)
  same_reply None Exceeds p = unbounded known n p
  same_reply (Some b) Exceeds p =
      let total = some_of (total_cost limits (quiet T) θ n) (all_quiet limits T θ n) in
      sym (ap (λ o. reply_up_to (or_nothing o) (Some b)) total.1 ∙ exceeding_reply total.0 b (exceeds b total.0 p total.1))

  -- the reply of a walk is that of the total cost, where each abort counts as unsolved
  pub replied : (bound : Option ℕ) (r : Reply) → IsEnd limits known bound n (verdict.Reply r)
      → IsReplyBy (total_cost limits (quiet T)) r (question θ n bound)
  replied bound r p = record { known = all_quiet limits T θ n; same = same_reply bound r p }
