-- Sums of the costs that are known exactly, and the total costs of the tables with which they agree.
use Rattle.std.specs.Prelude.{ℕ, zero, suc, ◌+◌, ◌*◌, ◌<◌, ◌≤◌, ◌≡◌, Bool, true, false, Option, Some, None, IsSome, nat_le, refl, if◌then◌else◌}
use Rattle.std.proofs.Common.{sym, ap, ◌∙◌, subst, inl, inr, arith}
use Rattle.std.proofs.lemmas.Bool.{cases_lt, leb-false}
use Rattle.objective.specs.Bounds.{Bounds}
use Rattle.objective.specs.Costs.{Table, seen, within, times, penalty, cost_of, cost_within}
use Rattle.objective.specs.declared.Factor.{Factor}
use Rattle.objective.specs.declared.Factor.TheVariants.{One, Ten, Thousand}
use Rattle.objective.specs.declared.Micros.{Micros}
use Rattle.objective.specs.declared.Outcome.{Outcome}
use Rattle.objective.specs.declared.Outcome.TheVariants as outcome
use Rattle.objective.specs.declared.Answer.TheVariants as answer
use Rattle.uncapped.specs.Procedure.{Settings}
use Rattle.uncapped.specs.Totals.{plus, total_cost, quiet, quiet_outcome}
use Rattle.ils_face.proofs.QuietTables.{quiet_total}
use Rattle.run_cache.specs.declared.known.Known.{Known}
use Rattle.run_cache.specs.declared.known.Known.TheVariants.{Nothing, Over, Exact, Abort}
use Rattle.run_cache.specs.Knowledge.{Agrees}
use Rattle.capping.specs.ExactSums.{exact_cost, exact_sum}

-- ---- sums of options

-- a sum that is known has parts that are known
pub record Parts (a b : Option ℕ) (sum : ℕ) : Type 0 where
  pub left : ℕ
  pub right : ℕ
  pub left_is : a ≡ Some left
  pub right_is : b ≡ Some right
  pub sum_is : sum ≡ left + right

pub parts_of : (a b : Option ℕ) (sum : ℕ) → plus a b ≡ Some sum → Parts a b sum
parts_of (Some x) (Some y) sum e = record { left = x; right = y; left_is = refl; right_is = refl; sum_is = cc }
parts_of (Some x) None sum e = absurd (cc)
parts_of None b sum e = absurd (cc)

-- the number that there is
pub some_of : (o : Option ℕ) → IsSome o → (x : ℕ) × (o ≡ Some x)
some_of (Some x) h = (x, refl)
some_of None h = absurd (cc)

-- the exact sum of one more place
pub exact_sum-more : (known : ℕ → Known) (n sum cost : ℕ) → exact_sum known n ≡ Some sum
    → exact_cost (known (suc n)) ≡ Some cost → exact_sum known (suc n) ≡ Some (sum + cost)
exact_sum-more known n sum cost e h = rw (e, h)

-- the cost at each place of an exact sum is known
pub exact_below : (known : ℕ → Known) (n sum : ℕ) → exact_sum known n ≡ Some sum
    → (i : ℕ) → i < n → (x : ℕ) × (exact_cost (known (suc i)) ≡ Some x)
exact_below known zero sum e i h = absurd (omega (arith, h))
exact_below known (suc n) sum e i h =
    let parts = parts_of (exact_sum known n) (exact_cost (known (suc n))) sum e in
    elim (cases_lt i n) as (λ _. (x : ℕ) × (exact_cost (known (suc i)) ≡ Some x)) [
      | inl below ↦ exact_below known n parts.left parts.left_is i below
      | inr last ↦
          let here : i ≡ n = omega (arith, h, last) in
          (parts.right, ap (λ i. exact_cost (known (suc i))) here ∙ parts.right_is)
    ]

-- the exact sum of places of which the same is known
pub exact_sum-same : (known other : ℕ → Known) (n : ℕ) → ((i : ℕ) → 1 ≤ i → i ≤ n → other i ≡ known i) → exact_sum other n ≡ exact_sum known n
exact_sum-same known other zero h = refl
exact_sum-same known other (suc n) h =
    let before = exact_sum-same known other n (λ i low high. h i low (omega (arith, high))) in
    let here = h (suc n) (omega arith) (omega arith) in
    ap (λ o. plus o (exact_cost (other (suc n)))) before ∙ ap (λ k. plus (exact_sum known n) (exact_cost k)) here

-- ---- total costs

-- the total cost of one more place
total_cost-more : (limits : Bounds) (T : Table) (θ : Settings) (n total cost : ℕ) → total_cost limits T θ n ≡ Some total
    → cost_of limits (T θ (suc n)) ≡ Some cost → total_cost limits T θ (suc n) ≡ Some (total + cost)
total_cost-more limits T θ n total cost e h = rw (e, h)

-- a total cost doesn't fall with further places
pub total_cost-rises : (limits : Bounds) (T : Table) (θ : Settings) (d n low high : ℕ) → d ≤ n
    → total_cost limits T θ d ≡ Some low → total_cost limits T θ n ≡ Some high → low ≤ high
total_cost-rises limits T θ d zero low high h e f =
    let none : d ≡ 0 = omega (arith, h) in
    let same : Some low ≡ Some high = sym e ∙ ap (total_cost limits T θ) none ∙ f in
    let equal : low ≡ high = cc in omega (arith, equal)
total_cost-rises limits T θ d (suc n) low high h e f =
    elim (cases_lt n d) as (λ _. low ≤ high) [
      | inl past ↦
          let here : d ≡ suc n = omega (arith, h, past) in
          let same : Some low ≡ Some high = sym e ∙ ap (total_cost limits T θ) here ∙ f in
          let equal : low ≡ high = cc in omega (arith, equal)
      | inr inside ↦
          let parts = parts_of (total_cost limits T θ n) (cost_of limits (T θ (suc n))) high f in
          let before = total_cost-rises limits T θ d n low parts.left inside e parts.left_is in
          let sum = parts.sum_is in
          omega (arith, before, sum)
    ]

-- a cost that is known exactly is the cost of an outcome with which this agrees
pub exact_agrees : (limits : Bounds) (k : Known) (o : Outcome) → Agrees limits k o
    → (x : ℕ) → exact_cost k ≡ Some x → cost_of limits o ≡ Some x
exact_agrees limits Nothing o h x e = absurd (cc)
exact_agrees limits (Over time) o h x e = absurd (cc)
exact_agrees limits (Exact cost) o h x e = h ∙ e
exact_agrees limits Abort o h x e = absurd (cc)

-- ---- costs of runs that were cut short

times_rises : (f : Factor) (k : ℕ) → k ≤ k * times f
times_rises One k = omega arith
times_rises Ten k = omega arith
times_rises Thousand k = omega arith

-- a run without a solution costs at least the full cutoff
pub penalty-low : (limits : Bounds) → limits.cutoff ≤ penalty limits
penalty-low limits = times_rises limits.factor limits.cutoff

module _ (limits : Bounds) (time : ℕ) (short : time < limits.cutoff) where
  unsolved_over : (x : ℕ) → Some (penalty limits) ≡ Some x → time < x
  unsolved_over x e =
      let low = penalty-low limits in
      let same : penalty limits ≡ x = cc in
      omega (arith, short, low, same)

  late : (t : Micros) (b : Bool) → nat_le t.0 time ≡ b → (if b then answer.Solved t else answer.Timeout) ≡ answer.Timeout → time < t.0
  late t true e h = absurd (cc)
  late t false e h = leb-false t.0 time e

  solved_over : (t : Micros) (b : Bool) → seen (if b then outcome.Solved t else outcome.Unsolved) time ≡ answer.Timeout
      → (x : ℕ) → cost_within limits (if b then outcome.Solved t else outcome.Unsolved) ≡ Some x → time < x
  solved_over t true h x e =
      let after : time < t.0 = late t (nat_le t.0 time) refl h in
      let same : t.0 ≡ x = cc in
      omega (arith, after, same)
  solved_over t false h x e = unsolved_over x e

  crashed_over : (t : Micros) (b : Bool) (x : ℕ) → cost_within limits (if b then outcome.Crashed t else outcome.Unsolved) ≡ Some x → time < x
  crashed_over t true x e = unsolved_over x e
  crashed_over t false x e = unsolved_over x e

  -- a run that a shorter cutoff ended costs more than that cutoff, an abort as unsolved
  pub over_cost : (o : Outcome) → seen (within o limits) time ≡ answer.Timeout
      → (x : ℕ) → cost_of limits (quiet_outcome o) ≡ Some x → time < x
  over_cost (outcome.Solved t) h x e = solved_over t (nat_le t.0 limits.cutoff) h x e
  over_cost outcome.Unsolved h x e = unsolved_over x e
  over_cost (outcome.Crashed t) h x e = crashed_over t (nat_le t.0 limits.cutoff) x e
  over_cost (outcome.Abort t) h x e = unsolved_over x e

-- ---- what is known, over a table with which it agrees

module _ (limits : Bounds) (T : Table) (θ : Settings) (known : ℕ → Known)
    (agrees : (i : ℕ) → Agrees limits (known i) (T θ i)) where
  -- an exact sum is the total cost
  pub exact_total : (n sum : ℕ) → exact_sum known n ≡ Some sum → total_cost limits T θ n ≡ Some sum
  exact_total zero sum e = e
  exact_total (suc n) sum e =
      let parts = parts_of (exact_sum known n) (exact_cost (known (suc n))) sum e in
      let before = exact_total n parts.left parts.left_is in
      let here = exact_agrees limits (known (suc n)) (T θ (suc n)) (agrees (suc n)) parts.right parts.right_is in
      total_cost-more limits T θ n parts.left parts.right before here ∙ ap (λ x. Some x) (sym parts.sum_is)

  -- also where each abort counts as unsolved
  pub exact_quiet_total : (n sum : ℕ) → exact_sum known n ≡ Some sum → total_cost limits (quiet T) θ n ≡ Some sum
  exact_quiet_total n sum e =
      let total = exact_total n sum e in
      let some : IsSome (total_cost limits T θ n) = rw total refl in
      quiet_total limits T θ n some ∙ total

  -- the total cost after a run that a shorter cutoff ended is greater than that cutoff and what was spent before
  pub over_total : (n spent : ℕ) (time : Micros) (total : ℕ) → exact_sum known n ≡ Some spent → known (suc n) ≡ Over time
      → total_cost limits (quiet T) θ (suc n) ≡ Some total → spent + time.0 < total
  over_total n spent time total e k h =
      let parts = parts_of (total_cost limits (quiet T) θ n) (cost_of limits (quiet T θ (suc n))) total h in
      let before = exact_quiet_total n spent e in
      let same : Some spent ≡ Some parts.left = sym before ∙ parts.left_is in
      let equal : spent ≡ parts.left = cc in
      let cut = subst (λ k. Agrees limits k (T θ (suc n))) k (agrees (suc n)) in
      let more = over_cost limits time.0 cut.below (T θ (suc n)) cut.shown parts.right parts.right_is in
      let sum = parts.sum_is in
      omega (arith, equal, more, sum)
