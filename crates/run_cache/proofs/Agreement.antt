-- Learning what an outcome shows: what is known goes on agreeing with it, and there is no conflict.
use Rattle.std.proofs.Common.{ℕ, ◌≡◌, ◌*◌, ◌<◌, ◌≤◌, max, Bool, true, false, not, Some, None, refl, sym, ap, subst, ◌∙◌, inl, inr, arith}
use Rattle.std.specs.Prelude.{◌≢◌, ◌==◌, nat_le, nat_lt, if◌then◌else◌}
use Rattle.std.proofs.lemmas.Bool.{cases_lt, leb-true, leb-false, lt-leb, ltb-true, ltb-false, le-leb, eq-eqb}
use Rattle.std.proofs.lemmas.Option.{same_Some, none-some}
use Rattle.objective.specs.Bounds.{Bounds}
use Rattle.objective.specs.Costs.{seen, within, cost_within, cost_of, penalty, times}
use Rattle.objective.specs.declared.Factor.{Factor}
use Rattle.objective.specs.declared.Factor.TheVariants.{One, Ten, Thousand}
use Rattle.objective.specs.declared.Micros.{Micros}
use Rattle.objective.specs.declared.Outcome.{Outcome}
use Rattle.objective.specs.declared.Outcome.TheVariants as outcome
use Rattle.objective.specs.declared.Answer.{Answer}
use Rattle.objective.specs.declared.Answer.TheVariants as answer
use Rattle.run_cache.specs.declared.known.Known.{Known}
use Rattle.run_cache.specs.declared.known.Known.TheVariants.{Nothing, Over, Exact, Abort}
use Rattle.run_cache.specs.declared.learning.Evidence.{Evidence}
use Rattle.run_cache.specs.declared.learning.Evidence.TheVariants as evidence
use Rattle.run_cache.specs.Knowledge.{Agrees, TakesLonger}
use Rattle.run_cache.specs.Learning.{evidence_of, lesson_from, lesson}
use Rattle.run_cache.specs.Caches.{IsCutoff}

-- the outcome is a solution after this time
record IsSolved (limits : Bounds) (t : Micros) (o : Outcome) : Type 0 where
  same : o ≡ outcome.Solved t
  in_time : t.0 ≤ limits.cutoff

-- the evidence is true of the outcome
abbrev Holds : Bounds → Evidence → Outcome → Type 0
Holds limits (evidence.Solved t) o = IsSolved limits t o
Holds limits (evidence.Longer c) o = TakesLonger limits c.0 o
Holds limits evidence.Unsolved o = cost_of limits o ≡ Some (penalty limits)
Holds limits evidence.Abort o = cost_of limits o ≡ None

-- what is known agrees with the outcome, and there was no conflict
pub record IsLearnt (limits : Bounds) (known : Known) (conflict : Bool) (o : Outcome) : Type 0 where
  pub agrees : Agrees limits known o
  pub no_conflict : conflict ≡ false

-- the penalty is at least the full cutoff
pub cutoff_at_most_penalty : (limits : Bounds) → limits.cutoff ≤ penalty limits
cutoff_at_most_penalty limits = by limits.factor limits.cutoff
  where
    by : (f : Factor) (k : ℕ) → k ≤ k * times f
    by One k = omega arith
    by Ten k = omega arith
    by Thousand k = omega arith

-- a crash costs the penalty, whenever it comes
crash_cost : (limits : Bounds) (t : Micros) (b : Bool) → cost_within limits (if b then outcome.Crashed t else outcome.Unsolved) ≡ Some (penalty limits)
crash_cost limits t true = refl
crash_cost limits t false = refl

solution_isnt_timeout : (t : Micros) → answer.Solved t ≡ answer.Timeout → ⊥
solution_isnt_timeout t e = absurd (cc)

-- a time that isn't seen is longer
later_than : (t : Micros) (shown : Answer) (cutoff : ℕ) (b : Bool) → nat_le t.0 cutoff ≡ b → shown ≢ answer.Timeout
    → (if b then shown else answer.Timeout) ≡ answer.Timeout → cutoff < t.0
later_than t shown cutoff true e apart h = absurd (apart h)
later_than t shown cutoff false e apart h = leb-false t.0 cutoff e

-- an outcome shows the same whether or not it is taken within the full cutoff
seen_within : (limits : Bounds) (cutoff : ℕ) (o : Outcome) → cutoff ≤ limits.cutoff → seen (within o limits) cutoff ≡ seen o cutoff
seen_within limits cutoff (outcome.Solved t) most = by (nat_le t.0 limits.cutoff) refl
  where
    by : (b : Bool) → nat_le t.0 limits.cutoff ≡ b → seen (if b then outcome.Solved t else outcome.Unsolved) cutoff ≡ seen (outcome.Solved t) cutoff
    by true e = refl
    by false e = sym (ap (λ b. if b then answer.Solved t else answer.Timeout) (lt-leb t.0 cutoff (omega (arith, leb-false t.0 limits.cutoff e))))
seen_within limits cutoff outcome.Unsolved most = refl
seen_within limits cutoff (outcome.Crashed t) most = by (nat_le t.0 limits.cutoff) refl
  where
    by : (b : Bool) → nat_le t.0 limits.cutoff ≡ b → seen (if b then outcome.Crashed t else outcome.Unsolved) cutoff ≡ seen (outcome.Crashed t) cutoff
    by true e = refl
    by false e = sym (ap (λ b. if b then answer.Crashed else answer.Timeout) (lt-leb t.0 cutoff (omega (arith, leb-false t.0 limits.cutoff e))))
seen_within limits cutoff (outcome.Abort t) most = by (nat_le t.0 limits.cutoff) refl
  where
    by : (b : Bool) → nat_le t.0 limits.cutoff ≡ b → seen (if b then outcome.Abort t else outcome.Unsolved) cutoff ≡ seen (outcome.Abort t) cutoff
    by true e = refl
    by false e = sym (ap (λ b. if b then answer.Abort else answer.Timeout) (lt-leb t.0 cutoff (omega (arith, leb-false t.0 limits.cutoff e))))

-- what isn't seen within the full cutoff costs the penalty
unseen_cost : (limits : Bounds) (o : Outcome) → seen o limits.cutoff ≡ answer.Timeout → cost_of limits o ≡ Some (penalty limits)
unseen_cost limits (outcome.Solved t) h = by (nat_le t.0 limits.cutoff) h
  where
    by : (b : Bool) → (if b then answer.Solved t else answer.Timeout) ≡ answer.Timeout
        → cost_within limits (if b then outcome.Solved t else outcome.Unsolved) ≡ Some (penalty limits)
    by true e = absurd (solution_isnt_timeout t e)
    by false e = refl
unseen_cost limits outcome.Unsolved h = refl
unseen_cost limits (outcome.Crashed t) h = crash_cost limits t (nat_le t.0 limits.cutoff)
unseen_cost limits (outcome.Abort t) h = by (nat_le t.0 limits.cutoff) h
  where
    by : (b : Bool) → (if b then answer.Abort else answer.Timeout) ≡ answer.Timeout
        → cost_within limits (if b then outcome.Abort t else outcome.Unsolved) ≡ Some (penalty limits)
    by true e = absurd (cc)
    by false e = refl

-- a timeout is true of an outcome that shows it
timeout_holds : (limits : Bounds) (cutoff : ℕ) (o : Outcome) → IsCutoff limits cutoff → seen o cutoff ≡ answer.Timeout
    → Holds limits (evidence_of limits cutoff answer.Timeout) o
timeout_holds limits cutoff o h shown = by (nat_lt cutoff limits.cutoff) refl
  where
    by : (b : Bool) → nat_lt cutoff limits.cutoff ≡ b
        → Holds limits (if b then evidence.Longer (record { 0 = cutoff }) else evidence.Unsolved) o
    by true e = record { below = ltb-true cutoff limits.cutoff e; shown = seen_within limits cutoff o h.at_most ∙ shown }
    by false e =
        let full : cutoff ≡ limits.cutoff = omega (arith, ltb-false cutoff limits.cutoff e, h.at_most) in
        unseen_cost limits o (subst (λ c. seen o c ≡ answer.Timeout) full shown)

-- what an outcome shows is true of it
evidence_holds : (limits : Bounds) (cutoff : ℕ) (o : Outcome) → IsCutoff limits cutoff → Holds limits (evidence_of limits cutoff (seen o cutoff)) o
evidence_holds limits cutoff (outcome.Solved t) h = by (nat_le t.0 cutoff) refl
  where
    by : (b : Bool) → nat_le t.0 cutoff ≡ b
        → Holds limits (evidence_of limits cutoff (if b then answer.Solved t else answer.Timeout)) (outcome.Solved t)
    by true e = record { same = refl; in_time = omega (arith, leb-true t.0 cutoff e, h.at_most) }
    by false e = timeout_holds limits cutoff (outcome.Solved t) h (ap (λ b. if b then answer.Solved t else answer.Timeout) e)
evidence_holds limits cutoff outcome.Unsolved h = timeout_holds limits cutoff outcome.Unsolved h refl
evidence_holds limits cutoff (outcome.Crashed t) h = by (nat_le t.0 cutoff) refl
  where
    by : (b : Bool) → nat_le t.0 cutoff ≡ b
        → Holds limits (evidence_of limits cutoff (if b then answer.Crashed else answer.Timeout)) (outcome.Crashed t)
    by true e = crash_cost limits t (nat_le t.0 limits.cutoff)
    by false e = timeout_holds limits cutoff (outcome.Crashed t) h (ap (λ b. if b then answer.Crashed else answer.Timeout) e)
evidence_holds limits cutoff (outcome.Abort t) h = by (nat_le t.0 cutoff) refl
  where
    by : (b : Bool) → nat_le t.0 cutoff ≡ b
        → Holds limits (evidence_of limits cutoff (if b then answer.Abort else answer.Timeout)) (outcome.Abort t)
    by true e = ap (λ b. cost_within limits (if b then outcome.Abort t else outcome.Unsolved)) (le-leb t.0 limits.cutoff (omega (arith, leb-true t.0 cutoff e, h.at_most)))
    by false e = timeout_holds limits cutoff (outcome.Abort t) h (ap (λ b. if b then answer.Abort else answer.Timeout) e)

-- a solution that a shortened run didn't come to see takes longer
solved_later : (limits : Bounds) (cutoff : ℕ) (t : Micros) (o : Outcome) → TakesLonger limits cutoff o → IsSolved limits t o → nat_le t.0 cutoff ≡ false
solved_later limits cutoff t o longer solved =
    let whole : within (outcome.Solved t) limits ≡ outcome.Solved t = ap (λ b. if b then outcome.Solved t else outcome.Unsolved) (le-leb t.0 limits.cutoff solved.in_time) in
    let shown : seen (outcome.Solved t) cutoff ≡ answer.Timeout = ap (λ w. seen w cutoff) (sym whole) ∙ ap (λ w. seen (within w limits) cutoff) (sym solved.same) ∙ longer.shown in
    lt-leb t.0 cutoff (later_than t (answer.Solved t) cutoff (nat_le t.0 cutoff) refl (solution_isnt_timeout t) shown)

-- what a shortened run didn't come to see costs more than its cutoff
costs_more : (limits : Bounds) (cutoff x : ℕ) (w : Outcome) → cutoff < limits.cutoff → seen w cutoff ≡ answer.Timeout → cost_within limits w ≡ Some x → cutoff < x
costs_more limits cutoff x (outcome.Solved t) below shown cost =
    let same : t.0 ≡ x = same_Some t.0 x cost in
    omega (arith, later_than t (answer.Solved t) cutoff (nat_le t.0 cutoff) refl (solution_isnt_timeout t) shown)
costs_more limits cutoff x outcome.Unsolved below shown cost =
    let same : penalty limits ≡ x = same_Some (penalty limits) x cost in omega (arith, cutoff_at_most_penalty limits)
costs_more limits cutoff x (outcome.Crashed t) below shown cost =
    let same : penalty limits ≡ x = same_Some (penalty limits) x cost in omega (arith, cutoff_at_most_penalty limits)
costs_more limits cutoff x (outcome.Abort t) below shown cost = absurd (cc)

-- of two shortened runs the longer one decides
longer_of_both : (limits : Bounds) (k c : ℕ) (o : Outcome) → TakesLonger limits k o → TakesLonger limits c o → TakesLonger limits (max k c) o
longer_of_both limits k c o first second =
    elim (cases_lt k c) as (λ _. TakesLonger limits (max k c) o) [
      | inl less ↦ (let greater : c ≡ max k c = omega arith in subst (λ m. TakesLonger limits m o) greater second)
      | inr more ↦ (let greater : k ≡ max k c = omega arith in subst (λ m. TakesLonger limits m o) greater first)
    ]

-- the cost of a solution in time
solution_cost : (limits : Bounds) (t : Micros) (o : Outcome) → IsSolved limits t o → cost_of limits o ≡ Some t.0
solution_cost limits t o solved =
    ap (cost_of limits) solved.same
    ∙ ap (λ b. cost_within limits (if b then outcome.Solved t else outcome.Unsolved)) (le-leb t.0 limits.cutoff solved.in_time)

-- two costs of one outcome
same_cost : (limits : Bounds) (o : Outcome) (x y : ℕ) → cost_of limits o ≡ Some x → cost_of limits o ≡ Some y → not (x == y) ≡ false
same_cost limits o x y first second = ap not (eq-eqb x y (same_Some x y (sym first ∙ second)))

-- an outcome with a cost doesn't abort
costly_or_abort : (limits : Bounds) (o : Outcome) (x : ℕ) → cost_of limits o ≡ Some x → cost_of limits o ≡ None → ⊥
costly_or_abort limits o x cost none = none-some x (sym none ∙ cost)

-- each line of the table of what is learnt, where both speak of one outcome
learns_line : (limits : Bounds) (known : Known) (e : Evidence) (o : Outcome) → Agrees limits known o → Holds limits e o
    → IsLearnt limits (lesson_from (penalty limits) known e).known (lesson_from (penalty limits) known e).conflict o
learns_line limits Nothing (evidence.Solved t) o agrees holds = record { agrees = solution_cost limits t o holds; no_conflict = refl }
learns_line limits Nothing (evidence.Longer c) o agrees holds = record { agrees = holds; no_conflict = refl }
learns_line limits Nothing evidence.Unsolved o agrees holds = record { agrees = holds; no_conflict = refl }
learns_line limits Nothing evidence.Abort o agrees holds = record { agrees = holds; no_conflict = refl }
learns_line limits (Over k) (evidence.Solved t) o agrees holds =
    record { agrees = solution_cost limits t o holds; no_conflict = solved_later limits k.0 t o agrees holds }
learns_line limits (Over k) (evidence.Longer c) o agrees holds = record { agrees = longer_of_both limits k.0 c.0 o agrees holds; no_conflict = refl }
learns_line limits (Over k) evidence.Unsolved o agrees holds = record { agrees = holds; no_conflict = refl }
learns_line limits (Over k) evidence.Abort o agrees holds = record { agrees = holds; no_conflict = refl }
learns_line limits (Exact x) (evidence.Solved t) o agrees holds =
    record { agrees = agrees; no_conflict = same_cost limits o t.0 x.0 (solution_cost limits t o holds) agrees }
learns_line limits (Exact x) (evidence.Longer c) o agrees holds =
    record { agrees = agrees; no_conflict = lt-leb x.0 c.0 (costs_more limits c.0 x.0 (within o limits) holds.below holds.shown agrees) }
learns_line limits (Exact x) evidence.Unsolved o agrees holds =
    record { agrees = agrees; no_conflict = same_cost limits o x.0 (penalty limits) agrees holds }
learns_line limits (Exact x) evidence.Abort o agrees holds = absurd (costly_or_abort limits o x.0 agrees holds)
learns_line limits Abort (evidence.Solved t) o agrees holds = absurd (costly_or_abort limits o t.0 (solution_cost limits t o holds) agrees)
learns_line limits Abort (evidence.Longer c) o agrees holds = record { agrees = agrees; no_conflict = refl }
learns_line limits Abort evidence.Unsolved o agrees holds = absurd (costly_or_abort limits o (penalty limits) holds agrees)
learns_line limits Abort evidence.Abort o agrees holds = record { agrees = agrees; no_conflict = refl }

-- what is known agrees with an outcome before a run and after it, and there is no conflict
pub learns : (limits : Bounds) (known : Known) (cutoff : ℕ) (shown : Answer) (o : Outcome) → IsCutoff limits cutoff → Agrees limits known o
    → shown ≡ seen o cutoff → IsLearnt limits (lesson limits known cutoff shown).known (lesson limits known cutoff shown).conflict o
learns limits known cutoff shown o h agrees same =
    let holds = subst (λ a. Holds limits (evidence_of limits cutoff a) o) (sym same) (evidence_holds limits cutoff o h) in
    learns_line limits known (evidence_of limits cutoff shown) o agrees holds
