-- Over a table in which each abort counts as unsolved the procedure is followed to its end.
use Rattle.std.specs.Prelude.{ℕ, zero, suc, ◌<◌, ◌≡◌, Bool, true, false, List, Option, Some, None, IsSome, IfSome, nat_le, map, take, length, slice_get, refl, if◌then◌else◌}
use Rattle.std.proofs.Common.{sym, ap, ◌∙◌, subst, inl, inr, arith, take_all}
use Rattle.std.proofs.lemmas.Bool.{cases_lt}
use Rattle.std.proofs.lemmas.Option.{slice_get_cases, slice_get_past}
use Rattle.objective.specs.Bounds.{Bounds}
use Rattle.objective.specs.Costs.{Table, cost_of, cost_within}
use Rattle.objective.specs.declared.Outcome.{Outcome}
use Rattle.objective.specs.declared.Outcome.TheVariants.{Solved, Unsolved, Crashed, Abort}
use Rattle.uncapped.specs.Procedure.{Settings, Sums, Question, End, Finished, Aborted}
use Rattle.uncapped.specs.Totals.{plus, total_cost, quiet_outcome, quiet}
use Rattle.uncapped.specs.Uncapped.{Run}
use Rattle.uncapped.proofs.KnownCosts.{all_known}
use Rattle.ils_face.specs.declared.asks.Reply.{Reply}
use Rattle.ils_face.specs.Replies.{ask_for, ask_at, cost_asked, replies_to, reply_to, reply_count}
use Rattle.ils_face.specs.Views.{View}
use Rattle.ils_face.specs.Follows.{Follows, StopsShort, answer_count, GoesThrough}

either_some : (limits : Bounds) (b : Bool) (o u : Outcome) → IsSome (cost_within limits o) → IsSome (cost_within limits u) → IsSome (cost_within limits (if b then o else u))
either_some limits true o u h k = h
either_some limits false o u h k = k

quiet_cost : (limits : Bounds) (o : Outcome) → IsSome (cost_of limits (quiet_outcome o))
quiet_cost limits (Solved t) = either_some limits (nat_le t.0 limits.cutoff) (Solved t) Unsolved refl refl
quiet_cost limits Unsolved = refl
quiet_cost limits (Crashed t) = either_some limits (nat_le t.0 limits.cutoff) (Crashed t) Unsolved refl refl
quiet_cost limits (Abort t) = refl

-- each total cost is known
pub all_quiet : (limits : Bounds) (T : Table) (θ : Settings) (n : ℕ) → IsSome (total_cost limits (quiet T) θ n)
all_quiet limits T = all_known limits (quiet T) (λ θ n. quiet_cost limits (T θ n))

-- a known cost isn't none
pub not_none : (o : Option ℕ) → IsSome o → o ≡ None → ⊥
not_none (Some x) h e = cc
not_none None h e = cc

quiet_at_abort : (limits : Bounds) (b : Bool) (o : Outcome) → cost_within limits o ≡ None
    → IsSome (cost_within limits (if b then o else Unsolved))
    → cost_within limits Unsolved ≡ cost_within limits (if b then o else Unsolved)
quiet_at_abort limits true o none h = absurd (not_none (cost_within limits o) h none)
quiet_at_abort limits false o none h = refl

quiet_same : (limits : Bounds) (o : Outcome) → IsSome (cost_of limits o)
    → cost_of limits (quiet_outcome o) ≡ cost_of limits o
quiet_same limits (Solved t) h = refl
quiet_same limits Unsolved h = refl
quiet_same limits (Crashed t) h = refl
quiet_same limits (Abort t) h = quiet_at_abort limits (nat_le t.0 limits.cutoff) (Abort t) refl h

plus_parts : (a b : Option ℕ) → IsSome (plus a b) → IsSome a × IsSome b
plus_parts (Some x) (Some y) h = (refl, refl)
plus_parts (Some x) None h = absurd (cc)
plus_parts None b h = absurd (cc)

-- a total cost that is known is the same where each abort counts as unsolved
pub quiet_total : (limits : Bounds) (T : Table) (θ : Settings) (n : ℕ) → IsSome (total_cost limits T θ n)
    → total_cost limits (quiet T) θ n ≡ total_cost limits T θ n
quiet_total limits T θ zero h = refl
quiet_total limits T θ (suc n) h =
    let parts = plus_parts (total_cost limits T θ n) (cost_of limits (T θ (suc n))) h in
    ap (λ a. plus a (cost_of limits (quiet T θ (suc n)))) (quiet_total limits T θ n parts.0)
    ∙ ap (plus (total_cost limits T θ n)) (quiet_same limits (T θ (suc n)) parts.1)

-- an ask of the run is there, and its cost isn't known
no_unknown : (sums : Sums) (asks : List Question) (k : ℕ) → ((θ : Settings) (n : ℕ) → IsSome (sums θ n)) → k < length asks → IfSome (slice_get asks k) (λ q. cost_asked sums q ≡ None) → ⊥
no_unknown sums asks k all h unknown =
    elim (slice_get_cases asks k).1 as (λ _. ⊥) [
      | inl inside ↦
          let q : Question = inside.0 in
          let P : Option Question → Type 0 = λ o. IfSome o (λ q. cost_asked sums q ≡ None) in
          let none : cost_asked sums q ≡ None = subst P inside.2 unknown in
          not_none (cost_asked sums q) (all q.config q.places) none
      | inr past ↦ absurd (let low = past.0 in omega (arith, low, h))
    ]

-- where all total costs are known the procedure isn't aborted
pub known_end : (shown : List Reply → View) (sums : Sums) (run : Run) → Follows shown sums run → ((θ : Settings) (n : ℕ) → IsSome (sums θ n)) → (e : End) → run.end ≡ e → run.end ≡ Finished
known_end shown sums run h all Finished e = e
known_end shown sums run h all Aborted e =
    let stops : StopsShort shown sums run = h.aborted e in
    absurd (no_unknown sums run.asks (answer_count run) all stops.unanswered stops.unknown)

-- a procedure that finished: after k replies ask k, or the end where there is none
ask_of_all : (shown : List Reply → View) (sums : Sums) (run : Run) → Follows shown sums run → run.end ≡ Finished → (k : ℕ) → (shown (replies_to sums run k)).ask ≡ ask_at run k
ask_of_all shown sums run h e k =
    let all : answer_count run ≡ length run.asks = ap (λ f. reply_count f (length run.asks)) e in
    elim (cases_lt (length run.asks) k) as (λ _. (shown (replies_to sums run k)).ask ≡ ask_at run k) [
      | inr inside ↦ h.asks k (omega (arith, all, inside))
      | inl past ↦
          let same : take k run.asks ≡ take (length run.asks) run.asks = take_all k run.asks (omega (arith, past)) ∙ sym (take_all (length run.asks) run.asks (omega arith)) in
          ap (λ asks. (shown (map (reply_to sums) asks)).ask) same
          ∙ h.asks (length run.asks) (omega (arith, all))
          ∙ ap ask_for (slice_get_past run.asks (length run.asks) (omega arith) ∙ sym (slice_get_past run.asks k (omega (arith, past))))
    ]

-- so does each search that follows it
pub quiet-through : (shown : List Reply → View) (limits : Bounds) (T : Table) (run : Run) → Follows shown (total_cost limits (quiet T)) run → GoesThrough shown (total_cost limits (quiet T)) run
quiet-through shown limits T run h =
    let e : run.end ≡ Finished = known_end shown (total_cost limits (quiet T)) run h (all_quiet limits T) run.end refl in
    record { finished = e; asks = ask_of_all shown (total_cost limits (quiet T)) run h e; end = h.finished e }
