-- What becomes of a verdict once the answer of a run of another cell is learnt.
use Rattle.std.specs.Prelude.{ℕ, zero, suc, ◌+◌, ◌≡◌, ◌==◌, ◌&&◌, ◌⊎◌, Bool, true, false, List, Option, Some, None, IfSome, bytes_eq, nat_lt, refl, if◌then◌else◌}
use Rattle.std.proofs.Common.{sym, ap, ◌∙◌, subst, inl, inr}
use Rattle.std.proofs.lemmas.Bool.{cases_Bool, eqb-true}
use Rattle.std.proofs.lemmas.Slice.Eq.{bytes_eq-Decides}
use Rattle.objective.specs.Bounds.{Bounds}
use Rattle.objective.specs.declared.Answer.{Answer}
use Rattle.objective.specs.declared.Answer.TheVariants as answer
use Rattle.objective.specs.declared.Micros.{Micros}
use Rattle.objective.specs.declared.Sum.{Sum}
use Rattle.ils_face.specs.declared.asks.Ask.{Ask}
use Rattle.ils_face.specs.declared.asks.Ask.TheVariants.{Full, Versus, End}
use Rattle.ils_face.specs.declared.asks.Reply.TheVariants as reply
use Rattle.ils_face.specs.Traces.{question_of}
use Rattle.run_cache.specs.declared.cell.Cell.{Cell}
use Rattle.run_cache.specs.declared.known.Known.{Known}
use Rattle.run_cache.specs.declared.known.Known.TheVariants.{Nothing, Over, Exact, Abort}
use Rattle.run_cache.specs.Learning.{lesson}
use Rattle.run_cache.specs.Caches.{Knowledge, is_at}
use Rattle.capping.specs.declared.verdicts.Verdict.{Verdict}
use Rattle.capping.specs.declared.verdicts.Verdict.TheVariants.{Reply, Need, Aborted}
use Rattle.capping.specs.Verdicts.{is_past, leads_past, cutoff_left, verdict_at, verdict_from, verdict_of}
use Rattle.capping.specs.Decisions.{after_run}

-- ---- what is known of a cell, before and after

-- a cost that is known stays, and so does an abort
abbrev pub IsKept : Known → Known → Type 0
IsKept Nothing after = Unit {0}
IsKept (Over time) after = Unit {0}
IsKept (Exact cost) after = after ≡ Exact cost
IsKept Abort after = after ≡ Abort

-- what isn't changed is kept
kept-same : (k : Known) → IsKept k k
kept-same Nothing = tt
kept-same (Over time) = tt
kept-same (Exact cost) = refl
kept-same Abort = refl

-- a lesson keeps a cost
cost-kept : (limits : Bounds) (x : Sum) (cutoff : ℕ) (a : Answer) → (lesson limits (Exact x) cutoff a).known ≡ Exact x
cost-kept limits x cutoff (answer.Solved t) = refl
cost-kept limits x cutoff answer.Timeout = by (cases_Bool (nat_lt cutoff limits.cutoff))
  where
    by : (nat_lt cutoff limits.cutoff ≡ true) ⊎ (nat_lt cutoff limits.cutoff ≡ false) → (lesson limits (Exact x) cutoff answer.Timeout).known ≡ Exact x
    by (inl short) = rw short refl
    by (inr full) = rw full refl
cost-kept limits x cutoff answer.Crashed = refl
cost-kept limits x cutoff answer.Abort = refl

-- a lesson keeps an abort
abort-kept : (limits : Bounds) (cutoff : ℕ) (a : Answer) → (lesson limits Abort cutoff a).known ≡ Abort
abort-kept limits cutoff (answer.Solved t) = refl
abort-kept limits cutoff answer.Timeout = by (cases_Bool (nat_lt cutoff limits.cutoff))
  where
    by : (nat_lt cutoff limits.cutoff ≡ true) ⊎ (nat_lt cutoff limits.cutoff ≡ false) → (lesson limits Abort cutoff answer.Timeout).known ≡ Abort
    by (inl short) = rw short refl
    by (inr full) = rw full refl
abort-kept limits cutoff answer.Crashed = refl
abort-kept limits cutoff answer.Abort = refl

-- a lesson keeps a cost and an abort
pub lesson-kept : (limits : Bounds) (k : Known) (cutoff : ℕ) (a : Answer) → IsKept k (lesson limits k cutoff a).known
lesson-kept limits Nothing cutoff a = tt
lesson-kept limits (Over time) cutoff a = tt
lesson-kept limits (Exact x) cutoff a = cost-kept limits x cutoff a
lesson-kept limits Abort cutoff a = abort-kept limits cutoff a

-- after a run of a cell, costs and aborts are kept at every place
pub run-kept : (limits : Bounds) (known : Knowledge) (cell : Cell) (cutoff : ℕ) (a : Answer) (config : List ℕ) (place : ℕ)
    → IsKept (known config place) (after_run limits known cell cutoff a config place)
run-kept limits known cell cutoff a config place = at (bytes_eq cell.config config) (cell.place == place) refl refl
  where
    learnt : Known
    learnt = (lesson limits (known cell.config cell.place) cutoff a).known

    at : (c p : Bool) → bytes_eq cell.config config ≡ c → (cell.place == place) ≡ p
        → IsKept (known config place) (if c && p then learnt else known config place)
    at false p same_config same_place = kept-same (known config place)
    at true false same_config same_place = kept-same (known config place)
    at true true same_config same_place =
        subst (λ θ. IsKept (known θ place) learnt) ((bytes_eq-Decides cell.config config).0 same_config)
        (subst (λ i. IsKept (known cell.config i) learnt) (eqb-true cell.place place same_place) (lesson-kept limits (known cell.config cell.place) cutoff a))

-- of a cell at another place than this the same is known
pub run-aside : (limits : Bounds) (known : Knowledge) (cell : Cell) (cutoff : ℕ) (a : Answer) (config : List ℕ) (place : ℕ)
    → is_at cell config place ≡ false → after_run limits known cell cutoff a config place ≡ known config place
run-aside limits known cell cutoff a config place other =
    ap (λ here. if here then (lesson limits (known cell.config cell.place) cutoff a).known else known config place) other

-- ---- the walk

module _ (limits : Bounds) (bound : Option ℕ) where
  -- where a place decides nothing, it is the one that the verdict needs
  need-place : (place spent p : ℕ) (cutoff : Micros) (led : Bool)
      → (if led then Reply reply.Exceeds else Need place (record { 0 = cutoff_left limits bound spent })) ≡ Need p cutoff → place ≡ p
  need-place place spent p cutoff true e = absurd (cc)
  need-place place spent p cutoff false e = cc

  -- a place that isn't known as an abort is none that a walk comes to
  no-abort : (place spent p : ℕ) (led : Bool)
      → (if led then Reply reply.Exceeds else Need place (record { 0 = cutoff_left limits bound spent })) ≡ Aborted p → ⊥
  no-abort place spent p true e = absurd (cc)
  no-abort place spent p false e = absurd (cc)

  -- a run that is needed at a place or after it is needed still
  need-here : (place spent p : ℕ) (cutoff : Micros) (before later : ℕ → Verdict) (k after : Known)
      → ((sum : ℕ) → before sum ≡ Need p cutoff → later sum ≡ Need p cutoff) → (place ≡ p → after ≡ k) → IsKept k after
      → verdict_at limits bound place spent before k ≡ Need p cutoff → verdict_at limits bound place spent later after ≡ Need p cutoff
  need-here place spent p cutoff before later Nothing after rest same kept e =
      ap (verdict_at limits bound place spent later) (same (need-place place spent p cutoff false e)) ∙ e
  need-here place spent p cutoff before later (Over time) after rest same kept e =
      ap (verdict_at limits bound place spent later) (same (need-place place spent p cutoff (leads_past bound spent time.0) e)) ∙ e
  need-here place spent p cutoff before later (Exact cost) after rest same kept e =
      ap (verdict_at limits bound place spent later) kept ∙ rest (spent + cost.0) e
  need-here place spent p cutoff before later Abort after rest same kept e = absurd (cc)

  -- an abort that a walk comes to at a place or after it is come to still
  abort-here : (place spent p : ℕ) (before later : ℕ → Verdict) (k after : Known)
      → ((sum : ℕ) → before sum ≡ Aborted p → later sum ≡ Aborted p) → IsKept k after
      → verdict_at limits bound place spent before k ≡ Aborted p → verdict_at limits bound place spent later after ≡ Aborted p
  abort-here place spent p before later Nothing after rest kept e = absurd (no-abort place spent p false e)
  abort-here place spent p before later (Over time) after rest kept e = absurd (no-abort place spent p (leads_past bound spent time.0) e)
  abort-here place spent p before later (Exact cost) after rest kept e =
      ap (verdict_at limits bound place spent later) kept ∙ rest (spent + cost.0) e
  abort-here place spent p before later Abort after rest kept e = ap (verdict_at limits bound place spent later) kept ∙ e

  module _ (known after : ℕ → Known) (kept : (i : ℕ) → IsKept (known i) (after i)) where
    -- the walk from a place on that needs a run
    need-next : (left place spent p : ℕ) (cutoff : Micros) (past : Bool) → after p ≡ known p
        → ((sum : ℕ) → verdict_from limits known bound left (suc place) sum ≡ Need p cutoff → verdict_from limits after bound left (suc place) sum ≡ Need p cutoff)
        → (if past then Reply reply.Exceeds else verdict_at limits bound place spent (verdict_from limits known bound left (suc place)) (known place)) ≡ Need p cutoff
        → (if past then Reply reply.Exceeds else verdict_at limits bound place spent (verdict_from limits after bound left (suc place)) (after place)) ≡ Need p cutoff
    need-next left place spent p cutoff true same rest e = e
    need-next left place spent p cutoff false same rest e =
        let here : place ≡ p → after place ≡ known place = λ at. ap after at ∙ same ∙ ap known (sym at) in
        need-here place spent p cutoff (verdict_from limits known bound left (suc place)) (verdict_from limits after bound left (suc place))
        (known place) (after place) rest here (kept place) e

    -- a walk that needs a run needs it still, where the same is known of the place
    need-walk : (left place spent p : ℕ) (cutoff : Micros) → after p ≡ known p
        → verdict_from limits known bound left place spent ≡ Need p cutoff → verdict_from limits after bound left place spent ≡ Need p cutoff
    need-walk zero place spent p cutoff same e = e
    need-walk (suc left) place spent p cutoff same e =
        need-next left place spent p cutoff (is_past bound spent) same (λ sum f. need-walk left (suc place) sum p cutoff same f) e

    -- the walk from a place on that comes to an abort
    abort-next : (left place spent p : ℕ) (past : Bool)
        → ((sum : ℕ) → verdict_from limits known bound left (suc place) sum ≡ Aborted p → verdict_from limits after bound left (suc place) sum ≡ Aborted p)
        → (if past then Reply reply.Exceeds else verdict_at limits bound place spent (verdict_from limits known bound left (suc place)) (known place)) ≡ Aborted p
        → (if past then Reply reply.Exceeds else verdict_at limits bound place spent (verdict_from limits after bound left (suc place)) (after place)) ≡ Aborted p
    abort-next left place spent p true rest e = e
    abort-next left place spent p false rest e =
        abort-here place spent p (verdict_from limits known bound left (suc place)) (verdict_from limits after bound left (suc place))
        (known place) (after place) rest (kept place) e

    -- a walk that comes to an abort comes to it still
    abort-walk : (left place spent p : ℕ)
        → verdict_from limits known bound left place spent ≡ Aborted p → verdict_from limits after bound left place spent ≡ Aborted p
    abort-walk zero place spent p e = e
    abort-walk (suc left) place spent p e =
        abort-next left place spent p (is_past bound spent) (λ sum f. abort-walk left (suc place) sum p f) e

-- ---- the verdict on an ask

module _ (limits : Bounds) (known : Knowledge) (cell : Cell) (cutoff : ℕ) (a : Answer) where
  -- a run that the ask needs is needed still, once one of another cell is learnt
  pub need-stays : (ask : Ask) (place : ℕ) (due : Micros) → IfSome (question_of ask) (λ q. is_at cell q.config place ≡ false)
      → verdict_of limits known ask ≡ Need place due → verdict_of limits (after_run limits known cell cutoff a) ask ≡ Need place due
  need-stays (Full θ n) place due other e =
      need-walk limits None (known θ) (after_run limits known cell cutoff a θ) (run-kept limits known cell cutoff a θ) n 1 0 place due
      (run-aside limits known cell cutoff a θ place other) e
  need-stays (Versus θ n bound) place due other e =
      need-walk limits (Some bound.0) (known θ) (after_run limits known cell cutoff a θ) (run-kept limits known cell cutoff a θ) n 1 0 place due
      (run-aside limits known cell cutoff a θ place other) e
  need-stays End place due other e = e

  -- an abort that the walk of the ask comes to is come to still, whichever run is learnt
  pub abort-stays : (ask : Ask) (place : ℕ) → verdict_of limits known ask ≡ Aborted place
      → verdict_of limits (after_run limits known cell cutoff a) ask ≡ Aborted place
  abort-stays (Full θ n) place e =
      abort-walk limits None (known θ) (after_run limits known cell cutoff a θ) (run-kept limits known cell cutoff a θ) n 1 0 place e
  abort-stays (Versus θ n bound) place e =
      abort-walk limits (Some bound.0) (known θ) (after_run limits known cell cutoff a θ) (run-kept limits known cell cutoff a θ) n 1 0 place e
  abort-stays End place e = e
