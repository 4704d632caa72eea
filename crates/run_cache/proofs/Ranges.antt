-- What is known lies in its range, and a run settles its cell at its cutoff.
use Rattle.std.proofs.Common.{ℕ, zero, suc, ◌≡◌, ◌*◌, ◌≤◌, max, Bool, true, false, List, length, refl, sym, subst, inl, inr, arith}
use Rattle.std.specs.Prelude.{nat_lt, slice_index_or, if◌then◌else◌}
use Rattle.std.proofs.lemmas.Bool.{cases_lt, le-leb, leb-true}
use Rattle.std.proofs.lemmas.List.{get_or_past}
use Rattle.objective.specs.Bounds.{Bounds, AreInRange}
use Rattle.objective.specs.Costs.{IsWithin, penalty, times}
use Rattle.objective.specs.Limits.{max_cutoff}
use Rattle.objective.specs.declared.Factor.{Factor}
use Rattle.objective.specs.declared.Factor.TheVariants.{One, Ten, Thousand}
use Rattle.objective.specs.declared.Answer.{Answer}
use Rattle.objective.specs.declared.Answer.TheVariants as answer
use Rattle.run_cache.specs.declared.known.Known.{Known}
use Rattle.run_cache.specs.declared.known.Known.TheVariants.{Nothing, Over, Exact, Abort}
use Rattle.run_cache.specs.declared.learning.Evidence.{Evidence}
use Rattle.run_cache.specs.declared.learning.Evidence.TheVariants as evidence
use Rattle.run_cache.specs.Caches.{IsCutoff, IsRow, known_at}
use Rattle.run_cache.specs.Fronts.{IsLow}
use Rattle.run_cache.specs.Knowledge.{IsCost, IsInRange, IsShortened, is_settled}
use Rattle.run_cache.specs.Learning.{evidence_of, lesson_from, lesson}
use Rattle.run_cache.proofs.Agreement.{cutoff_at_most_penalty}

-- what a row knows at a place lies in its range
pub known_ranged : (limits : Bounds) (row : List Known) → IsRow limits row → (place : ℕ) → IsInRange limits (known_at row place)
known_ranged limits row all zero = tt
known_ranged limits row all (suc before) =
    elim (cases_lt before (length row)) as (λ _. IsInRange limits (slice_index_or row before Nothing)) [
      | inl inside ↦ all before Nothing inside
      | inr past ↦ subst (IsInRange limits) (sym (get_or_past row before Nothing past)) tt
    ]

-- no cost is greater than the penalty
pub cost_at_most_penalty : (limits : Bounds) (x : ℕ) → IsCost limits x → x ≤ penalty limits
cost_at_most_penalty limits x (inl timely) = omega (arith, cutoff_at_most_penalty limits)
cost_at_most_penalty limits x (inr same) = omega (arith, same)

times_most : (f : Factor) (k most : ℕ) → k ≤ most → k * times f ≤ 1000 * most
times_most One k most h = omega (arith, h)
times_most Ten k most h = omega (arith, h)
times_most Thousand k most h = omega (arith, h)

-- what is known in range has a low cost, where it has one
pub low_in_range : (limits : Bounds) (known : Known) → AreInRange limits.cutoff limits.floor → IsInRange limits known → IsLow known
low_in_range limits Nothing ranged h = tt
low_in_range limits (Over time) ranged h = tt
low_in_range limits (Exact cost) ranged (inl low) = let most = ranged.cutoff_in_range in omega (arith, low, most)
low_in_range limits (Exact cost) ranged (inr unsolved) =
    let most = times_most limits.factor limits.cutoff max_cutoff ranged.cutoff_in_range in
    omega (arith, unsolved, most)
low_in_range limits Abort ranged h = tt

-- evidence under a cutoff: of more time exactly for that one
abbrev IsUnder : ℕ → Evidence → Type 0
IsUnder cutoff (evidence.Solved t) = Unit {0}
IsUnder cutoff (evidence.Longer c) = c.0 ≡ cutoff
IsUnder cutoff evidence.Unsolved = Unit {0}
IsUnder cutoff evidence.Abort = Unit {0}

evidence_under : (limits : Bounds) (cutoff : ℕ) (shown : Answer) → IsUnder cutoff (evidence_of limits cutoff shown)
evidence_under limits cutoff (answer.Solved t) = tt
evidence_under limits cutoff answer.Timeout = by (nat_lt cutoff limits.cutoff)
  where
    by : (b : Bool) → IsUnder cutoff (if b then evidence.Longer (record { 0 = cutoff }) else evidence.Unsolved)
    by true = refl
    by false = tt
evidence_under limits cutoff answer.Crashed = tt
evidence_under limits cutoff answer.Abort = tt

settled_line : (penalty cutoff : ℕ) (known : Known) (e : Evidence) → IsUnder cutoff e → is_settled (lesson_from penalty known e).known cutoff ≡ true
settled_line penalty cutoff Nothing (evidence.Solved t) under = refl
settled_line penalty cutoff Nothing (evidence.Longer c) under = le-leb cutoff c.0 (omega (arith, under))
settled_line penalty cutoff Nothing evidence.Unsolved under = refl
settled_line penalty cutoff Nothing evidence.Abort under = refl
settled_line penalty cutoff (Over k) (evidence.Solved t) under = refl
settled_line penalty cutoff (Over k) (evidence.Longer c) under = le-leb cutoff (max k.0 c.0) (omega (arith, under))
settled_line penalty cutoff (Over k) evidence.Unsolved under = refl
settled_line penalty cutoff (Over k) evidence.Abort under = refl
settled_line penalty cutoff (Exact x) (evidence.Solved t) under = refl
settled_line penalty cutoff (Exact x) (evidence.Longer c) under = refl
settled_line penalty cutoff (Exact x) evidence.Unsolved under = refl
settled_line penalty cutoff (Exact x) evidence.Abort under = refl
settled_line penalty cutoff Abort (evidence.Solved t) under = refl
settled_line penalty cutoff Abort (evidence.Longer c) under = refl
settled_line penalty cutoff Abort evidence.Unsolved under = refl
settled_line penalty cutoff Abort evidence.Abort under = refl

-- after a run with a cutoff the cell is settled at it
pub settled_after : (limits : Bounds) (known : Known) (cutoff : ℕ) (shown : Answer) → is_settled (lesson limits known cutoff shown).known cutoff ≡ true
settled_after limits known cutoff shown = settled_line (penalty limits) cutoff known (evidence_of limits cutoff shown) (evidence_under limits cutoff shown)

-- ---- what an answer within its cutoff teaches

-- evidence of a run in range: its time is at most the full cutoff, and that it takes longer comes of a shortened one
abbrev IsFrom : Bounds → Evidence → Type 0
IsFrom limits (evidence.Solved t) = t.0 ≤ limits.cutoff
IsFrom limits (evidence.Longer c) = IsShortened limits c.0
IsFrom limits evidence.Unsolved = Unit {0}
IsFrom limits evidence.Abort = Unit {0}

-- an answer within its cutoff is such evidence
evidence_from : (limits : Bounds) (cutoff : ℕ) (shown : Answer) → IsCutoff limits cutoff → IsWithin shown cutoff → IsFrom limits (evidence_of limits cutoff shown)
evidence_from limits cutoff (answer.Solved t) in_range within = omega (arith, within, in_range.at_most)
evidence_from limits cutoff answer.Timeout in_range within = by (nat_lt cutoff limits.cutoff) refl
  where
    by : (b : Bool) → nat_lt cutoff limits.cutoff ≡ b → IsFrom limits (if b then evidence.Longer (record { 0 = cutoff }) else evidence.Unsolved)
    by true below = record { positive = in_range.positive; below = leb-true _ _ below }
    by false below = tt
evidence_from limits cutoff answer.Crashed in_range within = tt
evidence_from limits cutoff answer.Abort in_range within = tt

-- what it teaches lies in its range
line_ranged : (limits : Bounds) (known : Known) (e : Evidence) → IsFrom limits e → IsInRange limits known
    → IsInRange limits (lesson_from (penalty limits) known e).known
line_ranged limits Nothing (evidence.Solved t) from before = inl from
line_ranged limits Nothing (evidence.Longer c) from before = from
line_ranged limits Nothing evidence.Unsolved from before = inr refl
line_ranged limits Nothing evidence.Abort from before = tt
line_ranged limits (Over k) (evidence.Solved t) from before = inl from
line_ranged limits (Over k) (evidence.Longer c) from before = record {
  positive = omega (arith, from.positive);
  below = omega (arith, from.below, before.below);
}
line_ranged limits (Over k) evidence.Unsolved from before = inr refl
line_ranged limits (Over k) evidence.Abort from before = tt
line_ranged limits (Exact x) (evidence.Solved t) from before = before
line_ranged limits (Exact x) (evidence.Longer c) from before = before
line_ranged limits (Exact x) evidence.Unsolved from before = before
line_ranged limits (Exact x) evidence.Abort from before = before
line_ranged limits Abort (evidence.Solved t) from before = tt
line_ranged limits Abort (evidence.Longer c) from before = tt
line_ranged limits Abort evidence.Unsolved from before = tt
line_ranged limits Abort evidence.Abort from before = tt

-- what an answer within its cutoff teaches lies in its range
pub lesson_ranged : (limits : Bounds) (known : Known) (cutoff : ℕ) (shown : Answer) → IsCutoff limits cutoff → IsWithin shown cutoff → IsInRange limits known
    → IsInRange limits (lesson limits known cutoff shown).known
lesson_ranged limits known cutoff shown in_range within before =
    line_ranged limits known (evidence_of limits cutoff shown) (evidence_from limits cutoff shown in_range within) before
