-- The place and the cutoff of a run that is needed, whatever is known.
use Rattle.std.specs.Prelude.{ℕ, zero, suc, ◌+◌, ◌<◌, ◌≤◌, Bool, true, false, Option, Some, None, if◌then◌else◌}
use Rattle.std.proofs.Common.{arith}
use Rattle.objective.specs.Bounds.{Bounds, AreInRange}
use Rattle.ils_face.specs.declared.asks.Ask.{Ask}
use Rattle.ils_face.specs.declared.asks.Ask.TheVariants.{Full, Versus, End}
use Rattle.ils_face.specs.declared.asks.Reply.TheVariants as reply
use Rattle.run_cache.specs.declared.known.Known.{Known}
use Rattle.run_cache.specs.declared.known.Known.TheVariants.{Nothing, Over, Exact, Abort}
use Rattle.run_cache.specs.Caches.{Knowledge, IsCutoff}
use Rattle.capping.specs.declared.verdicts.Verdict.{Verdict}
use Rattle.capping.specs.declared.verdicts.Verdict.TheVariants.{Reply, Need, Aborted, Ended}
use Rattle.capping.specs.Verdicts.{is_past, leads_past, cutoff_left, need, verdict_at, verdict_from, verdict_of}
use Rattle.capping.specs.Decisions.{place_count}

-- the fact of the place and the cutoff, where a run is needed
abbrev pub OnNeed : Verdict → (ℕ → ℕ → Type 0) → Type 0
OnNeed (Reply r) P = Unit {0}
OnNeed (Need place cutoff) P = P place cutoff.0
OnNeed (Aborted place) P = Unit {0}
OnNeed Ended P = Unit {0}

-- one of these places, and a cutoff that a run may have
pub record IsNeededFrom (limits : Bounds) (from left place cutoff : ℕ) : Type 0 where
  pub low : from ≤ place
  pub high : place < from + left
  pub cutoff_fits : IsCutoff limits cutoff

module _ (limits : Bounds) (ranged : AreInRange limits.cutoff limits.floor) where
  cutoff_left-fits : (bound : Option ℕ) (spent : ℕ) → IsCutoff limits (cutoff_left limits bound spent)
  cutoff_left-fits None spent =
      let a = ranged.floor_positive in
      let b = ranged.floor_at_most_cutoff in
      record { positive = omega (arith, a, b); at_most = omega arith }
  cutoff_left-fits (Some bound) spent =
      let a = ranged.floor_positive in
      let b = ranged.floor_at_most_cutoff in
      record { positive = omega (arith, a, b); at_most = omega arith }

  module _ (known : ℕ → Known) (bound : Option ℕ) where
    needed_here : (from left spent : ℕ) → OnNeed (need limits bound from spent) (IsNeededFrom limits from (suc left))
    needed_here from left spent = record { low = omega arith; high = omega arith; cutoff_fits = cutoff_left-fits bound spent }

    later_place : (from left : ℕ) (v : Verdict) → OnNeed v (IsNeededFrom limits (suc from) left) → OnNeed v (IsNeededFrom limits from (suc left))
    later_place from left (Reply r) h = tt
    later_place from left (Need place cutoff) h =
        let a = h.low in
        let b = h.high in
        record { low = omega (arith, a); high = omega (arith, b); cutoff_fits = h.cutoff_fits }
    later_place from left (Aborted place) h = tt
    later_place from left Ended h = tt

    at_over : (from left spent : ℕ) (b : Bool) → OnNeed (if b then Reply reply.Exceeds else need limits bound from spent) (IsNeededFrom limits from (suc left))
    at_over from left spent true = tt
    at_over from left spent false = needed_here from left spent

    at_place : (from left spent : ℕ) (after : ℕ → Verdict) → ((sum : ℕ) → OnNeed (after sum) (IsNeededFrom limits (suc from) left))
        → (k : Known) → OnNeed (verdict_at limits bound from spent after k) (IsNeededFrom limits from (suc left))
    at_place from left spent after h Nothing = needed_here from left spent
    at_place from left spent after h (Over time) = at_over from left spent (leads_past bound spent time.0)
    at_place from left spent after h (Exact cost) = later_place from left (after (spent + cost.0)) (h (spent + cost.0))
    at_place from left spent after h Abort = tt

    at_next : (from left : ℕ) (v : Verdict) → OnNeed v (IsNeededFrom limits from (suc left))
        → (b : Bool) → OnNeed (if b then Reply reply.Exceeds else v) (IsNeededFrom limits from (suc left))
    at_next from left v h true = tt
    at_next from left v h false = h

    at_end : (from spent : ℕ) (b : Bool) → OnNeed (if b then Reply reply.Exceeds else Reply (reply.Exact (record { 0 = spent }))) (IsNeededFrom limits from zero)
    at_end from spent true = tt
    at_end from spent false = tt

    needed_from : (left from spent : ℕ) → OnNeed (verdict_from limits known bound left from spent) (IsNeededFrom limits from left)
    needed_from zero from spent = at_end from spent (is_past bound spent)
    needed_from (suc left) from spent =
        at_next from left (verdict_at limits bound from spent (verdict_from limits known bound left (suc from)) (known from))
        (at_place from left spent (verdict_from limits known bound left (suc from)) (λ sum. needed_from left (suc from) sum) (known from))
        (is_past bound spent)

  -- the run that an ask needs is at one of its places, under a cutoff that a run may have
  pub needed_of : (known : Knowledge) (ask : Ask) → OnNeed (verdict_of limits known ask) (IsNeededFrom limits 1 (place_count ask))
  needed_of known (Full θ n) = needed_from (known θ) None n 1 0
  needed_of known (Versus θ n bound) = needed_from (known θ) (Some bound.0) n 1 0
  needed_of known End = tt
