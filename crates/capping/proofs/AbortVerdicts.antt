-- What the verdict of an abort says of its ask.
use Rattle.std.specs.Prelude.{ℕ, ◌≡◌, Option, Some, None, IsSomeAnd, List, refl}
use Rattle.std.proofs.Common.{subst, arith}
use Rattle.objective.specs.Bounds.{Bounds}
use Rattle.objective.specs.Costs.{Table}
use Rattle.uncapped.specs.Procedure.{Settings}
use Rattle.ils_face.specs.declared.asks.Ask.{Ask}
use Rattle.ils_face.specs.declared.asks.Ask.TheVariants.{Full, Versus, End}
use Rattle.ils_face.specs.Traces.{question_of}
use Rattle.run_cache.specs.Knowledge.{Agrees}
use Rattle.run_cache.specs.Caches.{Knowledge}
use Rattle.capping.specs.declared.verdicts.Verdict.TheVariants.{Aborted}
use Rattle.capping.specs.Verdicts.{verdict_from, verdict_of}
use Rattle.capping.specs.Decisions.{IfAbortedOf, IsKnownAbort, IsFirstAbort}
use Rattle.capping.proofs.WalkEnds.{IsEnd, IsAborting, walk_end}
use Rattle.capping.proofs.WalkAborts.{first_abort}
use Rattle.capping.proofs.Promises.{found}

-- the place of the abort is known as one, and the costs before it are known
pub known-abort : (limits : Bounds) (known : Knowledge) (ask : Ask) (place : ℕ) → verdict_of limits known ask ≡ Aborted place
    → IsSomeAnd (question_of ask) (IsKnownAbort known place)
known-abort limits known ask place e = subst (λ v. IfAbortedOf v ask (IsKnownAbort known)) e (found limits known ask)

module _ (limits : Bounds) (known : Knowledge) (T : Table) (agrees : (config : List ℕ) (place : ℕ) → Agrees limits (known config place) (T config place)) where
  -- how the walk of a question ends that comes to an abort
  aborting : (θ : Settings) (bound : Option ℕ) (n place : ℕ) → verdict_from limits (known θ) bound n 1 0 ≡ Aborted place
      → IsAborting (known θ) bound n place
  aborting θ bound n place e = subst (IsEnd limits (known θ) bound n) e (walk_end limits (known θ) bound n n 0 0 (omega arith) refl)

  -- over a table with which what is known agrees, the run of the place is due and aborts, and none before it does
  pub first-abort : (ask : Ask) (place : ℕ) → verdict_of limits known ask ≡ Aborted place
      → IsSomeAnd (question_of ask) (IsFirstAbort limits T place)
  first-abort (Full θ n) place e = first_abort limits T θ (known θ) (agrees θ) None n place (aborting θ None n place e)
  first-abort (Versus θ n bound) place e = first_abort limits T θ (known θ) (agrees θ) (Some bound.0) n place (aborting θ (Some bound.0) n place e)
  first-abort End place e = absurd (cc)
