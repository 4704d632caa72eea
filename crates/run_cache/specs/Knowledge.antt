-- What is known of a cell: the range that it lies in, the outcomes that it agrees with, and the runs that it saves.
use Rattle.std.specs.Prelude.{ℕ, ◌≡◌, ◌<◌, ◌≤◌, ◌⊎◌, Bool, true, false, Some, None, nat_le}
use Rattle.objective.specs.Bounds.{Bounds}
use Rattle.objective.specs.Costs.{seen, within, cost_of, penalty}
use Rattle.objective.specs.declared.Outcome.{Outcome}
use Rattle.objective.specs.declared.Answer.TheVariants.{Timeout}
use Rattle.run_cache.specs.declared.known.Known.{Known}
use Rattle.run_cache.specs.declared.known.Known.TheVariants.{Nothing, Over, Exact, Abort}

-- a cutoff below the full one
pub record IsShortened (limits : Bounds) (cutoff : ℕ) : Type 0 where
  pub positive : 1 ≤ cutoff
  pub below : cutoff < limits.cutoff

-- a cost that a run may have: at most the full cutoff, or the penalty
abbrev pub IsCost : Bounds → ℕ → Type 0
IsCost limits x = (x ≤ limits.cutoff) ⊎ (x ≡ penalty limits)

-- what may be known under these limits
abbrev pub IsInRange : Bounds → Known → Type 0
IsInRange limits Nothing = Unit {0}
IsInRange limits (Over t) = IsShortened limits t.0
IsInRange limits (Exact x) = IsCost limits x.0
IsInRange limits Abort = Unit {0}

-- an outcome that a run with this shortened cutoff doesn't come to see
pub record TakesLonger (limits : Bounds) (cutoff : ℕ) (o : Outcome) : Type 0 where
  pub below : cutoff < limits.cutoff
  pub shown : seen (within o limits) cutoff ≡ Timeout

-- what is known agrees with the outcome, taken within the full cutoff
abbrev pub Agrees : Bounds → Known → Outcome → Type 0
Agrees limits Nothing o = Unit {0}
Agrees limits (Over t) o = TakesLonger limits t.0 o
Agrees limits (Exact x) o = cost_of limits o ≡ Some x.0
Agrees limits Abort o = cost_of limits o ≡ None

-- a run with this cutoff would tell nothing more
abbrev pub is_settled : Known → ℕ → Bool
is_settled Nothing cutoff = false
is_settled (Over t) cutoff = nat_le cutoff t.0
is_settled (Exact x) cutoff = true
is_settled Abort cutoff = true
