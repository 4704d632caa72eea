-- What a run shows under a cutoff, and what it costs (penalised running time, Hutter et al., JAIR 36).
use Rattle.std.specs.Prelude.{ℕ, ◌*◌, ◌≤◌, min, max, List, Option, Some, None, nat_le, if◌then◌else◌}
use Rattle.objective.specs.Bounds.{Bounds}
use Rattle.objective.specs.declared.Factor.{Factor}
use Rattle.objective.specs.declared.Factor.TheVariants.{One, Ten, Thousand}
use Rattle.objective.specs.declared.Outcome.{Outcome}
use Rattle.objective.specs.declared.Outcome.TheVariants as outcome
use Rattle.objective.specs.declared.Answer.{Answer}
use Rattle.objective.specs.declared.Answer.TheVariants as answer

-- what a run with this outcome shows under a cutoff
abbrev pub seen : Outcome → ℕ → Answer
seen (outcome.Solved t) cutoff = if nat_le t.0 cutoff then answer.Solved t else answer.Timeout
seen outcome.Unsolved cutoff = answer.Timeout
seen (outcome.Crashed t) cutoff = if nat_le t.0 cutoff then answer.Crashed else answer.Timeout
seen (outcome.Abort t) cutoff = if nat_le t.0 cutoff then answer.Abort else answer.Timeout

-- an outcome that takes longer than the full cutoff counts as unsolved
abbrev pub within : Outcome → Bounds → Outcome
within (outcome.Solved t) limits = if nat_le t.0 limits.cutoff then outcome.Solved t else outcome.Unsolved
within outcome.Unsolved limits = outcome.Unsolved
within (outcome.Crashed t) limits = if nat_le t.0 limits.cutoff then outcome.Crashed t else outcome.Unsolved
within (outcome.Abort t) limits = if nat_le t.0 limits.cutoff then outcome.Abort t else outcome.Unsolved

-- a time that is shown is no longer than the cutoff
abbrev pub IsWithin : Answer → ℕ → Type 0
IsWithin (answer.Solved t) cutoff = t.0 ≤ cutoff
IsWithin answer.Timeout cutoff = Unit {0}
IsWithin answer.Crashed cutoff = Unit {0}
IsWithin answer.Abort cutoff = Unit {0}

abbrev pub times : Factor → ℕ
times One = 1
times Ten = 10
times Thousand = 1000

-- what a run without a solution costs
abbrev pub penalty : Bounds → ℕ
penalty limits = limits.cutoff * times limits.factor

-- the cost of an outcome that lies within the full cutoff; none exactly for an abort
abbrev pub cost_within : Bounds → Outcome → Option ℕ
cost_within limits (outcome.Solved t) = Some t.0
cost_within limits outcome.Unsolved = Some (penalty limits)
cost_within limits (outcome.Crashed t) = Some (penalty limits)
cost_within limits (outcome.Abort t) = None

-- the cost of an outcome
abbrev pub cost_of : Bounds → Outcome → Option ℕ
cost_of limits o = cost_within limits (within o limits)

-- the lesser of the cutoff and the greater of floor and what is left of a bound
abbrev pub cap : Bounds → ℕ → ℕ
cap limits rem = min limits.cutoff (max limits.floor rem)

-- the outcome of a configuration, by its value numbers, at a place
abbrev pub Table : Type 0
Table = List ℕ → ℕ → Outcome
