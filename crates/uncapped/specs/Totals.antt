-- Total costs of configurations over the first places, and aborts that count as unsolved.
use Rattle.std.specs.Prelude.{ℕ, zero, suc, ◌+◌, List, Option, Some, None, IsSome}
use Rattle.objective.specs.Bounds.{Bounds}
use Rattle.objective.specs.Costs.{Table, cost_of}
use Rattle.objective.specs.declared.Outcome.{Outcome}
use Rattle.objective.specs.declared.Outcome.TheVariants.{Solved, Unsolved, Crashed, Abort}

-- the sum of two costs, where both are known
abbrev pub plus : Option ℕ → Option ℕ → Option ℕ
plus (Some x) (Some y) = Some (x + y)
plus (Some x) None = None
plus None y = None

-- the sum of the costs at the places 1 to n, or none where one of them aborts
abbrev pub total_cost : Bounds → Table → List ℕ → ℕ → Option ℕ
total_cost limits T config zero = Some 0
total_cost limits T config (suc n) = plus (total_cost limits T config n) (cost_of limits (T config (suc n)))

-- an abort as unsolved
abbrev pub quiet_outcome : Outcome → Outcome
quiet_outcome (Solved t) = Solved t
quiet_outcome Unsolved = Unsolved
quiet_outcome (Crashed t) = Crashed t
quiet_outcome (Abort t) = Unsolved

-- the table in which each abort counts as unsolved
abbrev pub quiet : Table → Table
quiet T config place = quiet_outcome (T config place)

-- no outcome of the table aborts within the cutoff
abbrev pub NeverAborts : Bounds → Table → Type 0
NeverAborts limits T = (config : List ℕ) (place : ℕ) → IsSome (cost_of limits (T config place))
