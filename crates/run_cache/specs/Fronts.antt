-- What a row keeps of its leading exact places: the sums of their costs, and the first place after them.
use Rattle.std.specs.Prelude.{ℕ, zero, suc, ◌+◌, ◌*◌, ◌≡◌, ◌≤◌, List, [], ◌∷◌, ◌++◌, length, drop, All, slice_index_or}
use Rattle.objective.specs.Limits.{max_cutoff, max_runs}
use Rattle.objective.specs.declared.Sum.{Sum}
use Rattle.run_cache.specs.declared.known.Known.{Known}
use Rattle.run_cache.specs.declared.known.Known.TheVariants.{Nothing, Over, Exact, Abort}

-- the least place of a row that isn't exact
abbrev pub front_of : List Known → ℕ
front_of [] = 1
front_of (Exact cost ∷ row) = suc (front_of row)
front_of (Nothing ∷ row) = 1
front_of (Over time ∷ row) = 1
front_of (Abort ∷ row) = 1

-- the sums of the costs up to each leading exact place, after so much was spent before
abbrev pub sums_from : ℕ → List Known → List Sum
sums_from spent [] = []
sums_from spent (Exact cost ∷ row) = record { 0 = spent + cost.0 } ∷ sums_from (spent + cost.0) row
sums_from spent (Nothing ∷ row) = []
sums_from spent (Over time ∷ row) = []
sums_from spent (Abort ∷ row) = []

-- the sums of the costs up to each leading exact place, from place 1 on
abbrev pub sums_of : List Known → List Sum
sums_of row = sums_from 0 row

-- what the first places cost, by the sums up to each
abbrev pub spent_over : List Sum → ℕ → ℕ
spent_over sums zero = 0
spent_over sums (suc before) = (slice_index_or sums before (record { 0 = 0 })).0

-- the greatest cost of a run under any limits
abbrev pub max_cost : ℕ
max_cost = 1000 * max_cutoff

-- a cost that is known is at most the greatest one
abbrev pub IsLow : Known → Type 0
IsLow Nothing = Unit {0}
IsLow (Over time) = Unit {0}
IsLow (Exact cost) = cost.0 ≤ max_cost
IsLow Abort = Unit {0}

-- the places of a row, so few and low that their sums stay in range
pub record IsSummable (row : List Known) : Type 0 where
  pub few : length row ≤ max_runs
  pub low : All IsLow row

-- these are the first sums of the row
pub record IsBegun (row : List Known) (sums : List Sum) : Type 0 where
  pub rest : sums ++ sums_from (spent_over sums (length sums)) (drop (length sums) row) ≡ sums_of row
  pub most : spent_over sums (length sums) ≤ length sums * max_cost

-- these are the sums of the row, with room for one of each place
pub record IsSummed (row : List Known) (sums : List Sum) (room : ℕ) : Type 0 where
  pub summable : IsSummable row
  pub are : sums ≡ sums_of row
  pub fits : length row ≤ room
