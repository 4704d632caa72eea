-- Lists of runs: rising ones, those that are due at the asks of a search, and what they tell of cells.
use Rattle.std.specs.Prelude.{ℕ, ◌≡◌, ◌<◌, ◌≤◌, List, [], ◌∷◌, Option, Some, None, IsSomeAnd, slice_get}
use Rattle.objective.specs.Bounds.{Bounds}
use Rattle.objective.specs.Costs.{Table, penalty}
use Rattle.objective.specs.declared.Answer.{Answer}
use Rattle.objective.specs.declared.Answer.TheVariants as answer
use Rattle.uncapped.specs.Procedure.{Question}
use Rattle.uncapped.specs.DueCutoffs.{cap_at}
use Rattle.run_cache.specs.declared.cell.Cell.{Cell}
use Rattle.run_cache.specs.declared.known.Known.{Known}
use Rattle.run_cache.specs.declared.known.Known.TheVariants.{Nothing, Over, Exact, Abort}
use Rattle.run_cache.specs.declared.learning.Evidence.{Evidence}
use Rattle.run_cache.specs.declared.learning.Evidence.TheVariants as evidence
use Rattle.run_cache.specs.Learning.{evidence_of}
use Rattle.run_cache.specs.Caches.{Knowledge}

-- a run of a cell
pub record CellRun : Type 0 where
  pub cell : Cell
  pub cutoff : ℕ
  pub answer : Answer

-- the first run shows a timeout, and the second has more time
pub record IsOutrun (earlier later : CellRun) : Type 0 where
  pub timeout : earlier.answer ≡ answer.Timeout
  pub more : earlier.cutoff < later.cutoff

-- of any two runs of one cell the later has the greater cutoff, and the earlier shows a timeout
pub record IsRising (runs : List CellRun) : Type 0 where
  pub outrun : (i j : ℕ) (r s : CellRun) → i < j → slice_get runs i ≡ Some r → slice_get runs j ≡ Some s → r.cell ≡ s.cell → IsOutrun r s

-- the question names the run's cell, and the run has the cutoff that is due there
pub record IsDueFor (limits : Bounds) (T : Table) (run : CellRun) (q : Question) : Type 0 where
  pub config : q.config ≡ run.cell.config
  pub positive : 1 ≤ run.cell.place
  pub place : run.cell.place ≤ q.places
  pub cutoff : cap_at limits T q run.cell.place ≡ Some run.cutoff

-- the run is due at the ask with this number, from 0
abbrev pub IsDue : Bounds → Table → List Question → ℕ → CellRun → Type 0
IsDue limits T asks number run = IsSomeAnd (slice_get asks number) (IsDueFor limits T run)

-- the run is due at an ask with this number or a later one, from which on the rest goes on
pub record IsDueFrom (limits : Bounds) (T : Table) (asks : List Question) (first : ℕ) (run : CellRun) (Rest : ℕ → Type 0) : Type 0 where
  pub number : ℕ
  pub from : first ≤ number
  pub due : IsDue limits T asks number run
  pub rest : Rest number

-- each run is due at an ask between these numbers, and they never fall along the list
abbrev pub AreDueBetween : Bounds → Table → List Question → ℕ → ℕ → List CellRun → Type 0
AreDueBetween limits T asks first last [] = first ≤ last
AreDueBetween limits T asks first last (run ∷ runs) = IsDueFrom limits T asks first run (λ number. AreDueBetween limits T asks number last runs)

-- the cost that is known from this evidence
abbrev pub cost_from : Bounds → Evidence → Option ℕ
cost_from limits (evidence.Solved t) = Some t.0
cost_from limits (evidence.Longer c) = None
cost_from limits evidence.Unsolved = Some (penalty limits)
cost_from limits evidence.Abort = None

-- the cost of an exact run, one that tells it; none of another
abbrev pub exact_cost : Bounds → CellRun → Option ℕ
exact_cost limits run = cost_from limits (evidence_of limits run.cutoff run.answer)

-- one of the runs, of this cell
pub record IsRunOf (runs : List CellRun) (cell : Cell) (run : CellRun) : Type 0 where
  pub number : ℕ
  pub among : slice_get runs number ≡ Some run
  pub same : run.cell ≡ cell

-- one of the cell's runs has this cutoff and shows a timeout
pub record HasTimeout (runs : List CellRun) (cell : Cell) (cutoff : ℕ) : Type 0 where
  pub run : CellRun
  pub of_cell : IsRunOf runs cell run
  pub timeout : run.answer ≡ answer.Timeout
  pub with_cutoff : run.cutoff ≡ cutoff

-- a run shows a timeout under at most this cutoff
pub record IsTimeout (cutoff : ℕ) (run : CellRun) : Type 0 where
  pub timeout : run.answer ≡ answer.Timeout
  pub at_most : run.cutoff ≤ cutoff

-- this is the greatest cutoff of the cell's runs, all of which show timeouts
pub record IsLongest (runs : List CellRun) (cell : Cell) (cutoff : ℕ) : Type 0 where
  pub some : HasTimeout runs cell cutoff
  pub each : (run : CellRun) → IsRunOf runs cell run → IsTimeout cutoff run

-- one of the cell's runs is exact and has this cost
pub record HasCost (limits : Bounds) (runs : List CellRun) (cell : Cell) (cost : ℕ) : Type 0 where
  pub run : CellRun
  pub of_cell : IsRunOf runs cell run
  pub exact : exact_cost limits run ≡ Some cost

-- one of the cell's runs asks for the end of the tuning
pub record HasAbort (runs : List CellRun) (cell : Cell) : Type 0 where
  pub run : CellRun
  pub of_cell : IsRunOf runs cell run
  pub abort : run.answer ≡ answer.Abort

-- what is known of the cell comes of these runs
abbrev pub IsBackedAt : Bounds → List CellRun → Cell → Known → Type 0
IsBackedAt limits runs cell Nothing = (run : CellRun) → IsRunOf runs cell run → ⊥
IsBackedAt limits runs cell (Over t) = IsLongest runs cell t.0
IsBackedAt limits runs cell (Exact x) = HasCost limits runs cell x.0
IsBackedAt limits runs cell Abort = HasAbort runs cell

-- what is known of each cell comes of these runs
pub record IsBacked (limits : Bounds) (runs : List CellRun) (known : Knowledge) : Type 0 where
  pub cells : (cell : Cell) → IsBackedAt limits runs cell (known cell.config cell.place)
