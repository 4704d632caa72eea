-- What the rows of a run log tell of costs: those of cells, and their sums over the first places.
use Rattle.std.specs.Prelude.{ℕ, zero, suc, List, Option, Some, None, if◌then◌else◌}
use Rattle.std.specs.List.{filter_map, slice_get}
use Rattle.objective.specs.Bounds.{Bounds}
use Rattle.uncapped.specs.Totals.{plus}
use Rattle.run_cache.specs.declared.cell.Cell.{Cell}
use Rattle.run_cache.specs.Runs.{CellRun, exact_cost}
use Rattle.board_steps.specs.Tickets.{same_cell}
use Rattle.tuning_logs.specs.RunLog.{LoggedRun}
use Rattle.run_logs.specs.LoggedRuns.{runs_in}

-- the cost that a run tells of this cell, where it is an exact run of it
abbrev pub cost_told : Bounds → Cell → CellRun → Option ℕ
cost_told limits cell run = if same_cell cell run.cell then exact_cost limits run else None

-- the cost of the cell's first exact run
abbrev pub logged_cost : Bounds → List LoggedRun → Cell → Option ℕ
logged_cost limits rows cell = slice_get (filter_map (cost_told limits cell) (runs_in rows)) 0

-- the sum of these costs at the places 1 to n of a configuration, where each of them is told
abbrev pub logged_sum : Bounds → List LoggedRun → List ℕ → ℕ → Option ℕ
logged_sum limits rows config zero = Some 0
logged_sum limits rows config (suc n) =
    plus (logged_sum limits rows config n) (logged_cost limits rows (record { config = config; place = suc n }))
