-- What contracts see of the runs that a spawner remembers.
use Rattle.std.specs.Prelude.{Option}
use Rattle.wrapper_lines.specs.declared.runs.Run.{Run}

pub record LastRuns : Type 0 where
  pub current : Option Run  -- the run that was started last
  pub failed_run : Option Run  -- the run of the last start or look that failed
