use Rattle.std.proofs.Common.{◌≡◌, take}
use Rattle.tuning_logs.specs.RunLog.{row_lines}
use Rattle.tuning_logs.proofs.run_log.lines_of.Given as goal

-- the lines of the runs so far
abbrev pub invariant-loop-row : goal.invariant-loop-row
invariant-loop-row l = l.text.items ≡ row_lines l.space (take l.row-index l.rows)
