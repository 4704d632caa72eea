use Rattle.std.proofs.Common.{◌≡◌, take}
use Rattle.std.specs.List.{flat_map}
use Rattle.tuning_logs.specs.EntryLines.{entry_lines}
use Rattle.tuner.proofs.lines.entry_lines.Given as goal

-- the lines of the entries so far
abbrev pub invariant-loop-entry : goal.invariant-loop-entry
invariant-loop-entry l = flat_map (λ line. line.items) l.lines.items ≡ entry_lines l.space (take l.entry-index l.entries)
