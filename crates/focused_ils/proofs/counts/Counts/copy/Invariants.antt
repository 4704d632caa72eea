use Rattle.std.proofs.Common.{◌≡◌, ◌++◌}
use Rattle.focused_ils.proofs.counts.Counts.copy.Given as goal

abbrev pub invariant-loop-config : goal.invariant-loop-config
invariant-loop-config l = l.further.entries ++ l.config-iterator ≡ l.self-inside.further.entries
