use Rattle.std.proofs.Common.{◌≡◌, ◌++◌}
use Rattle.neighbourhood.proofs.Exchanges.{by_value}
use Rattle.neighbourhood.proofs.push_exchanges.Given as goal

-- the exchanges to the values so far
abbrev pub invariant-loop-value : goal.invariant-loop-value
invariant-loop-value l = l.found.items ≡ l.initial.found.items ++ by_value l.space l.config l.param l.value
