use Rattle.std.proofs.Common.{◌≡◌}
use Rattle.neighbourhood.proofs.Exchanges.{by_param}
use Rattle.neighbourhood.proofs.neighbours.Given as goal

-- the exchanges of the parameters so far
abbrev pub invariant-loop-param : goal.invariant-loop-param
invariant-loop-param l = l.found.items ≡ by_param l.space l.config l.param
