use Rattle.std.proofs.Common.{◌≡◌, drop}
use Rattle.param_space.specs.Faults.{numbers_differ}
use Rattle.param_space.proofs.relations.numbers_differ.Given as goal

-- it is left to see whether the later numbers differ
abbrev pub invariant-loop-i : goal.invariant-loop-i
invariant-loop-i l = numbers_differ l.numbers ≡ numbers_differ (drop l.i l.numbers)
