use Rattle.std.proofs.Common.{◌≡◌, ◌++◌, take, drop}
use Rattle.param_space.specs.Configurations.{settled_config}
use Rattle.param_space.proofs.space.Space.settle.Given as goal

-- the values so far are settled, and the others are as they were
abbrev pub invariant-loop-i : goal.invariant-loop-i
invariant-loop-i l = l.config ≡ take l.i (settled_config l.self l.initial.config) ++ drop l.i l.initial.config
