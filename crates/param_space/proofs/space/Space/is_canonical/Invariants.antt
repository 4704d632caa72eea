use Rattle.std.proofs.Common.{◌≡◌, take}
use Rattle.param_space.specs.Configurations.{settled_config}
use Rattle.param_space.proofs.space.Space.is_canonical.Given as goal

-- settling changes none of the values so far
abbrev pub invariant-loop-i : goal.invariant-loop-i
invariant-loop-i l = take l.i (settled_config l.self l.config) ≡ take l.i l.config
