use Rattle.std.proofs.Common.{◌≡◌, ◌≤◌, [], take, drop}
use Rattle.param_space.specs.Limits
use Rattle.param_space.specs.Space.{names}
use Rattle.param_space.specs.Faults.{later_params_fault}
use Rattle.param_space.proofs.rules.params_fault.Given as goal

-- the first fault is that of the later parameters
abbrev pub invariant-loop-i : goal.invariant-loop-i
invariant-loop-i l = (l.i ≤ Limits.max_params) × (later_params_fault [] 0 l.params ≡ later_params_fault (names (take l.i l.params)) l.i (drop l.i l.params))
