use Rattle.std.proofs.Common.{◌≡◌, true, take}
use Rattle.std.specs.List.{list_all}
use Rattle.param_space.specs.Marks.{is_marked}
use Rattle.param_space.proofs.activity.forbids.Given as goal

-- the picks so far are of active parameters with these values
abbrev pub invariant-loop-pick : goal.invariant-loop-pick
invariant-loop-pick l = list_all (is_marked l.active l.values) (take l.pick-index l.pick-items) ≡ true
