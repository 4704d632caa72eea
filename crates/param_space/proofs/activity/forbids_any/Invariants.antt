use Rattle.std.proofs.Common.{◌≡◌, false, take}
use Rattle.std.specs.List.{list_any}
use Rattle.param_space.specs.Marks.{is_marked_by}
use Rattle.param_space.proofs.activity.forbids_any.Given as goal

-- no clause so far forbids it
abbrev pub invariant-loop-clause : goal.invariant-loop-clause
invariant-loop-clause l = list_any (is_marked_by l.active l.values) (take l.clause-index l.forbidden) ≡ false
