use Rattle.std.proofs.Common.{◌≡◌, false}
use Rattle.std.specs.List.{slice_index_or}
use Rattle.param_space.specs.Ancestors.{count}
use Rattle.param_space.proofs.ancestry.count_marks.Given as goal

-- the marks so far are counted
abbrev pub invariant-loop-mark : goal.invariant-loop-mark
invariant-loop-mark l = l.found ≡ count (λ a. slice_index_or l.marks a false) l.mark-index
