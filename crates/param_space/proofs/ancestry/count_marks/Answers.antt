use Rattle.std.proofs.Common.{arith, false, sym}
use Rattle.std.specs.List.{slice_index_or}
use Rattle.std.proofs.lemmas.Grind.{common_steps}
use Rattle.param_space.proofs.Counts.{count-le, count_start, count_one, count_none}
use Rattle.param_space.proofs.ancestry.count_marks.Goals as goal
use Rattle.param_space.proofs.ancestry.count_marks.Goals.{then-mark, else-mark}

pub loop-mark-init : goal.loop-mark-init
loop-mark-init c = sym (count_start (λ a. slice_index_or c.args.marks.now a false))

pub overflow_add-found : goal.overflow_add-found
overflow_add-found c =
    let few = count-le (λ a. slice_index_or c.args.marks.now a false) c.loop-mark.mark-index in
    omega (arith, few, c.loop-mark.invariant, c.loop-mark-test.true)

pub loop-mark-preserved : goal.loop-mark-preserved
loop-mark-preserved c =
    elim c.if-mark.branch [
      | then-mark w ↦ grind (arith, common_steps, count_one)
      | else-mark w ↦ grind (arith, common_steps, count_none)
    ]
