use Rattle.std.proofs.Common.{◌∙◌, refl, ap}
use Rattle.tune_front.specs.SaidTexts.{unwritten, no_memory}
use Rattle.tune_front.proofs.SaidTexts.{part_of_lines, widened}
use Rattle.tune_front.proofs.saying.say_all.Goals as goal

pub returns-in-Err-Fault : goal.returns-in-Err-Fault
returns-in-Err-Fault g c =
    unwritten refl
    (part_of_lines (λ line. line.items) c.args.lines.now c.loop-line.line-index _ _ _ _ _ c.loop-line-test.true
    (c.as_slice.ensures.value ∙ ap (λ line. line.items) c.line-item.is) c.loop-line.invariant.taken c.in-Err-Fault.ensures.part)
    (widened _ _ _ c.loop-line.invariant.counts c.loop-line.invariant.empties (rw c.in-Err-Fault.field-0-is at c.in-Err-Fault.ensures.cause))

pub returns-in-Err-Memory : goal.returns-in-Err-Memory
returns-in-Err-Memory g c =
    no_memory refl
    (part_of_lines (λ line. line.items) c.args.lines.now c.loop-line.line-index _ _ _ _ _ c.loop-line-test.true
    (c.as_slice.ensures.value ∙ ap (λ line. line.items) c.line-item.is) c.loop-line.invariant.taken c.in-Err-Memory.ensures.part)
