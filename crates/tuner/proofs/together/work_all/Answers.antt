use Rattle.std.proofs.Common.{rules}
use Rattle.tuner.proofs.together.work_all.Goals as goal

pub returns-clause-worked : goal.returns-clause-worked
returns-clause-worked g c = λ i d lt.
    let at = (c.for_each_mut.ensures i d lt).1 in
    rw (← at.argument_is, ← at.left) at.call
