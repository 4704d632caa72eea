use Rattle.std.proofs.Common.{arith}
use Rattle.tuner.specs.KeptFaults.{KeepsTaken}
use Rattle.tuner.proofs.KeptFaults.{some_at}
use Rattle.tuner.proofs.kept_faults.first_fault.Goals as goal

pub returns-then-keeps_fault : goal.returns-then-keeps_fault
returns-then-keeps_fault g c = (
  some_at c.args.seats.now c.loop-k.k c.index-seats-k.result (KeepsTaken c.args.board.now) (omega (arith, c.loop-k-test.true)) c.index-seats-k.is
      (c.keeps_fault.ensures.0 c.if-keeps_fault.true),
  c.loop-k.invariant,
)
