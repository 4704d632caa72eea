use Rattle.std.proofs.Common.{sym}
use Rattle.tuner.specs.KeptFaults.{KeepsTaken}
use Rattle.tuner.proofs.KeptFaults.{keeps_at, taken_at}
use Rattle.tuner.proofs.kept_faults.report_kept.Goals as goal

pub report_fault-requires-clause-taken : goal.report_fault-requires-clause-taken
report_fault-requires-clause-taken g c =
    taken_at c.args.board.now c.args.task.now.problem c.args.seats.now c.args.number c.index-seats-number.result c.in-Some.ticket.now
    c.requires.board.problem c.requires.kept c.index-seats-number.is (sym c.in-Some.ensures)

pub returns-clause-ending : goal.returns-clause-ending
returns-clause-ending g c = λ call worked.
    c.report_fault.ensures.ending call worked.on.runs
    (keeps_at call c.args.task.now g.S.Spawner.truth c.args.seats.now c.args.number c.index-seats-number.result c.in-Some.ticket.now
    (KeepsTaken c.args.board.now) worked c.requires.seats c.requires.kept c.index-seats-number.is (sym c.in-Some.ensures))
