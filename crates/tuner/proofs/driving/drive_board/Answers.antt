use Rattle.std.proofs.Common.{sym, subst, ◌∙◌, arith}
use Rattle.board_steps.specs.Problem.{Problem}
use Rattle.tuner.specs.KeptFaults.{IsTakenIn}
use Rattle.tuner.proofs.DrivenSeats.{keeps_fault, kept_taken, started_call}
use Rattle.tuner.proofs.driving.drive_board.Goals as goal

pub report_ending-requires-clause-board : goal.report_ending-requires-clause-board
report_ending-requires-clause-board g c =
    record { problem = c.in-Ended.ensures.problem ∙ c.requires.board.problem; procedure = c.requires.board.procedure }

pub report_fault-requires-clause-board : goal.report_fault-requires-clause-board
report_fault-requires-clause-board g c =
    record { problem = c.in-Fault.ensures.problem ∙ c.requires.board.problem; procedure = c.requires.board.procedure }

pub report_no_memory-requires : goal.report_no_memory-requires
report_no_memory-requires g c =
    record { board = record { problem = c.in-Memory.ensures.problem ∙ c.requires.board.problem; procedure = c.requires.board.procedure } }

pub report_fault-requires-clause-taken : goal.report_fault-requires-clause-taken
report_fault-requires-clause-taken g c =
    subst (λ (problem : Problem). IsTakenIn problem c.drive.new.board.journal c.in-Some.ticket.now) c.requires.board.problem
    (kept_taken g.P.Search.plain g.S.Spawner.truth c.args.task.now.program c.args.board.now c.drive.new.board c.args.seat.now c.drive.new.seat c.in-Some.ticket.now
    c.in-Fault.ensures.driven (sym c.in-Some.ensures))

pub returns-in-Ended-clause-ending : goal.returns-in-Ended-clause-ending
returns-in-Ended-clause-ending g c = λ call drives.
    c.report_ending.ensures call drives.runs
    (started_call g.P.Search.plain g.S.Spawner.truth c.args.task.now c.requires.board.procedure c.args.board.now c.drive.new.board c.requires.board.problem
    call c.args.seat.now c.drive.new.seat drives c.requires.cleared c.in-Ended.ensures.driven)

pub returns-in-Some-clause-ending : goal.returns-in-Some-clause-ending
returns-in-Some-clause-ending g c = λ call drives.
    c.report_fault.ensures.ending call drives.runs
    (keeps_fault call c.args.task.now g.S.Spawner.truth c.args.seat.now c.drive.new.seat c.in-Some.ticket.now drives
    (omega (arith, c.workers.ensures.value, c.workers.ensures.some)) (sym c.in-Some.ensures) c.in-Fault.ensures.fault)
