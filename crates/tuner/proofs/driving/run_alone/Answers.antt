use Rattle.std.proofs.Common.{ap}
use Rattle.tuner.proofs.SeatsTogether.{cleared_drives}
use Rattle.tuner.proofs.driving.run_alone.Goals as goal

pub drive_board-requires-clause-board : goal.drive_board-requires-clause-board
drive_board-requires-clause-board g c = record { problem = c.in-Ok.ensures.problem; procedure = c.requires.procedure }

pub drive_board-requires-clause-cleared : goal.drive_board-requires-clause-cleared
drive_board-requires-clause-cleared g c = λ one. ap (λ s. s.tickets) c.clear.ensures

pub returns-in-Ok-clause-ending : goal.returns-in-Ok-clause-ending
returns-in-Ok-clause-ending g c = λ call drives.
    c.drive_board.ensures.ending call
    (cleared_drives call c.args.task.now g.S.Spawner.truth c.args.seat.now c.clear.new.self c.drive_board.new.seat c.clear.ensures drives)
