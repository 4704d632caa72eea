use Rattle.std.proofs.Common.{◌∙◌}
use Rattle.tuner.proofs.SeatsTogether.{first_drives, resumed, goes_on}
use Rattle.tuner.proofs.together.go_on.Goals as goal

pub drive_board-requires-clause-board : goal.drive_board-requires-clause-board
drive_board-requires-clause-board g c = record {
  problem = (goes_on c.args.board.now c.resume.new.self (resumed c.args.board.now c.resume.new.self c.in-Ok.ensures.board)).0 ∙ c.requires.board.problem;
  procedure = c.requires.board.procedure;
}

pub drive_board-requires-clause-free : goal.drive_board-requires-clause-free
drive_board-requires-clause-free g c = (goes_on c.args.board.now c.resume.new.self (resumed c.args.board.now c.resume.new.self c.in-Ok.ensures.board)).1

pub returns-in-Ok-clause-ending : goal.returns-in-Ok-clause-ending
returns-in-Ok-clause-ending g c = λ call worked.
    c.drive_board.ensures.ending call
    (first_drives call c.args.task.now g.S.Spawner.truth c.args.seats.now c.index-seats-0.result c.drive_board.new.seat worked c.requires.seats)
