use Rattle.std.proofs.Common.{arith, ◌<◌, length, ◌∙◌}
use Rattle.tuner.specs.SeatsTogether.{HasWorkedOn}
use Rattle.tuner.proofs.SeatsTogether.{only_drives, zip_each, all_idle}
use Rattle.tuner.proofs.together.run_search.Goals as goal

pub returns-then-workers-eq1-clause-ending : goal.returns-then-workers-eq1-clause-ending
returns-then-workers-eq1-clause-ending g c = λ call on.
    let some : 0 < length c.args.seats.now = omega (arith, c.workers.ensures.value, c.workers.ensures.some, c.requires.all) in
    c.run_alone.ensures.ending call (only_drives call c.args.task.now g.S.Spawner.truth c.args.seats.now c.index-seats-0.result _ on some)

pub conclude-requires-clause-seats : goal.conclude-requires-clause-seats
conclude-requires-clause-seats g c = record {
  several = omega (arith, c.workers.ensures.value, c.workers.ensures.some, c.if-workers-eq1.false);
  all = c.work_all-board.ensures.all ∙ c.requires.all;
  idle =
      all_idle c.args.seats.now c.work_all-board.new.seats
      (zip_each HasWorkedOn c.args.seats.now c.work_all-board.new.seats c.work_all-board.ensures.all c.work_all-board.ensures.worked);
}

pub returns-in-Ok-clause-ending : goal.returns-in-Ok-clause-ending
returns-in-Ok-clause-ending g c = λ call on.
    c.conclude.ensures.ending call
    (record {
      before = c.args.seats.now;
      on = on;
      worked = zip_each HasWorkedOn c.args.seats.now c.work_all-board.new.seats c.work_all-board.ensures.all c.work_all-board.ensures.worked;
    })
