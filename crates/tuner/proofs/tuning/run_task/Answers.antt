use Rattle.std.proofs.Common.{◌≤◌, length, refl, sym, ap, arith}
use Rattle.uncapped.specs.Uncapped.{uncapped, procedure}
use Rattle.ils_face.specs.Setups.{setup_of}
use Rattle.ils_face.specs.Follows.{sums_under}
use Rattle.tuner.specs.Tasks.{procedure_of}
use Rattle.tuner.proofs.CallEndings.{runs_about, ending_unseated}
use Rattle.tuner.proofs.SeatsTogether.{runs_on}
use Rattle.tuner.proofs.tuning.run_task.Goals as goal

pub returns-then-seats-workers-clause-ending : goal.returns-then-seats-workers-clause-ending
returns-then-seats-workers-clause-ending g c = λ call about.
    ending_unseated call _ _ _ c.args.task.now _ (length c.args.seats.now) about.stated
    c.workers-workers.ensures.value (ap length about.was) (omega (arith, c.if-seats-workers.true)) c.refuse_seats.ensures

-- the search is that of the task's approach
pub run_search-requires-clause-procedure : goal.run_search-requires-clause-procedure
unfolding uncapped procedure
run_search-requires-clause-procedure g c = λ κs outlives rules T.
    ap (λ a. uncapped (procedure_of a) (setup_of rules) (sums_under rules T)) (sym c.in-Basic.is)

pub run_search-requires-in-Focused-clause-procedure : goal.run_search-requires-in-Focused-clause-procedure
unfolding uncapped procedure
run_search-requires-in-Focused-clause-procedure g c = λ κs outlives rules T.
    ap (λ a. uncapped (procedure_of a) (setup_of rules) (sums_under rules T)) (sym c.in-Focused.is)

-- it is run on the first seats
pub returns-in-Basic-clause-ending : goal.returns-in-Basic-clause-ending
returns-in-Basic-clause-ending g c = λ call about.
    let seated : c.args.task.now.problem.rules.workers ≤ length c.args.seats.now =
    omega (arith, c.workers-workers.ensures.value, c.if-seats-workers.false) in
    c.run_search.ensures.ending call
    (runs_on call c.args.task.now g.S.Spawner.truth c.args.seats.now _ c.split_at_mut-seats.result.0.now c.split_at_mut-seats.result.1.now c.run_search.new.seats
    about (runs_about call c.args.task.now g.S.Spawner.truth _ _ about seated) c.split_at_mut-seats.ensures.value refl)

pub returns-in-Focused-clause-ending : goal.returns-in-Focused-clause-ending
returns-in-Focused-clause-ending g c = λ call about.
    let seated : c.args.task.now.problem.rules.workers ≤ length c.args.seats.now =
    omega (arith, c.workers-workers.ensures.value, c.if-seats-workers.false) in
    c.run_search-in-Focused.ensures.ending call
    (runs_on call c.args.task.now g.S.Spawner.truth c.args.seats.now _ c.split_at_mut-seats.result.0.now c.split_at_mut-seats.result.1.now c.run_search-in-Focused.new.seats
    about (runs_about call c.args.task.now g.S.Spawner.truth _ _ about seated) c.split_at_mut-seats.ensures.value refl)
