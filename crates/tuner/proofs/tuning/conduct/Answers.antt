use Rattle.std.proofs.Common.{refl}
use Rattle.tuner.specs.Calls.{Call, call_of}
use Rattle.tuner.proofs.CallEndings.{stated_by, ending_misused, ending_refused}
use Rattle.tuner.proofs.tuning.conduct.Goals as goal

pub returns-in-Ok-read_task-clause-ending : goal.returns-in-Ok-read_task-clause-ending
returns-in-Ok-read_task-clause-ending g c =
    let call : Call = call_of c.args.words.now (g.F.Files.told c.args.files.now) (g.F.Files.told c.read_task.new.files) g.S.Spawner.truth c.args.seats.now c.run_task.new.seats in
    c.run_task.ensures.ending call
    (record { stated = stated_by call c.in-Ok.given c.in-Ok-read_task.task c.in-Ok.ensures.value c.in-Ok-read_task.ensures.read; tells = refl; was = refl; is = refl })

pub returns-in-Err-read_task-clause-ending : goal.returns-in-Err-read_task-clause-ending
returns-in-Err-read_task-clause-ending g c =
    ending_refused _ _ _ _ _ c.in-Ok.given c.in-Ok.ensures.value c.in-Err-read_task.ensures.refused c.refuse_files.ensures

pub returns-in-Err-clause-ending : goal.returns-in-Err-clause-ending
returns-in-Err-clause-ending g c = ending_misused _ _ _ _ _ c.in-Err.ensures.fault c.refuse_words.ensures
