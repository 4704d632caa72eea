-- Calls of the top call: what each is about, and how it ends.
use Rattle.std.specs.Prelude.{ℕ, ◌≡◌, List, Option}
use Rattle.objective.specs.declared.Outcome.{Outcome}
use Rattle.wrapper_lines.specs.declared.runs.Key.{Key}
use Rattle.outside.specs.ToldStates.{SinkTold}
use Rattle.pool_run.specs.Seats.{SeatState}
use Rattle.tuner.specs.CallStarts.{StartsOf}
use Rattle.tuner.specs.Calls.{Call, StatesTask}
use Rattle.tuner.specs.Causes.{CauseOf, IsRun}
use Rattle.tune_front.specs.SaidTexts.{Said}
use Rattle.tuner.specs.PrintedTexts.{IsTextOf}
use Rattle.tune_front.specs.declared.status.Status.{Status}
use Rattle.tune_front.specs.declared.task.Task.{Task}

-- how a call was to end, why, what it had started and was to print then, and what came of it
pub record Conducted (call : Call) (out out' : SinkTold) (result : Status) : Type 0 where
  pub end : Status
  pub text : List ℕ
  pub cause : CauseOf call end
  pub starts : StartsOf call end
  pub wanted : IsTextOf call.words call.files call.truth call.seats' end text
  pub said : Said out out' end result text

-- a call is of this task and these seats, which tell this truth
pub record IsAbout (call : Call) (task : Task) (truth : Option (Key → Outcome)) (seats seats' : List SeatState) : Type 0 where
  pub stated : StatesTask call.words call.files task
  pub tells : call.truth ≡ truth
  pub was : call.seats ≡ seats
  pub is : call.seats' ≡ seats'

-- a call runs this task, and its seats tell this truth
pub record Runs (call : Call) (task : Task) (truth : Option (Key → Outcome)) : Type 0 where
  pub run : IsRun call task
  pub tells : call.truth ≡ truth
