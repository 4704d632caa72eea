use Rattle.std.proofs.Common.{◌∙◌}
use Rattle.tune_front.specs.SaidTexts.{not_made}
use Rattle.tune_front.proofs.SaidTexts.{said_as}
use Rattle.tune_front.proofs.saying.say_made.Goals as goal

pub returns-in-Ok : goal.returns-in-Ok
returns-in-Ok g c = λ text e. said_as _ _ _ _ _ text (c.as_slice.ensures.value ∙ (rw c.in-Ok.is at e)) c.say.ensures

pub returns-in-Err : goal.returns-in-Err
returns-in-Err g c = λ text e. not_made c.say_no_memory.ensures
