use Rattle.std.proofs.Common.{◌∙◌}
use Rattle.pool_run.proofs.runs.shown_answer.Goals as goal

pub returns-clause-answer : goal.returns-clause-answer
returns-clause-answer g c = λ outcome e. c.answer_of.ensures.value ∙ (rw c.requires.current at (c.output.ensures outcome e))
