-- An ask that is never the end, as a question.
use Rattle.std.specs.Prelude.{Bool, true, false, [], None, Some}
use Rattle.uncapped.specs.Procedure.{Question}
use Rattle.ils_face.specs.declared.asks.Ask.{Ask}
use Rattle.ils_face.specs.declared.asks.Ask.TheVariants.{Full, Versus, End}

-- whether something is asked for
abbrev pub is_question : Ask → Bool
is_question (Full config n) = true
is_question (Versus config n bound) = true
is_question End = false

-- what is asked for
abbrev pub question_seen : Ask → Question
question_seen (Full config n) = record { config = config; places = n; bound = None }
question_seen (Versus config n bound) = record { config = config; places = n; bound = Some bound.0 }
question_seen End = record { config = []; places = 0; bound = None }
