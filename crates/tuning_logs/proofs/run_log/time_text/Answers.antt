use Rattle.std.proofs.Common.{◌∙◌, ap}
use Rattle.std.specs.List.{list_all}
use Rattle.std.proofs.lemmas.Result.{IfOk-weaker}
use Rattle.tuning_logs.specs.FieldBytes.{is_plain}
use Rattle.tuning_logs.proofs.FieldTexts.{seconds_plain}
use Rattle.tuning_logs.proofs.run_log.time_text.Goals as goal

pub returns-clause-plain : goal.returns-clause-plain
returns-clause-plain c = IfOk-weaker c.seconds_text.result _ _ (λ t e. ap (list_all is_plain) e ∙ seconds_plain c.args.micros c.ranges.micros.fits) c.seconds_text.ensures
