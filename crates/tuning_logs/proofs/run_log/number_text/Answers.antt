use Rattle.std.proofs.Common.{◌∙◌, ap}
use Rattle.std.proofs.lemmas.Result.{IfOk-weaker}
use Rattle.std.specs.List.{list_all}
use Rattle.tuning_logs.specs.FieldBytes.{is_plain}
use Rattle.tuning_logs.proofs.FieldTexts.{number_plain}
use Rattle.tuning_logs.proofs.run_log.number_text.Goals as goal

pub returns-clause-plain : goal.returns-clause-plain
returns-clause-plain c =
    IfOk-weaker c.new.result _ _
    (λ t e. ap (list_all is_plain) (e ∙ c.in_ok-format.ensures.ok) ∙ number_plain c.args.number c.ranges.number.fits)
    c.new.ensures
