use Rattle.std.proofs.Common.{◌∙◌, ap}
use Rattle.std.proofs.lemmas.Result.{IfOk-weaker}
use Rattle.tuner.specs.Lines.{aborted_line}
use Rattle.tuner.proofs.finishing.report_abort.Goals as goal

pub returns : goal.returns
returns g c =
    c.report.ensures _
    (IfOk-weaker c.run_line-line.result _ _
    (λ line e.
    e ∙ ap (λ i. aborted_line i.rules.space c.args.cell.place c.args.cell.config) c.problem-inside.view_is
    ∙ ap (λ p. aborted_line p.rules.space c.args.cell.place c.args.cell.config) c.problem.view_is)
    c.run_line-line.ensures)
