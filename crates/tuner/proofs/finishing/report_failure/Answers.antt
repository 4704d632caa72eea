use Rattle.std.proofs.Common.{◌∙◌, ap}
use Rattle.std.proofs.lemmas.Result.{IfOk-weaker}
use Rattle.tuner.specs.Lines.{child_fault_line}
use Rattle.tuner.proofs.finishing.report_failure.Goals as goal

pub returns : goal.returns
returns g c =
    c.report.ensures _
    (IfOk-weaker c.run_line-line.result _ _
    (λ line e.
    e ∙ ap (λ i. child_fault_line i.rules.space c.args.cell.now.place c.args.cell.now.config) c.problem-inside.view_is
    ∙ ap (λ p. child_fault_line p.rules.space c.args.cell.now.place c.args.cell.now.config) c.problem.view_is)
    c.run_line-line.ensures)
