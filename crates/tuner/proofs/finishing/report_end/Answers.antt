use Rattle.std.proofs.Common.{◌∙◌, ap}
use Rattle.std.proofs.lemmas.Result.{IfOk-weaker}
use Rattle.uncapped.specs.Procedure.{Incumbent}
use Rattle.ils_face.specs.Rules.{Rules}
use Rattle.tuning_logs.specs.EntryLines.{end_line}
use Rattle.tuner.proofs.finishing.report_end.Goals as goal

pub returns : goal.returns
returns g c =
    let last : Rules → Incumbent = λ rules. (g.P.Search.shown rules (g.P.Search.replies_of c.args.search.now)).last in
    c.report.ensures _
    (IfOk-weaker c.end_line-line.result _ _
    (λ line e.
    e ∙ ap (λ i. end_line i.rules.space (last (g.P.Search.rules_of c.args.search.now))) c.problem-inside.view_is
    ∙ ap (λ p. end_line p.rules.space (last (g.P.Search.rules_of c.args.search.now))) c.problem.view_is
    ∙ ap (λ r. end_line c.args.problem.now.rules.space (last r)) c.requires.rules)
    c.end_line-line.ensures)
