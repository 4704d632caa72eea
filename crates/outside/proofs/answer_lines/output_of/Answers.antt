use Rattle.std.proofs.Common.{◌<◌, ◌^◌, ap, ◌∙◌, arith}
use Rattle.std.proofs.lemmas.Result.{IfOk-weaker}
use Rattle.wrapper_lines.specs.ResultLines.{answer_of}
use Rattle.outside.specs.AnswerLines.{answer_line}
use Rattle.outside.proofs.AnswerLines.{answer_of-seen}
use Rattle.outside.proofs.answer_lines.output_of.Goals as goal

pub returns-clause-reads : goal.returns-clause-reads
returns-clause-reads c =
    let small : c.args.cutoff.0 < 2 ^ 64 = omega arith in
    IfOk-weaker c.line_text.result _ _ (λ t e. ap (λ l. answer_of l c.args.cutoff.0) (e ∙ ap answer_line c.seen.ensures) ∙ answer_of-seen c.args.outcome c.args.cutoff.0 small) c.line_text.ensures
