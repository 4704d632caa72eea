use Rattle.std.proofs.Common.{[], ◌∙◌}
use Rattle.std.proofs.lemmas.Result.{err_from_is_err_and}
use Rattle.plain_text.specs.LineFolds.{fold_lines}
use Rattle.plain_text.specs.Lines.{numbered_lines}
use Rattle.plain_text.proofs.LineFoldLemmas.{fold-none, fold-all, fold-more, fold-stops}
use Rattle.instance_pairs.specs.Files.{with_line}
use Rattle.instance_pairs.proofs.reader.read_lines.Goals as goal

pub loop-line-init : goal.loop-line-init
loop-line-init c =
    fold-none with_line [] c.new-instances.result.items (numbered_lines c.args.text.now) c.into_iter-line-iterator.result c.new-instances.ensures.items
    (c.into_iter-line-iterator.ensures.into_iter_gives ∙ c.numbered_lines-line-items.ensures)

pub loop-line-preserved : goal.loop-line-preserved
loop-line-preserved c =
    fold-more with_line (fold_lines with_line [] (numbered_lines c.args.text.now)) c.loop-line.instances.items c.add_line.new.instances.items c.in-Some.line.number c.in-Some.line.bytes.now c.loop-line.line-iterator c.next.new.self
    c.loop-line.invariant c.in-Some.ensures.steps c.in_ok-add_line.ensures.value

pub returns-in_err-add_line-clause-fault : goal.returns-in_err-add_line-clause-fault
returns-in_err-add_line-clause-fault c =
    let p = err_from_is_err_and c.from_residual.result c.from_residual.ensures.1 in
    rw (p.1, p.2)
    (fold-stops with_line _ (fold_lines with_line [] (numbered_lines c.args.text.now)) c.loop-line.instances.items c.in-Some.line.number c.in-Some.line.bytes.now c.loop-line.line-iterator c.next.new.self
    c.loop-line.invariant c.in-Some.ensures.steps c.in_err-add_line.ensures.fault)

pub returns-clause-value : goal.returns-clause-value
returns-clause-value c =
    fold-all with_line (fold_lines with_line [] (numbered_lines c.args.text.now)) c.loop-line.instances.items c.loop-line.line-iterator c.loop-line.invariant c.in-None.ensures.steps.0
