use Rattle.std.proofs.Common.{ap, sym, ◌∙◌}
use Rattle.std.proofs.lemmas.Result.{err_from_is_err_and}
use Rattle.param_files.specs.Reading.{all_numbered}
use Rattle.param_files.specs.KeptStatements.{numbered_with}
use Rattle.param_files.proofs.ByNumbers.{after_numbers, numbers_none, numbers_more, numbers_stops, numbers_all}
use Rattle.plain_text.proofs.LineFoldLemmas.{fault_moves}
use Rattle.param_files.proofs.numbering.all_by_numbers.Goals as goal

pub loop-line-init : goal.loop-line-init
loop-line-init c =
    numbers_none c.args.params.now c.args.relations.now ∙ ap (λ n. after_numbers n (all_numbered c.args.params.now c.args.relations.now)) (sym c.new-numbers.ensures)

pub loop-line-preserved : goal.loop-line-preserved
loop-line-preserved c =
    let params = c.args.params.now in
    numbers_more params c.args.relations.now c.loop-line.line-index c.loop-line-item.result c.loop-line.numbers c.add.new.self c.loop-line-test.true c.loop-line.invariant
    (ap (λ s. numbered_with params c.loop-line.numbers s.0 s.1) (sym c.loop-line-item.is) ∙ c.in_ok-add.ensures.value)

pub returns-in_err-add-clause-fault : goal.returns-in_err-add-clause-fault
returns-in_err-add-clause-fault c =
    let params = c.args.params.now in
    let relations = c.args.relations.now in
    let p = err_from_is_err_and c.from_residual.result c.from_residual.ensures.1 in
    rw (p.1, p.2) (fault_moves _ (numbered_with params c.loop-line.numbers c.loop-line-item.result.0 c.loop-line-item.result.1) (all_numbered params relations)
    (λ f h. numbers_stops params relations c.loop-line.line-index c.loop-line-item.result c.loop-line.numbers f c.loop-line-test.true c.loop-line.invariant
    (ap (λ s. numbered_with params c.loop-line.numbers s.0 s.1) (sym c.loop-line-item.is) ∙ h))
    c.in_err-add.ensures.fault)

pub returns-clause-value : goal.returns-clause-value
returns-clause-value c =
    numbers_all c.args.params.now c.args.relations.now c.loop-line.line-index c.loop-line.numbers c.loop-line-test.false c.loop-line.invariant
