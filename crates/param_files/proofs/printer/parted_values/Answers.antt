use Rattle.std.proofs.Common.{◌∙◌, ap, map, take_all}
use Rattle.param_files.specs.PrintedLines.{value_of}
use Rattle.param_files.proofs.Commas.{joined}
use Rattle.param_files.proofs.printer.parted_values.Goals as goal

pub returns : goal.returns
returns c =
    let value = value_of c.args.params.now c.args.number in
    let all = c.loop-value.invariant ∙ ap (map value) (take_all c.loop-value.value-index c.args.values.now c.loop-value-test.false) in
    c.in_ok-join.ensures.ok ∙ joined (λ t. t.now) c.loop-value.chosen.items c.deref.result.now (map value c.args.values.now) c.deref.ensures.value all
