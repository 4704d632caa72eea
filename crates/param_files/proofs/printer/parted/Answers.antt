use Rattle.std.proofs.Common.{◌∙◌, take_all}
use Rattle.param_files.proofs.Commas.{joined}
use Rattle.param_files.proofs.printer.parted.Goals as goal

pub returns : goal.returns
returns c =
    let all = c.loop-text.invariant ∙ take_all c.loop-text.text-index c.args.texts.now c.loop-text-test.false in
    c.in_ok-join.ensures.ok ∙ joined (λ t. t.now) c.loop-text.listed.items c.deref.result.now c.args.texts.now c.deref.ensures.value all
