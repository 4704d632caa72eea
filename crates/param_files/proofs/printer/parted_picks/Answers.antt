use Rattle.std.proofs.Common.{◌∙◌, ap, map, take_all}
use Rattle.std.specs.Prelude.{string_bytes}
use Rattle.param_files.specs.PrintedLines.{pick_text}
use Rattle.param_files.proofs.Commas.{joined}
use Rattle.param_files.proofs.printer.parted_picks.Goals as goal

pub returns : goal.returns
returns c =
    let text = pick_text c.args.params.now in
    let all = c.loop-pick.invariant ∙ ap (map text) (take_all c.loop-pick.pick-index c.args.picks.now c.loop-pick-test.false) in
    c.in_ok-join.ensures.ok ∙ joined (λ t. string_bytes t) c.loop-pick.pairs.items c.deref.result.now (map text c.args.picks.now) c.deref.ensures.value all
