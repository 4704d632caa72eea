use Rattle.std.proofs.Common.{◌+◌, sym, ◌∙◌, ap, not, ◌&&◌}
use Rattle.plain_text.specs.Texts.{texts_differ}
use Rattle.param_files.proofs.PickNames.{names_from, names_step}
use Rattle.param_files.proofs.line_rules.names_differ.Goals as goal

pub returns-then-has_pick : goal.returns-then-has_pick
returns-then-has_pick c =
    let picks = c.args.picks.now in
    let i = c.loop-i.i in
    sym (c.loop-i.invariant
    ∙ names_step picks i c.index-picks-i.result c.as_str.result.now c.has_pick.result c.loop-i-test.true c.index-picks-i.is c.as_str.ensures c.has_pick.ensures
    ∙ ap (λ b. not b && texts_differ (names_from picks (i + 1))) c.if-has_pick.true)

pub loop-i-preserved : goal.loop-i-preserved
loop-i-preserved c =
    let picks = c.args.picks.now in
    let i = c.loop-i.i in
    c.loop-i.invariant
    ∙ names_step picks i c.index-picks-i.result c.as_str.result.now c.has_pick.result c.loop-i-test.true c.index-picks-i.is c.as_str.ensures c.has_pick.ensures
    ∙ ap (λ b. not b && texts_differ (names_from picks (i + 1))) c.if-has_pick.false
