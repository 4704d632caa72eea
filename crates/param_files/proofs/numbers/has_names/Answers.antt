use Rattle.std.proofs.Common.{not, sym, ap, ◌∙◌}
use Rattle.std.specs.Option.{is_some}
use Rattle.param_files.specs.Reading.{param_number}
use Rattle.param_files.proofs.AllSome.{is_some_more, is_some_stops}
use Rattle.param_files.proofs.numbers.has_names.Goals as goal

pub returns-then-is_none : goal.returns-then-is_none
returns-then-is_none c =
    let params = c.args.params.now in
    is_some_stops (λ k. param_number params k.name) c.args.picks.now c.loop-pick.pick-index c.pick-item.result c.pick-item.result c.loop-pick-test.true c.pick-item.is
    (ap (λ name. is_some (param_number params name)) (sym c.as_str.ensures) ∙ ap is_some (sym c.param_number.ensures.value) ∙ c.is_none.ensures ∙ ap not c.if-is_none.true)

pub loop-pick-preserved : goal.loop-pick-preserved
loop-pick-preserved c =
    let params = c.args.params.now in
    is_some_more (λ k. param_number params k.name) c.args.picks.now c.loop-pick.pick-index c.pick-item.result c.pick-item.result c.loop-pick-test.true c.pick-item.is c.loop-pick.invariant
    (ap (λ name. is_some (param_number params name)) (sym c.as_str.ensures) ∙ ap is_some (sym c.param_number.ensures.value) ∙ c.is_none.ensures ∙ ap not c.if-is_none.false)
