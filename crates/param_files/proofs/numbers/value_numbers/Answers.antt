use Rattle.std.proofs.Common.{◌∙◌}
use Rattle.param_files.specs.Reading.{value_number}
use Rattle.param_files.proofs.AllSome.{all_some_more, all_some_stops}
use Rattle.param_files.proofs.numbers.value_numbers.Goals as goal

pub returns-in-None : goal.returns-in-None
returns-in-None c =
    all_some_stops (value_number c.args.params.now c.args.param) c.args.values.now c.loop-value.value-index c.value-item.result c.as_str.result.now c.loop-value-test.true
    (c.as_str.ensures ∙ c.value-item.is) c.in-None.ensures

pub loop-value-preserved : goal.loop-value-preserved
loop-value-preserved c =
    all_some_more (value_number c.args.params.now c.args.param) c.args.values.now c.loop-value.value-index c.value-item.result c.as_str.result.now c.loop-value.numbers.items c.push.new.self.items c.in-Some.number c.loop-value-test.true
    (c.as_str.ensures ∙ c.value-item.is) c.loop-value.invariant c.in-Some.ensures c.in_ok-push-in-Some.ensures.items
