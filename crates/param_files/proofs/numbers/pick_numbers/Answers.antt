use Rattle.param_files.specs.Reading.{pick_numbered}
use Rattle.param_files.proofs.AllSome.{all_some_more, all_some_stops}
use Rattle.param_files.proofs.numbers.pick_numbers.Goals as goal

pub returns-in-None : goal.returns-in-None
returns-in-None c =
    all_some_stops (pick_numbered c.args.params.now) c.args.picks.now c.loop-pick.pick-index c.pick-item.result c.pick-item.result c.loop-pick-test.true c.pick-item.is c.in-None.ensures

pub loop-pick-preserved : goal.loop-pick-preserved
loop-pick-preserved c =
    all_some_more (pick_numbered c.args.params.now) c.args.picks.now c.loop-pick.pick-index c.pick-item.result c.pick-item.result c.loop-pick.numbers.items c.push.new.self.items c.in-Some.number c.loop-pick-test.true
    c.pick-item.is c.loop-pick.invariant c.in-Some.ensures c.in_ok-push-in-Some.ensures.items
