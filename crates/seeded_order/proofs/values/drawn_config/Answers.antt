use Rattle.std.proofs.Common.{◌≤◌, ◌<◌, length, arith}
use Rattle.param_space.specs.Limits.{max_values}
use Rattle.seeded_order.proofs.Attempts.{read_has_values, more_drawn}
use Rattle.seeded_order.proofs.values.drawn_config.Goals as goal

pub nonzero_rem-next_word : goal.nonzero_rem-next_word
nonzero_rem-next_word c =
    (read_has_values c.args.params.now c.loop-param.param-index c.param-item.result c.as_slice-count.result.now c.requires c.loop-param-test.true c.param-item.is c.as_slice-count.ensures).0

pub overflow_cast-next_word-in-loop-param : goal.overflow_cast-next_word-in-loop-param
overflow_cast-next_word-in-loop-param c =
    let has = read_has_values c.args.params.now c.loop-param.param-index c.param-item.result c.as_slice-count.result.now c.requires c.loop-param-test.true c.param-item.is c.as_slice-count.ensures in
    let some : 0 < length c.as_slice-count.result.now = has.0 in
    let few : length c.as_slice-count.result.now ≤ max_values = has.1 in
    omega arith

pub loop-param-preserved : goal.loop-param-preserved
loop-param-preserved c seed stream k at =
    let before = c.loop-param.invariant seed stream k at in
    more_drawn seed stream k c.loop-param.param-index c.next_word.result c.args.params.now c.param-item.result c.as_slice-count.result.now c.loop-param.generator c.next_word.new.self c.loop-param.values.items c.push.new.self.items c.loop-param-test.true c.param-item.is c.as_slice-count.ensures c.next_word.ensures c.in_ok-push.ensures.items before.0 before.1
