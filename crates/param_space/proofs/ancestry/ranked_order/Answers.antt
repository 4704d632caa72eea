use Rattle.std.proofs.Common.{rules, ◌≡◌, ◌∙◌, map, length, slice_index, sym, subst, ap, arith}
use Rattle.std.proofs.lemmas.List.{get_or_read}
use Rattle.param_space.specs.Order.{no_condition, IsOrder}
use Rattle.param_space.proofs.RankedConditions.{ranked_pairs, ranked_more, sorted_is_order}
use Rattle.param_space.proofs.ancestry.ranked_order.Goals as goal

pub loop-i-preserved : goal.loop-i-preserved
loop-i-preserved c =
    c.in_ok-push.ensures.items ∙ ranked_more c.args.ranks.now c.args.conditions.now c.loop-i.i _ c.index-conditions-i.result c.loop-i.ranked.items (get_or_read c.args.conditions.now c.loop-i.i c.index-conditions-i.result c.loop-i-test.true c.index-conditions-i.is no_condition) (ap (slice_index c.args.ranks.now) c.from.ensures) c.loop-i.invariant

pub returns : goal.returns
returns c =
    let made : c.in_ok-collect.field-0.items ≡ map (λ p. p.1) c.sort.new.self.items = search rules in
    let all : c.loop-i.i ≡ length c.args.conditions.now = omega arith in
    let paired = c.loop-i.invariant ∙ ap (ranked_pairs c.args.ranks.now c.args.conditions.now) all in
    subst (IsOrder c.args.conditions.now) (sym made)
    (sorted_is_order c.args.ranks.now c.args.conditions.now c.loop-i.ranked.items c.sort.new.self.items c.requires.rises paired c.in_ok-sort.ensures.permutation c.in_ok-sort.ensures.sorted)
