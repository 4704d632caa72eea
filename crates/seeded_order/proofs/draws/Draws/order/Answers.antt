use Rattle.std.proofs.Common.{rules, ◌≡◌, ◌<◌, ◌∙◌, All, map, sym, subst, ap, arith}
use Rattle.seeded_order.specs.Draws.{numbered_words}
use Rattle.seeded_order.proofs.Streams.{next_word_is}
use Rattle.seeded_order.proofs.Orders.{sorted_numbers, more_paired, All-order_of}
use Rattle.seeded_order.proofs.draws.Draws.order.Goals as goal

pub loop-number-preserved : goal.loop-number-preserved
loop-number-preserved c =
    let step = next_word_is c.args.self.now c.args.stream c.loop-number.number c.next_word.result c.loop-number.generator c.next_word.new.self c.next_word.ensures c.loop-number.invariant.drawn in
    record {
      drawn = step.1;
      paired = c.in_ok-push.ensures.items ∙ more_paired c.args.self.now c.args.stream c.loop-number.number c.next_word.result c.loop-number.pairs.items step.0 c.loop-number.invariant.paired;
    }

pub returns : goal.returns
returns c =
    let made : c.in_ok-collect.field-0.items ≡ map (λ p. p.1) c.sort.new.self.items = search rules in
    let all : c.loop-number.number ≡ c.args.n = omega arith in
    let paired = c.loop-number.invariant.paired ∙ ap (numbered_words c.args.self.now c.args.stream) all in
    let value = made ∙ sorted_numbers c.args.self.now c.args.stream c.args.n c.loop-number.pairs.items c.sort.new.self.items paired c.in_ok-sort.ensures.permutation c.in_ok-sort.ensures.sorted in
    record {
      value = value;
      below = subst (All (λ i. i < c.args.n)) (sym value) (All-order_of c.args.self.now c.args.stream c.args.n);
    }
