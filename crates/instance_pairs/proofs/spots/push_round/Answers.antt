use Rattle.std.proofs.Common.{◌≡◌, ◌<◌, ◌+◌, ◌*◌, length, get_or, ap, ◌∙◌, arith}
use Rattle.scenario_files.specs.declared.draft.PairOrder.TheVariants.{Shuffled}
use Rattle.seeded_order.proofs.Orders.{length-order_of}
use Rattle.instance_pairs.specs.Pairs.{spots_to}
use Rattle.instance_pairs.proofs.Rounds.{more_spots, shuffled_spot}
use Rattle.instance_pairs.proofs.spots.push_round.Goals as goal

pub overflow_cast-position : goal.overflow_cast-position
overflow_cast-position c =
    let stream = 2 * c.from.result + 1 in
    let size : length c.as_slice-number-items.result.now ≡ c.args.count = ap length (c.as_slice-number-items.ensures.value ∙ c.in_ok-order.ensures.value) ∙ length-order_of c.args.draws.now stream c.args.count in
    omega (arith, size, c.requires.few)

pub overflow_add-count : goal.overflow_add-count
overflow_add-count c =
    let stream = 2 * c.from.result + 1 in
    let size : length c.as_slice-number-items.result.now ≡ c.args.count = ap length (c.as_slice-number-items.ensures.value ∙ c.in_ok-order.ensures.value) ∙ length-order_of c.args.draws.now stream c.args.count in
    omega (arith, size, c.requires.few)

pub loop-position-preserved : goal.loop-position-preserved
loop-position-preserved c =
    let draws = c.args.draws.now in
    let position = c.loop-position.position in
    let stream = 2 * c.from.result + 1 in
    let order = c.as_slice-number-items.ensures.value ∙ c.in_ok-order.ensures.value in
    let size : length c.as_slice-number-items.result.now ≡ c.args.count = ap length order ∙ length-order_of draws stream c.args.count in
    let short : position < c.args.count = omega (arith, size) in
    let is : stream ≡ 2 * c.args.round + 1 = ap (λ r. 2 * r + 1) c.from.ensures in
    let spot = shuffled_spot draws c.args.count c.args.round position _ c.word-word.result stream short is (ap (λ xs. get_or xs position 0) order) c.word-word.ensures in
    let next : c.args.round * c.args.count + position + 1 ≡ c.args.round * c.args.count + (position + 1) = omega arith in
    c.in_ok-push.ensures.items
    ∙ more_spots Shuffled draws c.args.count (c.args.round * c.args.count + position) c.loop-position.spots.items _ c.loop-position.invariant spot
    ∙ ap (spots_to Shuffled draws c.args.count) next

pub returns : goal.returns
returns c =
    let stream = 2 * c.from.result + 1 in
    let size : length c.as_slice-number-items.result.now ≡ c.args.count = ap length (c.as_slice-number-items.ensures.value ∙ c.in_ok-order.ensures.value) ∙ length-order_of c.args.draws.now stream c.args.count in
    let all : c.loop-position.position ≡ c.args.count = omega (arith, size) in
    let whole : c.args.round * c.args.count + c.loop-position.position ≡ (c.args.round + 1) * c.args.count = omega (arith, all) in
    c.loop-position.invariant ∙ ap (spots_to Shuffled c.args.draws.now c.args.count) whole
