use Rattle.std.proofs.Common.{length, ap, ◌∙◌, arith}
use Rattle.instance_pairs.proofs.Places.{instance_read}
use Rattle.instance_pairs.proofs.pairs.Pairs.instance.Goals as goal

pub bounds-as_slice-spot : goal.bounds-as_slice-spot
bounds-as_slice-spot c = omega (arith, c.spot-spot.ensures.below, ap length (c.as_slice.ensures ∙ ap (λ s. s.instances) c.self.view_is))

pub returns : goal.returns
returns c =
    let s = c.args.self.now in
    let same = c.as_slice.ensures ∙ ap (λ p. p.instances) c.self.view_is in
    instance_read s.order s.seed c.args.place s.instances c.as_slice.result.now c.spot-spot.result c.index-as_slice-spot.result c.spot-spot.ensures.value c.spot-spot.ensures.some same c.index-as_slice-spot.is
