use Rattle.std.proofs.Common.{length, ap, sym, ◌∙◌, arith}
use Rattle.instance_pairs.specs.Pairs.{seed_at}
use Rattle.instance_pairs.proofs.Places.{instance_read, no_seed, own_seed}
use Rattle.instance_pairs.proofs.pairs.Pairs.pair.Goals as goal
use Rattle.instance_pairs.proofs.pairs.Pairs.pair.Goals.{then-self, else-self}

pub bounds-as_slice-spot : goal.bounds-as_slice-spot
bounds-as_slice-spot c = omega (arith, c.spot-spot.ensures.below, ap length (c.as_slice.ensures ∙ ap (λ s. s.instances) c.self.view_is))

pub returns-clause-instance : goal.returns-clause-instance
returns-clause-instance c =
    let s = c.args.self.now in
    let same = c.as_slice.ensures ∙ ap (λ p. p.instances) c.self.view_is in
    c.as_str.ensures ∙ ap (λ i. i.name) (instance_read s.order s.seed c.args.place s.instances c.as_slice.result.now c.spot-spot.result c.index-as_slice-spot.result c.spot-spot.ensures.value c.spot-spot.ensures.some same c.index-as_slice-spot.is)

pub returns-clause-specifics : goal.returns-clause-specifics
returns-clause-specifics c =
    let s = c.args.self.now in
    let same = c.as_slice.ensures ∙ ap (λ p. p.instances) c.self.view_is in
    c.as_str-2.ensures ∙ ap (λ i. i.specifics) (instance_read s.order s.seed c.args.place s.instances c.as_slice.result.now c.spot-spot.result c.index-as_slice-spot.result c.spot-spot.ensures.value c.spot-spot.ensures.some same c.index-as_slice-spot.is)

pub returns-clause-seed : goal.returns-clause-seed
returns-clause-seed c =
    let s = c.args.self.now in
    let seed = seed_at s.order s.seed (length s.instances) c.args.place in
    let seen = ap (λ p. p.deterministic) c.self.view_is in
    elim c.if-self.branch [
      | then-self w ↦ no_seed s.deterministic c.if-self.result seed w.result-is (sym seen ∙ w.if-self.true)
      | else-self w ↦ own_seed s.deterministic c.if-self.result seed (w.result-is ∙ ap (λ p. p.seed) c.spot-spot.ensures.value) (sym seen ∙ w.if-self.false)
    ]
