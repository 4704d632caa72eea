use Rattle.std.proofs.Common.{◌≤◌, length, sym, subst, ◌∙◌, ap, arith}
use Rattle.instance_pairs.specs.Pairs.{spot_at}
use Rattle.instance_pairs.proofs.Places.{spot_read, read_below}
use Rattle.instance_pairs.proofs.pairs.Pairs.spot.Goals as goal

pub returns-clause-value : goal.returns-clause-value
returns-clause-value c =
    let p = c.self.inside in
    let last = subst (λ s. c.args.place ≤ s.max_runs) (sym c.self.view_is) c.requires.last in
    let read = spot_read p.order p.seed (length p.instances) p.max_runs p.spots c.as_slice.result.now c.args.place (record { instance = 0; seed = 0 }) c.self.invariant.1 c.as_slice.ensures c.requires.first last in
    read ∙ ap (λ s. spot_at s.order s.seed (length s.instances) c.args.place) c.self.view_is

pub returns-clause-below : goal.returns-clause-below
returns-clause-below c =
    let p = c.self.inside in
    let last = subst (λ s. c.args.place ≤ s.max_runs) (sym c.self.view_is) c.requires.last in
    let read = spot_read p.order p.seed (length p.instances) p.max_runs p.spots c.as_slice.result.now c.args.place (record { instance = 0; seed = 0 }) c.self.invariant.1 c.as_slice.ensures c.requires.first last in
    let below = read_below p.order p.seed (length p.instances) c.args.place _ read c.self.invariant.0.some in
    omega (arith, below, ap (λ s. length s.instances) c.self.view_is)
