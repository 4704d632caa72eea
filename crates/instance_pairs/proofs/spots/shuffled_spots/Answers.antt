use Rattle.std.proofs.Common.{◌≡◌, ◌≤◌, ◌*◌, sym, subst, ◌∙◌, arith}
use Rattle.std.proofs.lemmas.Grind.{div_ceil_times}
use Rattle.scenario_files.specs.declared.draft.PairOrder.TheVariants.{Shuffled}
use Rattle.instance_pairs.proofs.Rounds.{spots_are}
use Rattle.instance_pairs.proofs.spots.shuffled_spots.Goals as goal

pub returns : goal.returns
returns c =
    let round = c.loop-round.round in
    let all : round ≡ c.div_ceil-round-end.result = omega arith in
    let enough : c.args.max_runs ≤ round * c.args.count =
    subst (λ r. c.args.max_runs ≤ r * c.args.count) (sym (all ∙ c.div_ceil-round-end.ensures)) (div_ceil_times c.args.max_runs c.args.count (omega (arith, c.requires.some))).0 in
    spots_are Shuffled c.args.draws c.args.count c.args.max_runs (round * c.args.count) c.loop-round.spots.items c.loop-round.invariant enough
