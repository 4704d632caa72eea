use Rattle.std.proofs.Common.{refl, ◌∙◌, arith}
use Rattle.scenario_files.specs.declared.draft.PairOrder.TheVariants.{File}
use Rattle.instance_pairs.proofs.Rounds.{more_spots, file_spot, spots_are}
use Rattle.instance_pairs.proofs.spots.file_spots.Goals as goal

pub loop-earlier-preserved : goal.loop-earlier-preserved
loop-earlier-preserved c =
    c.in_ok-push.ensures.items
    ∙ more_spots File c.args.seed c.args.count c.loop-earlier.earlier c.loop-earlier.spots.items _ c.loop-earlier.invariant (file_spot c.args.seed c.args.count c.loop-earlier.earlier _ _ refl refl)

pub returns : goal.returns
returns c = spots_are File c.args.seed c.args.count c.args.max_runs c.loop-earlier.earlier c.loop-earlier.spots.items c.loop-earlier.invariant (omega arith)
