use Rattle.std.proofs.Common.{◌≡◌}
use Rattle.scenario_files.specs.declared.draft.PairOrder.TheVariants.{File}
use Rattle.instance_pairs.specs.Pairs.{spots_to}
use Rattle.instance_pairs.proofs.spots.file_spots.Given as goal

-- the spots of the places so far
abbrev pub invariant-loop-earlier : goal.invariant-loop-earlier
invariant-loop-earlier l = l.spots.items ≡ spots_to File l.seed l.count l.earlier
