use Rattle.std.proofs.Common.{◌≡◌, ◌*◌}
use Rattle.scenario_files.specs.declared.draft.PairOrder.TheVariants.{Shuffled}
use Rattle.instance_pairs.specs.Pairs.{spots_to}
use Rattle.instance_pairs.proofs.spots.shuffled_spots.Given as goal

-- the spots of the rounds so far
abbrev pub invariant-loop-round : goal.invariant-loop-round
invariant-loop-round l = l.spots.items ≡ spots_to Shuffled l.draws l.count (l.round * l.count)
