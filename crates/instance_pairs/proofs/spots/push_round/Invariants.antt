use Rattle.std.proofs.Common.{◌≡◌, ◌+◌, ◌*◌}
use Rattle.scenario_files.specs.declared.draft.PairOrder.TheVariants.{Shuffled}
use Rattle.instance_pairs.specs.Pairs.{spots_to}
use Rattle.instance_pairs.proofs.spots.push_round.Given as goal

-- the spots of the earlier rounds and of the positions so far
abbrev pub invariant-loop-position : goal.invariant-loop-position
invariant-loop-position l = l.spots.items ≡ spots_to Shuffled l.draws l.count (l.round * l.count + l.position)
