use Rattle.std.proofs.Common.{◌≤◌, length}
use Rattle.outside.proofs.TakenParts.{HasTaken}
use Rattle.outside.proofs.whole_pieces.write_whole.Given as goal

-- all but the rest was taken
abbrev pub invariant-loop-rest : goal.invariant-loop-rest
invariant-loop-rest g l = record {
  taken : HasTaken (g.O.Sink.told l.initial.out) (g.O.Sink.told l.out) l.piece l.rest;
  counts : (g.O.Sink.told l.initial.out).faults ≤ (g.O.Sink.told l.out).faults;
  empties : (g.O.Sink.told l.initial.out).empties ≤ (g.O.Sink.told l.out).empties;
}

abbrev pub decreases-loop-rest : goal.decreases-loop-rest
decreases-loop-rest g l = length l.rest
