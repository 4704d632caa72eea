use Rattle.std.proofs.Common.{arith, refl}
use Rattle.outside.proofs.TakenParts.{more_taken, more_taken_from, part_taken, refused_part}
use Rattle.outside.proofs.whole_pieces.write_whole.Goals as goal

pub returns-in-Ok-eq0-clause-part : goal.returns-in-Ok-eq0-clause-part
returns-in-Ok-eq0-clause-part g c = part_taken _ _ _ _ (more_taken _ _ _ _ _ _ c.loop-rest.invariant.taken c.in-Ok-eq0.ensures.took)

pub returns-in-Err-Failed-clause-part : goal.returns-in-Err-Failed-clause-part
returns-in-Err-Failed-clause-part g c = refused_part _ _ _ _ _ c.loop-rest.invariant.taken c.in-Err-Failed.ensures.refused

pub returns-in-Err-Memory-clause-part : goal.returns-in-Err-Memory-clause-part
returns-in-Err-Memory-clause-part g c = refused_part _ _ _ _ _ c.loop-rest.invariant.taken c.in-Err-Memory.ensures.refused

pub returns-clause-part : goal.returns-clause-part
returns-clause-part g c = part_taken _ _ _ _ c.loop-rest.invariant.taken

pub loop-rest-preserved : goal.loop-rest-preserved
loop-rest-preserved g c = record {
  taken = more_taken_from _ _ _ _ _ _ _ refl c.loop-rest.invariant.taken c.in-Ok.ensures.took;
  counts = omega arith;
  empties = omega arith;
}
