use Rattle.std.proofs.Common.{◌≡◌, ◌≤◌, take}
use Rattle.std.specs.List.{flat_map}
use Rattle.outside.specs.WholePieces.{Took}
use Rattle.tune_front.proofs.saying.say_all.Given as goal

-- the lines so far were taken, and nothing else
abbrev pub invariant-loop-line : goal.invariant-loop-line
invariant-loop-line g l = record {
  end : l.end ≡ l.initial.end;
  taken : Took (g.O.Sink.told l.initial.out) (g.O.Sink.told l.out) (flat_map (λ line. line.items) (take l.line-index l.lines));
  counts : (g.O.Sink.told l.initial.out).faults ≤ (g.O.Sink.told l.out).faults;
  empties : (g.O.Sink.told l.initial.out).empties ≤ (g.O.Sink.told l.out).empties;
}
