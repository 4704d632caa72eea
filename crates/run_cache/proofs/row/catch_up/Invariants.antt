use Rattle.std.proofs.Common.{◌≡◌, length}
use Rattle.std.specs.Vec.{vec_capacity}
use Rattle.run_cache.specs.Fronts.{IsBegun}
use Rattle.run_cache.proofs.row.catch_up.Given as goal

-- so many places are summed
abbrev pub invariant-loop-done : goal.invariant-loop-done
invariant-loop-done l = record {
  count : length l.sums.items ≡ l.done;
  begun : IsBegun l.places l.sums.items;
  room : vec_capacity l.sums ≡ vec_capacity l.initial.sums;
}
