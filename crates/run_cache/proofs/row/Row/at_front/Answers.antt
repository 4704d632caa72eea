use Rattle.std.proofs.Common.{◌≤◌, length, sym, ap, subst, arith}
use Rattle.objective.specs.Limits.{max_runs}
use Rattle.run_cache.specs.Fronts.{sums_of}
use Rattle.run_cache.proofs.RowSums.{summed-few}
use Rattle.run_cache.proofs.row.Row.at_front.Goals as goal

pub overflow_cast-sums : goal.overflow_cast-sums
overflow_cast-sums c =
    let few = summed-few c.self.inside.places.items c.self.inside.sums.items _ c.self.invariant in
    let are = ap length c.self.invariant.are in
    let read = ap length c.as_slice-sums.ensures.value in
    omega (arith, few, are, read)

pub returns-clause-few : goal.returns-clause-few
returns-clause-few c = subst (λ row. length (sums_of row) ≤ max_runs) c.self.view_is (summed-few c.self.inside.places.items c.self.inside.sums.items _ c.self.invariant)
