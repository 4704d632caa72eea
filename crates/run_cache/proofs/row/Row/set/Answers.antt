use Rattle.std.proofs.Common.{◌-◌}
use Rattle.run_cache.proofs.RowSums.{begun-set}
use Rattle.run_cache.proofs.row.Row.set.Goals as goal

pub catch_up-requires-clause-begun : goal.catch_up-requires-clause-begun
catch_up-requires-clause-begun c =
    begun-set c.self.inside.places.items c.deref.result.now c.self.inside.sums.items c.truncate.new.self.items (c.args.place - 1) c.args.known
    c.self.invariant.summable.low c.self.invariant.are c.deref.ensures.value c.truncate.ensures.items
