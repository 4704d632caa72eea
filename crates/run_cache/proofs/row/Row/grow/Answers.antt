use Rattle.std.proofs.Common.{rules, ◌≡◌, arith}
use Rattle.std.proofs.lemmas.List.{take_all}
use Rattle.std.specs.Vec.{vec_capacity}
use Rattle.run_cache.specs.Caches.{grown}
use Rattle.run_cache.proofs.RowSums.{summed-grown}
use Rattle.run_cache.proofs.row.Row.grow.Goals as goal

pub invariant_of-self-2 : goal.invariant_of-self-2
invariant_of-self-2 c =
    let grown_by : c.resize.new.self.items ≡ grown c.args.place c.self.inside.places.items = search (rules, take_all) in
    summed-grown c.self.inside.places.items c.resize.new.self.items c.self.inside.sums.items c.make_room.new.items.items _ (vec_capacity c.make_room.new.items) c.args.place
    c.self.invariant c.requires (omega arith) grown_by c.make_room.ensures.items c.in_ok-make_room.ensures.room
