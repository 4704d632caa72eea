use Rattle.std.proofs.Common.{ap, sym, subst}
use Rattle.run_cache.specs.Knowledge.{IsInRange}
use Rattle.run_cache.proofs.Ranges.{low_in_range}
use Rattle.run_cache.proofs.RowLemmas.{AreRows-written, IsRow-set}
use Rattle.run_cache.proofs.cache.Cache.set.Goals as goal

pub invariant_of-self : goal.invariant_of-self
invariant_of-self c =
    let old = c.self.inside in
    let in_range = subst (λ l. IsInRange l c.args.known) (ap (λ v. v.limits) (sym c.self.view_is)) c.requires.in_range in
    let written = c.get_mut.follows.holds c.set.new.self in
    AreRows-written old.limits old.rows.entries (c.get_mut.follows.lender c.set.new.self).entries c.args.cell.now.config c.in-Some.row.now c.set.new.self c.self.invariant
    (sym c.in-Some.ensures.value) (IsRow-set old.limits c.in-Some.row.now c.set.new.self c.args.cell.now.place c.args.known in_range c.set.ensures) written.0

pub set-requires-clause-low : goal.set-requires-clause-low
set-requires-clause-low c =
    let in_range = subst (λ l. IsInRange l c.args.known) (ap (λ v. v.limits) (sym c.self.view_is)) c.requires.in_range in
    low_in_range c.self.inside.limits c.args.known c.are_ranged.ensures in_range
