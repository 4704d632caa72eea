use Rattle.std.proofs.Common.{◌≡◌, None, ap, sym, subst, ◌∙◌}
use Rattle.std.specs.Prelude.{bytes_eq}
use Rattle.std.specs.Map.{lookup}
use Rattle.indexmap.specs.IndexMap.{insert_entry}
use Rattle.run_cache.specs.Caches.{Cached, AreRows}
use Rattle.run_cache.proofs.RowLemmas.{AreExtended, AreExtended-written, AreExtended-inserted, Extends-tried, AreRows-written, AreRows-inserted, IsRow-tried, has_place-extended, known_in-extended, rows_unless, configs-inserted}
use Rattle.run_cache.proofs.cache.Cache.reserve.Goals as goal

pub invariant_of-self : goal.invariant_of-self
invariant_of-self c =
    let old = c.self.inside in
    let written = c.get_mut.follows.holds c.grow.new.self in
    AreRows-written old.limits old.rows.entries (c.get_mut.follows.lender c.grow.new.self).entries c.args.cell.now.config c.in-Some.row.now c.grow.new.self c.self.invariant
    (sym c.in-Some.ensures.value) (IsRow-tried old.limits c.grow.result c.args.cell.now.place c.in-Some.row.now c.grow.new.self c.grow.ensures.ok c.grow.ensures.err) written.0

-- the rows, where the configuration has one
extended : (c : goal.After-self-in-Some-1) → AreExtended c.self.inside.rows.entries (c.get_mut.follows.lender c.grow.new.self).entries
extended c =
    AreExtended-written c.self.inside.rows.entries (c.get_mut.follows.lender c.grow.new.self).entries c.args.cell.now.config c.in-Some.row.now c.grow.new.self
    (sym c.in-Some.ensures.value) (Extends-tried c.grow.result c.args.cell.now.place c.in-Some.row.now c.grow.new.self c.grow.ensures.ok c.grow.ensures.err)
    (c.get_mut.follows.holds c.grow.new.self).0

-- the cache with these rows
abbrev grown_cache : goal.After-self-in-Some-1 → Cached
grown_cache c = record { limits = c.self.inside.limits; conflicts = c.self.inside.conflicts; rows = (c.get_mut.follows.lender c.grow.new.self).entries }

pub returns-in-Some-clause-places : goal.returns-in-Some-clause-places
returns-in-Some-clause-places c = has_place-extended c.args.self.now (grown_cache c) (subst (λ v. AreExtended v.rows (grown_cache c).rows) c.self.view_is (extended c))

pub returns-in-Some-clause-known : goal.returns-in-Some-clause-known
returns-in-Some-clause-known c = known_in-extended c.args.self.now (grown_cache c) (subst (λ v. AreExtended v.rows (grown_cache c).rows) c.self.view_is (extended c))

pub returns-in-Some-clause-err : goal.returns-in-Some-clause-err
returns-in-Some-clause-err c =
    rows_unless c.grow.result c.self.inside.rows.entries (grown_cache c).rows (bytes_eq c.args.cell.now.config) c.in-Some.row.now c.grow.new.self (sym c.in-Some.ensures.value)
    c.grow.ensures.err (c.get_mut.follows.holds c.grow.new.self).0
    (λ e. ap (λ rows. record { limits = c.self.inside.limits; conflicts = c.self.inside.conflicts; rows = rows }) e ∙ c.self.view_is)

pub invariant_of-self-2 : goal.invariant_of-self-2
invariant_of-self-2 c =
    let m = c.get_mut.follows.lender-at-none in
    let old = subst (λ n. AreRows c.self.inside.limits n.entries) (sym c.get_mut.follows.holds-at-none) c.self.invariant in
    AreRows-inserted c.self.inside.limits c.insert.result m.entries c.insert.new.self.entries c.in_ok-config.config c.args.cell.now.place c.in_ok-row.row
    c.in_ok-row.ensures c.insert.ensures.entries c.insert.ensures.err old

pub returns-clause-known : goal.returns-clause-known
returns-clause-known c =
    let m = c.get_mut.follows.lender-at-none in
    let key : c.in_ok-config.config ≡ c.args.cell.now.config = c.in_ok-config.ensures in
    let absent : lookup (bytes_eq c.args.cell.now.config) c.self.inside.rows.entries ≡ None = sym (c.in_default.ensures.value) in
    let absent_key = subst (λ k. lookup (bytes_eq k) m.entries ≡ None) (sym key) (subst (λ n. lookup (bytes_eq c.args.cell.now.config) n.entries ≡ None) (sym c.get_mut.follows.holds-at-none) absent) in
    let all = AreExtended-inserted c.insert.result m c.insert.new.self c.in_ok-config.config c.args.cell.now.place c.in_ok-row.row absent_key c.in_ok-row.ensures c.insert.ensures.updates c.insert.ensures.err in
    let known = known_in-extended c.args.self.now (record { limits = c.self.inside.limits; conflicts = c.self.inside.conflicts; rows = c.insert.new.self.entries })
    (subst (λ v. AreExtended v.rows c.insert.new.self.entries) c.self.view_is (subst (λ n. AreExtended n.entries c.insert.new.self.entries) c.get_mut.follows.holds-at-none all)) in
    known

pub returns-clause-configs : goal.returns-clause-configs
returns-clause-configs c =
    let absent : lookup (bytes_eq c.args.cell.now.config) c.self.inside.rows.entries ≡ None = sym (c.in_default.ensures.value) in
    configs-inserted c.args.self.now (record { limits = c.self.inside.limits; conflicts = c.self.inside.conflicts; rows = c.insert.new.self.entries })
    c.args.cell.now.config c.in_ok-config.config c.in_ok-row.row
    (subst (λ v. lookup (bytes_eq c.args.cell.now.config) v.rows ≡ None) c.self.view_is absent) c.in_ok-config.ensures
    (c.in_ok-insert.ensures.entries ∙ ap (λ m. insert_entry bytes_eq m.entries c.in_ok-config.config c.in_ok-row.row) c.get_mut.follows.holds-at-none
    ∙ ap (λ v. insert_entry bytes_eq v.rows c.in_ok-config.config c.in_ok-row.row) c.self.view_is)
