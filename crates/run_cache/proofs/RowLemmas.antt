-- Rows of a cache after a place is made or written.
use Rattle.std.proofs.Common.{ℕ, zero, suc, ◌≡◌, ◌-◌, ◌<◌, ◌≤◌, Bool, true, false, ◌&&◌, cond, List, [], ◌∷◌, ◌++◌, length, replicate, Option, Some, None, refl, sym, ap, subst, ◌∙◌, inl, inr, arith}
use Rattle.std.specs.Prelude.{◌⊎◌, IsTrue, IsSome, IfSome, Result, Ok, Err, OnOk, OnErr, ◌==◌, if◌then◌else◌, bytes_eq, nat_lt, nat_le, slice_set, slice_index_or, unwrap_or, is_some}
use Rattle.std.specs.Cmp.Lexicographic.{bytes_decides}
use Rattle.std.specs.Map.{lookup, set_value, keys_of, values_of}
use Rattle.std.proofs.lemmas.Cmp.{nat_list_eq_equiv}
use Rattle.std.proofs.lemmas.Bool.{cases_eq, cases_lt, and_parts, and_from, leb-true, le-leb, ltb-true, eq-eqb, ne_eqb}
use Rattle.std.proofs.lemmas.List.{length-set, get_or-set_same, get_or-set_other, get_or_append_left, get_or-append_right, get_or-replicate, get_or_past, length-append, length-replicate}
use Rattle.std.proofs.lemmas.Option.{same_Some, none-some}
use Rattle.std.proofs.lemmas.List.Elements.{All-set, All-nil, All-cons, All-head, All-tail, All-append, All-replicate}
use Rattle.std.proofs.lemmas.Map.{lookup-set_value, keys-set_value}
use Rattle.std.proofs.lemmas.Map.Views.{All-values-set_value, IfSome-lookup_from_All}
use Rattle.indexmap.specs.IndexMap.{IndexMap, Updates, insert_entry}
use Rattle.objective.specs.Bounds.{Bounds}
use Rattle.run_cache.specs.declared.cell.Cell.{Cell}
use Rattle.run_cache.specs.declared.known.Known.{Known}
use Rattle.run_cache.specs.declared.known.Known.TheVariants.{Nothing}
use Rattle.run_cache.specs.Knowledge.{IsInRange}
use Rattle.run_cache.specs.Caches.{Cached, Rows, row_of, known_at, known_in, has_place_in, is_at, known_after, grown, rows_with, IsRow, AreRows, configs_of, configs_with}

-- a row of a cache lies in its range
pub IsRow-row_of : (limits : Bounds) (rows : Rows) (config : List ℕ) → AreRows limits rows → IsRow limits (row_of rows config)
IsRow-row_of limits rows config all = by (lookup (bytes_eq config) rows) (IfSome-lookup_from_All (IsRow limits) (bytes_eq config) rows all)
  where
    by : (o : Option (List Known)) → IfSome o (IsRow limits) → IsRow limits (unwrap_or o [])
    by None h = All-nil (IsInRange limits)
    by (Some row) h = h

-- the rows after one that is there was written
pub AreRows-written : (limits : Bounds) (old new : Rows) (config : List ℕ) (row w : List Known) → AreRows limits old → lookup (bytes_eq config) old ≡ Some row
    → (IsRow limits row → IsRow limits w) → new ≡ set_value (bytes_eq config) old w → AreRows limits new
AreRows-written limits old new config row w all found keeps same =
    let here : IsRow limits row = subst (λ o. IfSome o (IsRow limits)) found (IfSome-lookup_from_All (IsRow limits) (bytes_eq config) old all) in
    subst (AreRows limits) (sym same) (All-values-set_value (bytes_eq config) (IsRow limits) old w all (keeps here))

-- a row after a place was written
pub IsRow-set : (limits : Bounds) (row w : List Known) (place : ℕ) (known : Known) → IsInRange limits known → w ≡ slice_set row (place - 1) known
    → IsRow limits row → IsRow limits w
IsRow-set limits row w place known in_range same all = subst (IsRow limits) (sym same) (All-set (IsInRange limits) row (place - 1) known in_range all)

-- what a cell with a place has
pub record IsPlaced (rows : Rows) (cell : Cell) : Type 0 where
  pub positive : 1 ≤ cell.place
  pub within : cell.place ≤ length (row_of rows cell.config)
  pub there : IsSome (lookup (bytes_eq cell.config) rows)

there_from_place : (o : Option (List Known)) (place : ℕ) → 1 ≤ place → place ≤ length (unwrap_or o []) → IsSome o
there_from_place None place from within = absurd (omega (arith, from, within))
there_from_place (Some row) place from within = refl

pub placed : (rows : Rows) (cell : Cell) → IsTrue (nat_lt 0 cell.place && nat_le cell.place (length (row_of rows cell.config))) → IsPlaced rows cell
placed rows cell h =
    let parts = and_parts (nat_lt 0 cell.place) (nat_le cell.place (length (row_of rows cell.config))) h in
    let from : 1 ≤ cell.place = omega (arith, ltb-true 0 cell.place parts.0) in
    let within : cell.place ≤ length (row_of rows cell.config) = leb-true _ _ parts.1 in
    record { positive = from; within = within; there = there_from_place (lookup (bytes_eq cell.config) rows) cell.place from within }

-- the row of a configuration after one row was written
pub row_of-set : (rows : Rows) (config : List ℕ) (w : List Known) (q : List ℕ) → IsSome (lookup (bytes_eq config) rows)
    → row_of (set_value (bytes_eq config) rows w) q ≡ cond (bytes_eq config q) w (row_of rows q)
row_of-set rows config w q there =
    ap (λ o. unwrap_or o []) (lookup-set_value nat_list_eq_equiv (bytes_eq config) (nat_list_eq_equiv.congr config) q w rows there)
    ∙ choose (bytes_eq config q) (lookup (bytes_eq q) rows)
  where
    choose : (b : Bool) (o : Option (List Known)) → unwrap_or (cond b (Some w) o) [] ≡ cond b w (unwrap_or o [])
    choose true o = refl
    choose false o = refl

-- what a row knows after a place was written
pub known_at-set : (row : List Known) (place : ℕ) (known : Known) (q : ℕ) → 1 ≤ place → place ≤ length row
    → known_at (slice_set row (place - 1) known) q ≡ (if place == q then known else known_at row q)
known_at-set row zero known q from within = absurd (omega (arith, from))
known_at-set row (suc p) known zero from within = rw (ne_eqb (suc p) 0 (λ e. omega (arith, e))) refl
known_at-set row (suc p) known (suc q) from within =
    let less : suc p - 1 ≡ p = omega arith in
    rw less (by (cases_eq p q))
  where
    by : (p ≡ q) ⊎ (p ≡ q → ⊥) → slice_index_or (slice_set row p known) q Nothing ≡ (if suc p == suc q then known else slice_index_or row q Nothing)
    by (inl same) = rw (eq-eqb (suc p) (suc q) (ap suc same)) (subst (λ r. slice_index_or (slice_set row p known) r Nothing ≡ known) same (get_or-set_same row p known Nothing (omega arith)))
    by (inr apart) = rw (ne_eqb (suc p) (suc q) (λ e. apart (omega arith))) (get_or-set_other row p q known Nothing (λ e. apart (sym e)))

-- what is known after one cell was written
pub known-with : (rows : Rows) (cell : Cell) (known : Known) → IsPlaced rows cell → (config : List ℕ) (place : ℕ)
    → known_at (row_of (rows_with rows cell known) config) place ≡ (if is_at cell config place then known else known_at (row_of rows config) place)
known-with rows cell known h config place =
    ap (λ r. known_at r place) (row_of-set rows cell.config (slice_set (row_of rows cell.config) (cell.place - 1) known) config h.there)
    ∙ by (bytes_eq cell.config config) refl
  where
    by : (b : Bool) → bytes_eq cell.config config ≡ b
        → known_at (cond b (slice_set (row_of rows cell.config) (cell.place - 1) known) (row_of rows config)) place
        ≡ (if b && (cell.place == place) then known else known_at (row_of rows config) place)
    by false e = refl
    by true e =
        let same : cell.config ≡ config = (bytes_decides cell.config config).0 e in
        known_at-set (row_of rows cell.config) cell.place known place h.positive h.within
        ∙ ap (λ c. if cell.place == place then known else known_at (row_of rows c) place) same

-- no row is longer or shorter after one cell was written
pub length-with : (rows : Rows) (cell : Cell) (known : Known) → IsPlaced rows cell → (config : List ℕ)
    → length (row_of (rows_with rows cell known) config) ≡ length (row_of rows config)
length-with rows cell known h config =
    ap length (row_of-set rows cell.config (slice_set (row_of rows cell.config) (cell.place - 1) known) config h.there)
    ∙ by (bytes_eq cell.config config) refl
  where
    by : (b : Bool) → bytes_eq cell.config config ≡ b
        → length (cond b (slice_set (row_of rows cell.config) (cell.place - 1) known) (row_of rows config)) ≡ length (row_of rows config)
    by false e = refl
    by true e = length-set (row_of rows cell.config) (cell.place - 1) known ∙ ap (λ c. length (row_of rows c)) ((bytes_decides cell.config config).0 e)

-- what a cache knows after one cell was written
pub known_in-set : (c d : Cached) (cell : Cell) (known : Known) → IsTrue (has_place_in c cell.config cell.place)
    → d.rows ≡ rows_with c.rows cell known → known_in d ≡ known_after (known_in c) cell known
known_in-set c d cell known has same =
    ap (λ rows config place. known_at (row_of rows config) place) same
    ∙ (λ i config place. known-with c.rows cell known (placed c.rows cell has) config place i)

-- the places of a cache after one cell was written
pub has_place_in-set : (c d : Cached) (cell : Cell) (known : Known) → IsTrue (has_place_in c cell.config cell.place)
    → d.rows ≡ rows_with c.rows cell known → has_place_in d ≡ has_place_in c
has_place_in-set c d cell known has same =
    ap (λ rows config place. nat_lt 0 place && nat_le place (length (row_of rows config))) same
    ∙ (λ i config place. nat_lt 0 place && nat_le place (length-with c.rows cell known (placed c.rows cell has) config i))

-- a row that knows the same, and is no shorter
pub record Extends (old new : List Known) : Type 0 where
  pub known : (place : ℕ) → known_at new place ≡ known_at old place
  pub longer : length old ≤ length new

-- rows that know the same, and are no shorter
pub record AreExtended (old new : Rows) : Type 0 where
  pub known : (config : List ℕ) (place : ℕ) → known_at (row_of new config) place ≡ known_at (row_of old config) place
  pub longer : (config : List ℕ) → length (row_of old config) ≤ length (row_of new config)

-- places that were only made know nothing
nothing_more : (n q : ℕ) → slice_index_or (replicate n Nothing) q Nothing ≡ Nothing
nothing_more n q = by (cases_lt q n)
  where
    by : (q < n) ⊎ (n ≤ q) → slice_index_or (replicate n Nothing) q Nothing ≡ Nothing
    by (inl inside) = get_or-replicate n q Nothing Nothing inside
    by (inr past) = get_or_past (replicate n Nothing) q Nothing (let all = length-replicate n Nothing in omega (arith, all, past))

-- a grown row lies in its range
pub IsRow-grown : (limits : Bounds) (place : ℕ) (row : List Known) → IsRow limits row → IsRow limits (grown place row)
IsRow-grown limits place row all =
    All-append (IsInRange limits) row (replicate (place - length row) Nothing) all (All-replicate (IsInRange limits) (place - length row) Nothing tt)

grown-known : (place : ℕ) (row : List Known) (q : ℕ) → known_at (grown place row) q ≡ known_at row q
grown-known place row zero = refl
grown-known place row (suc q) = by (cases_lt q (length row))
  where
    by : (q < length row) ⊎ (length row ≤ q) → slice_index_or (row ++ replicate (place - length row) Nothing) q Nothing ≡ slice_index_or row q Nothing
    by (inl inside) = get_or_append_left row (replicate (place - length row) Nothing) Nothing q inside
    by (inr past) =
        get_or-append_right row (replicate (place - length row) Nothing) (length row) q Nothing refl past
        ∙ nothing_more (place - length row) (q - length row) ∙ sym (get_or_past row q Nothing past)

-- a grown row
pub Extends-grown : (place : ℕ) (row : List Known) → Extends row (grown place row)
Extends-grown place row = record {
  known = grown-known place row;
  longer = let sum = length-append row (replicate (place - length row) Nothing) in omega (arith, sum);
}

-- a row that was to be grown, whether or not there was memory for that
pub Extends-tried : {E : Type 0} (r : Result (Unit {0}) E) (place : ℕ) (old new : List Known) → OnOk r (new ≡ grown place old) → OnErr r (new ≡ old)
    → Extends old new
Extends-tried (Ok u) place old new ok err = subst (Extends old) (sym ok) (Extends-grown place old)
Extends-tried (Err e) place old new ok err = subst (Extends old) (sym err) (record { known = λ q. refl; longer = omega arith })

-- the rows after one of them was extended
pub AreExtended-update : (old new : Rows) (config : List ℕ) (w : List Known)
    → ((q : List ℕ) → lookup (bytes_eq q) new ≡ cond (bytes_eq config q) (Some w) (lookup (bytes_eq q) old))
    → Extends (row_of old config) w → AreExtended old new
AreExtended-update old new config w update extends = record {
  known = λ q place. subst (λ o. known_at (unwrap_or o []) place ≡ known_at (row_of old q) place) (sym (update q)) (known (bytes_eq config q) q refl place);
  longer = λ q. subst (λ o. length (row_of old q) ≤ length (unwrap_or o [])) (sym (update q)) (longer (bytes_eq config q) q refl);
}
  where
    known : (b : Bool) (q : List ℕ) → bytes_eq config q ≡ b → (place : ℕ)
        → known_at (unwrap_or (cond b (Some w) (lookup (bytes_eq q) old)) []) place ≡ known_at (row_of old q) place
    known false q e place = refl
    known true q e place = extends.known place ∙ ap (λ c. known_at (row_of old c) place) ((bytes_decides config q).0 e)

    longer : (b : Bool) (q : List ℕ) → bytes_eq config q ≡ b → length (row_of old q) ≤ length (unwrap_or (cond b (Some w) (lookup (bytes_eq q) old)) [])
    longer false q e = omega arith
    longer true q e = subst (λ c. length (row_of old c) ≤ length w) ((bytes_decides config q).0 e) extends.longer

-- a row that was to be grown lies in its range
pub IsRow-tried : {E : Type 0} (limits : Bounds) (r : Result (Unit {0}) E) (place : ℕ) (old new : List Known) → OnOk r (new ≡ grown place old) → OnErr r (new ≡ old)
    → IsRow limits old → IsRow limits new
IsRow-tried limits (Ok u) place old new ok err row = subst (IsRow limits) (sym ok) (IsRow-grown limits place old row)
IsRow-tried limits (Err e) place old new ok err row = subst (IsRow limits) (sym err) row

-- the rows after one was put in
pub AreRows-insert : (limits : Bounds) (rows : Rows) (config : List ℕ) (w : List Known) → AreRows limits rows → IsRow limits w
    → AreRows limits (insert_entry bytes_eq rows config w)
AreRows-insert limits [] config w all row = All-cons (IsRow limits) w [] row (All-nil (IsRow limits))
AreRows-insert limits (e ∷ rows) config w all row =
    let rest = All-tail (IsRow limits) e.1 (values_of rows) all in
    by (bytes_eq config e.0) rest (AreRows-insert limits rows config w rest row)
  where
    by : (b : Bool) → AreRows limits rows → AreRows limits (insert_entry bytes_eq rows config w)
        → AreRows limits (if b then (e.0, w) ∷ rows else e ∷ insert_entry bytes_eq rows config w)
    by true rest more = All-cons (IsRow limits) w (values_of rows) row rest
    by false rest more = All-cons (IsRow limits) e.1 (values_of (insert_entry bytes_eq rows config w)) (All-head (IsRow limits) e.1 (values_of rows) all) more

-- a value that is written again
pub set_value-same : (rows : Rows) (test : List ℕ → Bool) (w : List Known) → lookup test rows ≡ Some w → set_value test rows w ≡ rows
set_value-same [] test w h = refl
set_value-same (e ∷ rows) test w h = by (test e.0) h (set_value-same rows test w)
  where
    by : (b : Bool) → cond b (Some e.1) (lookup test rows) ≡ Some w → (lookup test rows ≡ Some w → set_value test rows w ≡ rows)
        → cond b ((e.0, w) ∷ rows) (e ∷ set_value test rows w) ≡ e ∷ rows
    by true g rest = ap (λ v. (e.0, v) ∷ rows) (sym (same_Some e.1 w g))
    by false g rest = ap (λ l. e ∷ l) (rest g)

-- the rows after one that is there was extended
pub AreExtended-written : (old new : Rows) (config : List ℕ) (row w : List Known) → lookup (bytes_eq config) old ≡ Some row → Extends row w
    → new ≡ set_value (bytes_eq config) old w → AreExtended old new
AreExtended-written old new config row w found extends same =
    let there : IsSome (lookup (bytes_eq config) old) = subst (λ o. IsSome o) (sym found) refl in
    AreExtended-update old new config w
    (λ q. ap (lookup (bytes_eq q)) same ∙ lookup-set_value nat_list_eq_equiv (bytes_eq config) (nat_list_eq_equiv.congr config) q w old there)
    (subst (λ r. Extends r w) (sym (ap (λ o. unwrap_or o []) found)) extends)

-- the rows after a further one was to be put in, whether or not there was memory for that
pub AreExtended-inserted : {R E S : Type 0} (r : Result R E) (m n : IndexMap (List ℕ) (List Known) S) (config : List ℕ) (place : ℕ) (w : List Known)
    → lookup (bytes_eq config) m.entries ≡ None → w ≡ grown place [] → OnOk r (Updates bytes_eq m n config (Some w)) → OnErr r (n.entries ≡ m.entries)
    → AreExtended m.entries n.entries
AreExtended-inserted (Ok u) m n config place w absent same ok err =
    let empty : [] ≡ row_of m.entries config = sym (ap (λ o. unwrap_or o []) absent) in
    AreExtended-update m.entries n.entries config w ok.0 (subst (λ r. Extends r w) empty (subst (Extends []) (sym same) (Extends-grown place [])))
AreExtended-inserted (Err e) m n config place w absent same ok err =
    subst (AreExtended m.entries) (sym err) (record { known = λ q p. refl; longer = λ q. omega arith })

-- the rows after a further one was to be put in lie in their range
pub AreRows-inserted : {R E : Type 0} (limits : Bounds) (r : Result R E) (old new : Rows) (config : List ℕ) (place : ℕ) (w : List Known)
    → w ≡ grown place [] → OnOk r (new ≡ insert_entry bytes_eq old config w) → OnErr r (new ≡ old) → AreRows limits old → AreRows limits new
AreRows-inserted limits (Ok u) old new config place w same ok err all =
    subst (AreRows limits) (sym ok)
    (AreRows-insert limits old config w all (subst (IsRow limits) (sym same) (IsRow-grown limits place [] (All-nil (IsInRange limits)))))
AreRows-inserted limits (Err e) old new config place w same ok err all = subst (AreRows limits) (sym err) all

-- what a cache with extended rows knows
pub known_in-extended : (c d : Cached) → AreExtended c.rows d.rows → known_in d ≡ known_in c
known_in-extended c d extended = λ i config place. extended.known config place i

-- the places of a cache with extended rows
pub has_place-extended : (c d : Cached) → AreExtended c.rows d.rows → (config : List ℕ) (place : ℕ) → IsTrue (has_place_in c config place)
    → IsTrue (has_place_in d config place)
has_place-extended c d extended config place has =
    let parts = and_parts (nat_lt 0 place) (nat_le place (length (row_of c.rows config))) has in
    let within : place ≤ length (row_of c.rows config) = leb-true place (length (row_of c.rows config)) parts.1 in
    and_from (nat_lt 0 place) (nat_le place (length (row_of d.rows config))) parts.0
    (le-leb place (length (row_of d.rows config)) (let longer = extended.longer config in omega arith))

-- rows of which one couldn't grow are as they were
pub rows_unless : {E P : Type 0} (r : Result (Unit {0}) E) (old new : Rows) (test : List ℕ → Bool) (row w : List Known) → lookup test old ≡ Some row
    → OnErr r (w ≡ row) → new ≡ set_value test old w → (new ≡ old → P) → OnErr r P
rows_unless (Ok u) old new test row w found err same follows = tt
rows_unless (Err e) old new test row w found err same follows =
    follows (same ∙ ap (set_value test old) err ∙ set_value-same old test row found)

-- ---- which configurations are numbered

-- the keys after a further configuration was put in
keys-insert : (rows : Rows) (config : List ℕ) (w : List Known) → lookup (bytes_eq config) rows ≡ None
    → keys_of (insert_entry bytes_eq rows config w) ≡ keys_of rows ++ config ∷ []
keys-insert [] config w absent = refl
keys-insert (e ∷ rows) config w absent = by (bytes_eq config e.0) absent (keys-insert rows config w)
  where
    by : (b : Bool) → cond b (Some e.1) (lookup (bytes_eq config) rows) ≡ None
        → (lookup (bytes_eq config) rows ≡ None → keys_of (insert_entry bytes_eq rows config w) ≡ keys_of rows ++ config ∷ [])
        → keys_of (if b then (e.0, w) ∷ rows else e ∷ insert_entry bytes_eq rows config w) ≡ e.0 ∷ (keys_of rows ++ config ∷ [])
    by true none rest = absurd (none-some e.1 (sym none))
    by false none rest = ap (λ l. e.0 ∷ l) (rest none)

-- a configuration that has a row
pub configs-present : (c d : Cached) (config : List ℕ) → IsSome (lookup (bytes_eq config) c.rows) → configs_of d ≡ configs_of c
    → configs_of d ≡ configs_with c config
configs-present c d config there same = by (lookup (bytes_eq config) c.rows) there
  where
    by : (o : Option (List Known)) → IsSome o → configs_of d ≡ (if is_some o then configs_of c else configs_of c ++ config ∷ [])
    by (Some row) h = same
    by None h = absurd (cc)

-- a configuration that had none
pub configs-inserted : (c d : Cached) (config key : List ℕ) (w : List Known) → lookup (bytes_eq config) c.rows ≡ None → key ≡ config
    → d.rows ≡ insert_entry bytes_eq c.rows key w → configs_of d ≡ configs_with c config
configs-inserted c d config key w absent is same =
    ap keys_of same ∙ ap (λ k. keys_of (insert_entry bytes_eq c.rows k w)) is ∙ keys-insert c.rows config w absent
    ∙ sym (ap (λ o. if is_some o then configs_of c else configs_of c ++ config ∷ []) absent)

-- a row that was written again
pub configs-set : (c d : Cached) (cell : Cell) (known : Known) → d.rows ≡ rows_with c.rows cell known → configs_of d ≡ configs_of c
configs-set c d cell known same = ap keys_of same ∙ keys-set_value (bytes_eq cell.config) c.rows (slice_set (row_of c.rows cell.config) (cell.place - 1) known)
