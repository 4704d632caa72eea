-- Entries of maps, one list after another, as a finite map.
use Rattle.std.proofs.Common.{◌≡◌, ◌<◌, ◌≤◌, arith, ℕ, Bool, true, false, cond, [], ◌∷◌, ◌++◌, Option, Some, None, bytes_eq, refl, sym, ◌∙◌, ap, subst, length, max}
use Rattle.std.proofs.lemmas.List.{append_assoc}
use Rattle.std.specs.Prelude.{Result, Ok, Err, OnOk}
use Rattle.std.specs.Ordering.{nat_cmp}
use Rattle.std.specs.Cmp.{eq_by_cmp_equiv}
use Rattle.std.specs.Cmp.Lexicographic.{slice_cmp, nat_list_cmp_total, texts_ties}
use Rattle.std.specs.FinMap as map
use Rattle.std.specs.List.{AllByRecursion, IsDistinct}
use Rattle.std.specs.Option.{option_or}
use Rattle.std.specs.Map.{keys_of, update_all}
use Rattle.std.proofs.lemmas.Cmp.{nat_list_eq_equiv}
use Rattle.std.proofs.lemmas.Map.Made.{update_all_distinct}
use Rattle.indexmap.specs.IndexMap.{IndexMap, insert_entry}
use Rattle.indexmap.proofs.CallerLemmas.{insert_entry-new}
use Rattle.uncapped.specs.Procedure.{Settings}
use Rattle.focused_ils.specs.Laws.Counting.{other_way, same_config}
use Rattle.focused_ils.specs.Counts.{Counts, count_of, count_in, raised, Pairs, at, IsPut}

-- the entries as a finite map; the first one of a configuration counts
abbrev pub map_of : Pairs → Counts
map_of es = map.from_entries es

-- ---- look-ups

at-find : (θ : Settings) (es : Pairs) → map.find (slice_cmp nat_cmp) θ es ≡ at θ es
at-find θ [] = refl
at-find θ (e ∷ es) = ap (λ b. cond b (Some e.1) (map.find (slice_cmp nat_cmp) θ es)) (sym (texts_ties θ e.0)) ∙ ap (cond (bytes_eq θ e.0) (Some e.1)) (at-find θ es)

pub get-map_of : (θ : Settings) (es : Pairs) → map.get (map_of es) θ ≡ at θ es
get-map_of θ es = map.get-from_entries nat_list_cmp_total es θ ∙ at-find θ es

chosen : (b : Bool) (n : ℕ) (a o : Option ℕ) → cond b (Some n) (option_or a o) ≡ option_or (cond b (Some n) a) o
chosen true n a o = refl
chosen false n a o = refl

at-append : (θ : Settings) (es fs : Pairs) → at θ (es ++ fs) ≡ option_or (at θ es) (at θ fs)
at-append θ [] fs = refl
at-append θ (e ∷ es) fs = ap (cond (bytes_eq θ e.0) (Some e.1)) (at-append θ es fs) ∙ chosen (bytes_eq θ e.0) e.1 (at θ es) (at θ fs)

-- the count of a configuration that is found, first or later, or not at all
module _ (θ : Settings) (es fs : Pairs) (counts : Counts) (same : map_of (es ++ fs) ≡ counts) where
  found : count_in counts θ ≡ count_of (option_or (at θ es) (at θ fs))
  found = ap (λ c. count_in c θ) (sym same) ∙ ap count_of (get-map_of θ (es ++ fs) ∙ at-append θ es fs)

  pub runs-first : (n : ℕ) → Some n ≡ at θ es → n ≡ count_in counts θ
  runs-first n e = sym (found ∙ ap (λ o. count_of (option_or o (at θ fs))) (sym e))

  pub runs-later : (n : ℕ) → None ≡ at θ es → Some n ≡ at θ fs → n ≡ count_in counts θ
  runs-later n e f = sym (found ∙ ap (λ o. count_of (option_or o (at θ fs))) (sym e) ∙ ap count_of (sym f))

  pub runs-none : None ≡ at θ es → None ≡ at θ fs → 0 ≡ count_in counts θ
  runs-none e f = sym (found ∙ ap (λ o. count_of (option_or o (at θ fs))) (sym e) ∙ ap count_of (sym f))

-- ---- one count is put

map_of-put : (es fs : Pairs) (k : Settings) (n : ℕ) → IsPut es fs k n → map_of fs ≡ map.insert (map_of es) k n
map_of-put es fs k n put = map.same_map nat_list_cmp_total (map.slice_cmp-IsAntisymmetric map.nat_cmp-IsAntisymmetric) (map_of fs) (map.insert (map_of es) k n)
    (λ q. get-map_of q fs ∙ put q ∙ sym (map.get-insert nat_list_cmp_total (map_of es) k n q
    ∙ ap (λ b. cond b (Some n) (map.get (map_of es) q)) ((eq_by_cmp_equiv nat_list_cmp_total).symm q k)
    ∙ ap (λ b. cond b (Some n) (map.get (map_of es) q)) (sym (texts_ties k q))
    ∙ ap (cond (bytes_eq k q) (Some n)) (get-map_of q es)))

put-first : (es fs rest : Pairs) (k : Settings) (n : ℕ) → IsPut es fs k n → IsPut (es ++ rest) (fs ++ rest) k n
put-first es fs rest k n put q = at-append q fs rest ∙ ap (λ o. option_or o (at q rest)) (put q) ∙ sym (chosen (bytes_eq k q) n (at q es) (at q rest)) ∙ ap (cond (bytes_eq k q) (Some n)) (sym (at-append q es rest))

module _ (counts : Counts) (k : Settings) (n runs most : ℕ) (is : runs ≡ count_in counts k) (greater : most ≡ max runs n) where
  raised-so : (es fs : Pairs) → map_of es ≡ counts → IsPut es fs k most → map_of fs ≡ raised counts k n
  raised-so es fs same put = map_of-put es fs k most put ∙ (λ i. map.insert (same i) k ((greater ∙ ap (λ m. max m n) is) i))

  -- a count put among those that are looked at first
  pub raised-first : (es fs rest : Pairs) → map_of (es ++ rest) ≡ counts → IsPut es fs k most → map_of (fs ++ rest) ≡ raised counts k n
  raised-first es fs rest same put = raised-so (es ++ rest) (fs ++ rest) same (put-first es fs rest k most put)

  no_pairs : (es : Pairs) → length es ≡ 0 → es ≡ []
  no_pairs [] e = refl
  no_pairs (p ∷ es) e = absurd (cc)

  -- a count put among the others, where none are looked at first
  pub raised-later : (first es fs : Pairs) → length first ≡ 0 → map_of (first ++ es) ≡ counts → IsPut es fs k most → map_of (first ++ fs) ≡ raised counts k n
  raised-later first es fs none same put =
      let e : first ≡ [] = no_pairs first none in
      ap (λ p. map_of (p ++ fs)) e ∙ raised-so es fs (ap (λ p. map_of (p ++ es)) (sym e) ∙ same) put

  -- the same by a call that may fail
  pub raised-first-ok : {A E : Type 0} (r : Result A E) (es fs rest : Pairs) → map_of (es ++ rest) ≡ counts → OnOk r (IsPut es fs k most) → OnOk r (map_of (fs ++ rest) ≡ raised counts k n)
  raised-first-ok (Ok a) es fs rest same put = raised-first es fs rest same put
  raised-first-ok (Err e) es fs rest same put = tt

  pub raised-later-ok : {A E : Type 0} (r : Result A E) (first es fs : Pairs) → length first ≡ 0 → map_of (first ++ es) ≡ counts → OnOk r (IsPut es fs k most) → OnOk r (map_of (first ++ fs) ≡ raised counts k n)
  raised-later-ok (Ok a) first es fs none same put = raised-later first es fs none same put
  raised-later-ok (Err e) first es fs none same put = tt

-- ---- a copy

among : (P : Settings → Type 0) (es : Pairs) (x : Settings × ℕ) (rest : Pairs) → AllByRecursion P (keys_of (es ++ x ∷ rest)) → P x.0
among P [] x rest h = h.0
among P (e ∷ es) x rest h = among P es x rest h.1

-- of distinct configurations one that stands later isn't among the former ones
pub at-later : (es : Pairs) (x : Settings × ℕ) (rest : Pairs) → IsDistinct bytes_eq (keys_of (es ++ x ∷ rest)) → at x.0 es ≡ None
unfolding IsDistinct
at-later [] x rest d = refl
at-later (e ∷ es) x rest d =
    ap (λ b. cond b (Some e.1) (at x.0 es)) (other_way x.0 e.0 (among (λ y. bytes_eq e.0 y ≡ false) es x rest d.0)) ∙ at-later es x rest d.1

-- one more entry of a map is copied
pub copied-more : {S : Type 0} (m : IndexMap Settings ℕ S) (key k : Settings) (v : ℕ) (left rest new whole : Pairs) → key ≡ k → left ≡ (k, v) ∷ rest
    → m.entries ++ left ≡ whole → IsDistinct bytes_eq (keys_of whole) → new ≡ insert_entry bytes_eq m.entries key v → new ++ rest ≡ whole
copied-more m key k v left rest new whole same taken kept distinct put =
    let so : m.entries ++ (k, v) ∷ rest ≡ whole = ap (λ l. m.entries ++ l) (sym taken) ∙ kept in
    let absent : at k m.entries ≡ None = at-later m.entries (k, v) rest (subst (λ w. IsDistinct bytes_eq (keys_of w)) (sym so) distinct) in
    ap (λ l. l ++ rest) (put ∙ ap (λ k. insert_entry bytes_eq m.entries k v) same ∙ insert_entry-new bytes_eq m k v absent)
    ∙ append_assoc m.entries ((k, v) ∷ []) rest ∙ so

-- ---- counts that come together

-- where those that were looked at first were inserted among the others, the counts are the same
pub gathered : (first others rest all : Pairs) → IsDistinct bytes_eq (keys_of first) → ((θ : Settings) → at θ all ≡ update_all bytes_eq (λ k. at k others) first θ) → rest ≡ []
    → map_of (rest ++ all) ≡ map_of (first ++ others)
gathered first others rest all distinct inserted none =
    ap (λ p. map_of (p ++ all)) none
    ∙ map.same_map nat_list_cmp_total (map.slice_cmp-IsAntisymmetric map.nat_cmp-IsAntisymmetric) (map_of all) (map_of (first ++ others))
    (λ θ. get-map_of θ all ∙ inserted θ ∙ update_all_distinct nat_list_eq_equiv bytes_eq (λ x y. refl) (λ k. at k others) first θ distinct
    ∙ sym (at-append θ first others) ∙ sym (get-map_of θ (first ++ others)))

-- ---- a count that isn't less already

of-count : (o : Option ℕ) (runs : ℕ) → runs ≡ count_of o → 0 < runs → o ≡ Some runs
of-count None runs e positive = absurd (omega (arith, e, positive))
of-count (Some m) runs e positive = ap Some (sym e)

kept-at : (b : Bool) (m : ℕ) (o : Option ℕ) → (b ≡ true → o ≡ Some m) → cond b (Some m) o ≡ o
kept-at true m o h = sym (h refl)
kept-at false m o h = refl

-- the counts stay where a configuration has so many runs
pub raised-kept : (counts : Counts) (k : Settings) (n runs : ℕ) → runs ≡ count_in counts k → 0 < runs → n ≤ runs → raised counts k n ≡ counts
raised-kept counts k n runs is positive enough =
    let most : max (count_in counts k) n ≡ runs = omega (arith, is, enough) in
    let here : map.get counts k ≡ Some runs = of-count (map.get counts k) runs is positive in
    ap (map.insert counts k) most
    ∙ map.same_map nat_list_cmp_total (map.slice_cmp-IsAntisymmetric map.nat_cmp-IsAntisymmetric) (map.insert counts k runs) counts
    (λ q. map.get-insert nat_list_cmp_total counts k runs q
    ∙ ap (λ b. cond b (Some runs) (map.get counts q)) (sym (texts_ties q k))
    ∙ kept-at (bytes_eq q k) runs (map.get counts q) (λ t. ap (map.get counts) (same_config q k t) ∙ here))
