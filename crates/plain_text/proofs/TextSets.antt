-- Texts that differ, and the set of those that were seen.
use Rattle.std.proofs.Common.{ℕ, ◌≡◌, ◌<◌, ◌+◌, Bool, true, false, not, ◌&&◌, ◌||◌, cond, List, [], ◌∷◌, ◌++◌, Bor, length, get_or, take, drop, refl, ap, sym, ◌∙◌, bytes_eq}
use Rattle.std.specs.List.{list_any}
use Rattle.std.specs.Ordering.{nat_cmp}
use Rattle.std.specs.Cmp.Lexicographic.{slice_cmp}
use Rattle.std.specs.BTreeMap.{is_at}
use Rattle.std.specs.BTreeSet as tree
use Rattle.std.specs.BTreeSet.{BTreeSet}
use Rattle.std.specs.declared.cmp.Ordering.{Ordering}
use Rattle.std.proofs.lemmas.List.{take_more, take-append-drop}
use Rattle.std.proofs.lemmas.List.Folds.{list_any-append, list_any_more}
use Rattle.std.proofs.lemmas.Map.Text.{is_eq-slice_cmp}
use Rattle.plain_text.specs.Texts.{texts_differ}

regrouped : (a b c d : Bool) → (not (a || (b || false)) && (d && not c)) ≡ ((not a && d) && not (b || c))
regrouped true b c d = refl
regrouped false true c true = refl
regrouped false true c false = refl
regrouped false false c true = refl
regrouped false false c false = refl

-- one more text
differ-push : (xs : List (List ℕ)) (x : List ℕ) → texts_differ (xs ++ x ∷ []) ≡ (texts_differ xs && not (list_any (λ t. bytes_eq t x) xs))
differ-push [] x = refl
differ-push (y ∷ ys) x =
    ap (λ a. not a && texts_differ (ys ++ x ∷ [])) (list_any-append (bytes_eq y) ys (x ∷ []))
    ∙ ap (λ d. not (list_any (bytes_eq y) ys || (bytes_eq y x || false)) && d) (differ-push ys x)
    ∙ regrouped (list_any (bytes_eq y) ys) (bytes_eq y x) (list_any (λ t. bytes_eq t x) ys) (texts_differ ys)

both_false : (a b c : Bool) → b ≡ false → (not (a || c) && b) ≡ false
both_false true b c h = refl
both_false false b true h = refl
both_false false b false h = h

either_false : (a b c d : Bool) → (not a && b) ≡ false → (b ≡ false → d ≡ false) → (not (a || c) && d) ≡ false
either_false true b c d h k = refl
either_false false b true d h k = refl
either_false false b false d h k = k h

-- texts that are equal stay so before others
differ-append : (xs ys : List (List ℕ)) → texts_differ xs ≡ false → texts_differ (xs ++ ys) ≡ false
differ-append [] ys h = absurd (cc)
differ-append (x ∷ xs) ys h =
    ap (λ a. not a && texts_differ (xs ++ ys)) (list_any-append (bytes_eq x) xs ys)
    ∙ either_false (list_any (bytes_eq x) xs) (texts_differ xs) (list_any (bytes_eq x) ys) (texts_differ (xs ++ ys)) h (differ-append xs ys)

-- one more text that was not seen
pub differ_more : (xs : List (List ℕ)) (i : ℕ) → i < length xs → texts_differ (take i xs) ≡ true → list_any (λ t. bytes_eq t (get_or xs i [])) (take i xs) ≡ false → texts_differ (take (i + 1) xs) ≡ true
differ_more xs i inside h new =
    ap texts_differ (take_more xs i [] inside) ∙ differ-push (take i xs) (get_or xs i []) ∙ rw (h, new) refl

-- a text that was seen
pub differ_stops : (xs : List (List ℕ)) (i : ℕ) → i < length xs → list_any (λ t. bytes_eq t (get_or xs i [])) (take i xs) ≡ true → false ≡ texts_differ xs
differ_stops xs i inside found =
    let here : texts_differ (take (i + 1) xs) ≡ false = ap texts_differ (take_more xs i [] inside) ∙ differ-push (take i xs) (get_or xs i []) ∙ rw found (last (texts_differ (take i xs))) in
    sym (ap texts_differ (sym (take-append-drop (i + 1) xs)) ∙ differ-append (take (i + 1) xs) (drop (i + 1) xs) here)
  where
    last : (b : Bool) → (b && false) ≡ false
    last true = refl
    last false = refl

-- how a set of texts compares them
abbrev pub by_text : Bor (List ℕ) → Bor (List ℕ) → Ordering
by_text x y = slice_cmp nat_cmp x.now y.now

-- whether a text stands among the first of these
abbrev pub among : List (List ℕ) → ℕ → List ℕ → Bool
among xs i x = list_any (λ t. bytes_eq t x) (take i xs)

-- what an insert answers
pub seen_before : (s : BTreeSet (Bor (List ℕ))) (xs : List (List ℕ)) (i : ℕ) (k : Bor (List ℕ)) (added : Bool) → ((q : Bor (List ℕ)) → tree.contains by_text s q ≡ among xs i q.now)
    → added ≡ not (tree.contains by_text s k) → k.now ≡ get_or xs i [] → among xs i (get_or xs i []) ≡ not added
seen_before s xs i k added seen is same = rw (← same, ← seen k, is) (sym (twice (tree.contains by_text s k)))
  where
    twice : (b : Bool) → not (not b) ≡ b
    twice true = refl
    twice false = refl

-- one more text in the set
pub seen_more : (s n : BTreeSet (Bor (List ℕ))) (xs : List (List ℕ)) (i : ℕ) (k q : Bor (List ℕ)) → i < length xs → k.now ≡ get_or xs i []
    → tree.contains by_text s q ≡ among xs i q.now → tree.contains by_text n q ≡ cond (is_at (by_text k) q) true (tree.contains by_text s q) → tree.contains by_text n q ≡ among xs (i + 1) q.now
seen_more s n xs i k q inside same before after =
    after
    ∙ rw (is_eq-slice_cmp k.now q.now, before, same) (either (bytes_eq (get_or xs i []) q.now) (among xs i q.now))
    ∙ sym (list_any_more (λ t. bytes_eq t q.now) xs i [] inside)
  where
    either : (b x : Bool) → cond b true x ≡ (x || b)
    either true true = refl
    either true false = refl
    either false true = refl
    either false false = refl
