-- Of the entries before two asks of a run, those before the earlier one are the first ones.
use Rattle.std.proofs.Common.{ℕ, ◌≡◌, ◌≤◌, Bool, true, false, List, [], ◌∷◌, ◌++◌, length, filter, refl, sym, ap, ◌∙◌, arith}
use Rattle.std.specs.Prelude.{nat_le, if◌then◌else◌}
use Rattle.std.proofs.lemmas.Bool.{leb-true, le-leb}
use Rattle.std.proofs.lemmas.List.{length-map}
use Rattle.uncapped.specs.Procedure.{Incumbent, Addition}
use Rattle.uncapped.specs.Uncapped.{Run}
use Rattle.ils_face.specs.Replies.{entries_before}
use Rattle.ils_face.specs.Steady.{Grows}

-- of two first parts of a list the shorter one is a first part of the longer one
pub shorter_first : (a b x y : List Incumbent) → a ++ x ≡ b ++ y → length a ≤ length b → Grows a b
shorter_first [] b x y e low = record { added = b; grown = refl }
shorter_first (p ∷ a) [] x y e low = absurd (omega (arith, low))
shorter_first (p ∷ a) (q ∷ b) x y e low =
    let head : p ≡ q = cc in
    let tail : a ++ x ≡ b ++ y = cc in
    let g = shorter_first a b x y tail (omega (arith, low)) in
    record { added = g.added; grown = ap (λ es. q ∷ es) g.grown ∙ ap (λ e. e ∷ (a ++ g.added)) (sym head) }

-- what passes for a lesser number passes for a greater one
count_before : (k n : ℕ) → k ≤ n → (es : List Addition)
    → length (filter (λ a. nat_le a.asks_before k) es) ≤ length (filter (λ a. nat_le a.asks_before n) es)
count_before k n low [] = omega arith
count_before k n low (a ∷ es) = at_both (nat_le a.asks_before k) (nat_le a.asks_before n) passes (count_before k n low es)
  where
    at_both : (b c : Bool) → (b ≡ true → c ≡ true) → length (filter (λ a. nat_le a.asks_before k) es) ≤ length (filter (λ a. nat_le a.asks_before n) es)
        → length (if b then a ∷ filter (λ a. nat_le a.asks_before k) es else filter (λ a. nat_le a.asks_before k) es)
        ≤ length (if c then a ∷ filter (λ a. nat_le a.asks_before n) es else filter (λ a. nat_le a.asks_before n) es)
    at_both true true h fewer = omega (arith, fewer)
    at_both true false h fewer = absurd (let no = h refl in cc)
    at_both false true h fewer = omega (arith, fewer)
    at_both false false h fewer = fewer

    passes : nat_le a.asks_before k ≡ true → nat_le a.asks_before n ≡ true
    passes e = le-leb a.asks_before n (omega (arith, leb-true a.asks_before k e, low))

-- fewer entries came before an earlier ask
pub fewer_before : (run : Run) (k n : ℕ) → k ≤ n → length (entries_before run k) ≤ length (entries_before run n)
fewer_before run k n low =
    let entry : Addition → Incumbent = λ a. a.entry in
    let counted = count_before k n low run.entries in
    let former = length-map (filter (λ a. nat_le a.asks_before k) run.entries) entry in
    let later = length-map (filter (λ a. nat_le a.asks_before n) run.entries) entry in
    omega (arith, counted, former, later)
