-- Lists whose items are equal are the same.
use Rattle.std.proofs.Common.{◌≡◌, Bool, true, false, List, [], ◌∷◌, refl}
use Rattle.std.specs.Cmp.Lexicographic.{pointwise}
use Rattle.std.specs.Str.{bytes_eq}
use Rattle.std.specs.Prelude.{ℕ}
use Rattle.std.proofs.lemmas.Bool.{and_parts}
use Rattle.std.proofs.lemmas.Slice.Eq.{bytes_eq-Decides}

-- lists are the same whose items are, where equal items are
pub same_items : {X : Type 0} (E : X → X → Bool) → ((x y : X) → E x y ≡ true → x ≡ y) → (xs ys : List X) → pointwise E xs ys ≡ true → xs ≡ ys
same_items E same [] [] equal = refl
same_items E same [] (y ∷ ys) equal = absurd (let e : false ≡ true = equal in cc)
same_items E same (x ∷ xs) [] equal = absurd (let e : false ≡ true = equal in cc)
same_items E same (x ∷ xs) (y ∷ ys) equal =
    let both = and_parts (E x y) (pointwise E xs ys) equal in
    let first = same x y both.0 in
    let rest = same_items E same xs ys both.1 in
    λ i. first i ∷ rest i

-- texts that are equal are the same
pub same_text : (one other : List ℕ) → bytes_eq one other ≡ true → one ≡ other
same_text one other equal = (bytes_eq-Decides one other).0 equal
