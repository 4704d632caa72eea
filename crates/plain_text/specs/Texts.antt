-- Whether all elements of a list, or all texts, differ.
use Rattle.std.specs.Prelude.{ℕ, Bool, true, not, ◌&&◌, List, [], ◌∷◌, bytes_eq}
use Rattle.std.specs.List.{list_any}

-- no two elements are equal
abbrev pub differ : {X : Type 0} → (X → X → Bool) → List X → Bool
differ equal [] = true
differ equal (x ∷ xs) = not (list_any (equal x) xs) && differ equal xs

-- no two of the texts are equal
abbrev pub texts_differ : List (List ℕ) → Bool
texts_differ texts = differ bytes_eq texts
