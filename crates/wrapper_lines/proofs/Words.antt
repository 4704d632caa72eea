-- The words of settings, and of the parts of a text.
use Rattle.std.proofs.Common.{ℕ, ◌≡◌, ◌+◌, ◌<◌, ◌∙◌, List, [], ◌∷◌, ◌++◌, take, map, length, slice_index_or, refl, sym, ap}
use Rattle.std.proofs.lemmas.List.{take-map, map_more}
use Rattle.wrapper_lines.specs.Runs.{setting_words}
use Rattle.wrapper_lines.specs.declared.runs.Setting.{Setting}

pub setting_words-append : (xs ys : List Setting) → setting_words (xs ++ ys) ≡ setting_words xs ++ setting_words ys
setting_words-append [] ys = refl
setting_words-append (x ∷ xs) ys = rw (setting_words-append xs ys)

-- one more element of what a function makes of a list
pub take_more-map : {X A : Type 0} (f : X → A) (xs : List X) (i : ℕ) (d : X) → i < length xs → take (i + 1) (map f xs) ≡ take i (map f xs) ++ f (slice_index_or xs i d) ∷ []
take_more-map f xs i d below =
    take-map f (i + 1) xs ∙ map_more f xs i d below ∙ ap (λ l. l ++ f (slice_index_or xs i d) ∷ []) (sym (take-map f i xs))
