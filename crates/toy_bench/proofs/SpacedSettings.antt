-- The texts of settings, parted by one space.
use Rattle.std.specs.Prelude.{ℕ, ◌≡◌, List, [], ◌∷◌, ◌++◌, map, codes, refl}
use Rattle.std.specs.List.{join_by}
use Rattle.std.proofs.Common.{ap, ◌∙◌}
use Rattle.std.proofs.lemmas.List.{append-nil}
use Rattle.param_space.specs.Settings.{setting_text}
use Rattle.wrapper_lines.specs.declared.runs.Setting.{Setting}
use Rattle.toy_bench.specs.Outcomes.{printed}

-- texts parted by one space
spaced : List (List ℕ) → List ℕ
spaced [] = []
spaced (t ∷ []) = t
spaced (t ∷ u ∷ later) = t ++ (codes " " ++ spaced (u ∷ later))

join_by-spaced : {X : Type 0} (f : X → List ℕ) (xs : List X) → join_by f (codes " ") xs ≡ spaced (map f xs)
unfolding spaced
join_by-spaced f [] = refl
join_by-spaced f (x ∷ []) = append-nil (f x)
join_by-spaced f (x ∷ y ∷ later) = ap (λ r. f x ++ (codes " " ++ r)) (join_by-spaced f (y ∷ later))

printed-spaced : (settings : List Setting) → spaced (map (λ s. setting_text (s.name, s.value)) settings) ≡ printed settings
unfolding spaced
printed-spaced [] = refl
printed-spaced (s ∷ []) = refl
printed-spaced (s ∷ t ∷ later) = ap (λ r. setting_text (s.name, s.value) ++ (codes " " ++ r)) (printed-spaced (t ∷ later))

-- what joining the texts of settings gives
pub joined : {X : Type 0} (f : X → List ℕ) (xs ys : List X) (settings : List Setting) → ys ≡ xs → map f xs ≡ map (λ s. setting_text (s.name, s.value)) settings → join_by f (codes " ") ys ≡ printed settings
joined f xs ys settings same are = ap (join_by f (codes " ")) same ∙ join_by-spaced f xs ∙ ap spaced are ∙ printed-spaced settings
