-- Texts parted by a comma and a space, and the lines of a space one list after another.
use Rattle.std.specs.Prelude.{ℕ, ◌≡◌, List, [], ◌∷◌, ◌++◌, map, codes, refl}
use Rattle.std.specs.List.{join_by, flat_map}
use Rattle.std.proofs.Common.{ap, sym, ◌∙◌}
use Rattle.std.proofs.lemmas.List.{append-nil, append_assoc}
use Rattle.std.proofs.lemmas.List.Concat.{flat_map-append}
use Rattle.std.proofs.lemmas.List.Folds.{flat_map-map}
use Rattle.param_space.specs.declared.lists.Param.{Param}
use Rattle.param_space.specs.declared.lists.Condition.{Condition}
use Rattle.param_space.specs.declared.lists.Forbidden.{Forbidden}
use Rattle.param_space.specs.Space.{Lists}
use Rattle.param_files.specs.PrintedLines.{with_commas, param_line, condition_line, clause_line, space_text}

-- what joining gives
pub join_by-commas : {X : Type 0} (f : X → List ℕ) (xs : List X) → join_by f (codes ", ") xs ≡ with_commas (map f xs)
join_by-commas f [] = refl
join_by-commas f (x ∷ []) = append-nil (f x)
join_by-commas f (x ∷ y ∷ later) = ap (λ r. f x ++ (codes ", " ++ r)) (join_by-commas f (y ∷ later))

-- a line with its line feed
abbrev pub ended : List ℕ → List ℕ
ended line = line ++ codes "\n"

-- the text of a space is that of its parameters, its conditions and its clauses
pub space_text-parts : (lists : Lists) → space_text lists ≡ flat_map (λ p. ended (param_line p)) lists.params ++ (flat_map (λ c. ended (condition_line lists.params c)) lists.conditions ++ flat_map (λ f. ended (clause_line lists.params f)) lists.forbidden)
space_text-parts lists =
    flat_map-append ended (map param_line lists.params) (map (condition_line lists.params) lists.conditions ++ map (clause_line lists.params) lists.forbidden)
    ∙ ap (λ t. t ++ flat_map ended (map (condition_line lists.params) lists.conditions ++ map (clause_line lists.params) lists.forbidden)) (flat_map-map ended param_line lists.params)
    ∙ ap (λ t. flat_map (λ p. ended (param_line p)) lists.params ++ t)
    (flat_map-append ended (map (condition_line lists.params) lists.conditions) (map (clause_line lists.params) lists.forbidden)
    ∙ (λ i. flat_map-map ended (condition_line lists.params) lists.conditions i ++ flat_map-map ended (clause_line lists.params) lists.forbidden i))

-- what joining texts gives
pub joined : {X : Type 0} (f : X → List ℕ) (xs ys : List X) (texts : List (List ℕ)) → ys ≡ xs → map f xs ≡ texts → join_by f (codes ", ") ys ≡ with_commas texts
joined f xs ys texts same are = ap (join_by f (codes ", ")) same ∙ join_by-commas f xs ∙ ap with_commas are

-- the text of a space, made of the lines of one list after another
pub three_parts : (lists : Lists) (params : List Param) (conditions : List Condition) (clauses : List Forbidden) (start first second whole : List ℕ) → start ≡ []
    → first ≡ start ++ flat_map (λ p. ended (param_line p)) params
    → second ≡ first ++ flat_map (λ c. ended (condition_line params c)) conditions
    → whole ≡ second ++ flat_map (λ f. ended (clause_line params f)) clauses
    → params ≡ lists.params → conditions ≡ lists.conditions → clauses ≡ lists.forbidden → whole ≡ space_text lists
three_parts lists params conditions clauses start first second whole s f m w p c k =
    let front = flat_map (λ q. ended (param_line q)) params in
    let middle = flat_map (λ d. ended (condition_line params d)) conditions in
    let back = flat_map (λ e. ended (clause_line params e)) clauses in
    let same : whole ≡ front ++ (middle ++ back) = w ∙ ap (λ t. t ++ back) (m ∙ ap (λ t. t ++ middle) (f ∙ ap (λ t. t ++ front) s)) ∙ append_assoc front middle back in
    same ∙ (λ i. flat_map (λ q. ended (param_line q)) (p i) ++ (flat_map (λ d. ended (condition_line (p i) d)) (c i) ++ flat_map (λ e. ended (clause_line (p i) e)) (k i))) ∙ sym (space_text-parts lists)
