-- The names of picks, one after another.
use Rattle.std.proofs.Common.{ℕ, ◌≡◌, ◌<◌, ◌+◌, ◌-◌, Bool, not, ◌&&◌, ◌||◌, List, [], ◌∷◌, length, get_or, map, take, drop, refl, ap, sym, ◌∙◌, bytes_eq}
use Rattle.std.specs.List.{list_any}
use Rattle.std.proofs.lemmas.List.{take_rest, drop_more}
use Rattle.plain_text.specs.Texts.{texts_differ}
use Rattle.param_files.specs.declared.statements.NamedPick.{NamedPick}

-- a test of names
pub list_any-map : {A B : Type 0} (test : B → Bool) (f : A → B) (xs : List A) → list_any test (map f xs) ≡ list_any (λ x. test (f x)) xs
list_any-map test f [] = refl
list_any-map test f (x ∷ xs) = ap (λ rest. test (f x) || rest) (list_any-map test f xs)

-- the names of picks from a place on
abbrev pub names_from : List NamedPick → ℕ → List (List ℕ)
names_from picks i = map (λ k. k.name) (drop i picks)

-- one pick and those after it
pub names_step : (picks : List NamedPick) (i : ℕ) (k : NamedPick) (name : List ℕ) (found : Bool) → i < length picks → k ≡ get_or picks i k → name ≡ k.name
    → found ≡ list_any (λ other. bytes_eq name other.name) (take (length picks - (i + 1)) (drop (i + 1) picks)) → texts_differ (names_from picks i) ≡ (not found && texts_differ (names_from picks (i + 1)))
names_step picks i k name found inside is same answer =
    let here : found ≡ list_any (bytes_eq (get_or picks i k).name) (names_from picks (i + 1)) =
    answer
    ∙ ap (λ xs. list_any (λ other. bytes_eq name other.name) xs) (take_rest picks (i + 1))
    ∙ ap (λ n. list_any (λ other. bytes_eq n other.name) (drop (i + 1) picks)) (same ∙ ap (λ p. p.name) is)
    ∙ sym (list_any-map (bytes_eq (get_or picks i k).name) (λ other. other.name) (drop (i + 1) picks)) in
    ap (λ xs. texts_differ (map (λ p. p.name) xs)) (drop_more picks i k inside)
    ∙ ap (λ b. not b && texts_differ (names_from picks (i + 1))) (sym here)
