-- A configuration as names and values, and as the text that is printed.
use Rattle.std.specs.Prelude.{ℕ, ◌+◌, ◌==◌, Bool, false, List, [], ◌∷◌, ◌++◌, length, codes, if◌then◌else◌}
use Rattle.std.specs.List.{slice_index_or}
use Rattle.param_space.specs.declared.lists.Param.{Param}
use Rattle.param_space.specs.declared.settings.NamedValue.{NamedValue}
use Rattle.param_space.specs.Space.{Lists}
use Rattle.param_space.specs.Configurations.{is_active}

-- each parameter's name and its value, in the order of the space
abbrev pub named_values : List Param → List ℕ → List (List ℕ × List ℕ)
named_values [] values = []
named_values (p ∷ ps) [] = []
named_values (p ∷ ps) (v ∷ vs) = (p.name, slice_index_or p.values v []) ∷ named_values ps vs

-- the elements whose places pass, of a list that stands from a place on
abbrev pub at_places : {X : Type 0} → (ℕ → Bool) → ℕ → List X → List X
at_places passes place [] = []
at_places passes place (x ∷ later) =
    if passes place then x ∷ at_places passes (place + 1) later else at_places passes (place + 1) later

-- each active parameter's name and its value, in the order of the space
abbrev pub active_values : Lists → List ℕ → List (List ℕ × List ℕ)
active_values lists config = at_places (is_active lists config) 0 (named_values lists.params config)

-- the name and the value of each marked parameter, in the order of the space
abbrev pub marked_values : List Param → List ℕ → List Bool → List (List ℕ × List ℕ)
marked_values params values marks = at_places (λ p. slice_index_or marks p false) 0 (named_values params values)

-- a name and a value as contracts see them
abbrev pub name_and_value : NamedValue → List ℕ × List ℕ
name_and_value s = (s.name.now, s.value.now)

-- `name=value`
abbrev pub setting_text : List ℕ × List ℕ → List ℕ
setting_text s = s.0 ++ (codes "=" ++ s.1)

-- the settings parted by one space
abbrev pub settings_text : List (List ℕ × List ℕ) → List ℕ
settings_text [] = []
settings_text (s ∷ []) = setting_text s
settings_text (s ∷ t ∷ later) = setting_text s ++ (codes " " ++ settings_text (t ∷ later))

-- a text of settings with one more setting
abbrev pub with_setting : List ℕ → List ℕ × List ℕ → List ℕ
with_setting text s = if length text == 0 then setting_text s else text ++ (codes " " ++ setting_text s)
