-- Settings and their text, one setting after another.
use Rattle.std.proofs.Common.{◌≡◌, ◌<◌, ◌≤◌, ◌+◌, ◌==◌, ◌++◌, ◌∙◌, ℕ, Bool, true, false, cond, List, [], ◌∷◌, length, get_or, refl, sym, ap, arith, append_assoc}
use Rattle.std.specs.Prelude.{codes}
use Rattle.std.specs.List.{slice_index_or}
use Rattle.std.proofs.lemmas.Bool.Decides.{nat_tests}
use Rattle.std.proofs.lemmas.List.{get_or_read, length-append}
use Rattle.param_space.specs.Limits
use Rattle.param_space.specs.declared.lists.Param.{Param}
use Rattle.param_space.specs.Configurations.{is_active}
use Rattle.param_space.specs.Space.{Lists, Belongs}
use Rattle.param_space.specs.Settings.{named_values, at_places, active_values, setting_text, settings_text, with_setting}
use Rattle.param_space.proofs.ActiveValues.{named_value, values_until, passing_more}
use Rattle.param_space.proofs.BelongsLemmas.{read_value_in_range}

settings_text-more : (s : List ℕ × List ℕ) (ss : List (List ℕ × List ℕ)) (t : List ℕ × List ℕ)
    → settings_text (s ∷ ss ++ t ∷ []) ≡ settings_text (s ∷ ss) ++ (codes " " ++ setting_text t)
settings_text-more s [] t = refl
settings_text-more s (u ∷ us) t =
    let more : settings_text (u ∷ us ++ t ∷ []) ≡ settings_text (u ∷ us) ++ (codes " " ++ setting_text t) = settings_text-more u us t in
    ap (λ rest. setting_text s ++ (codes " " ++ rest)) more ∙ sym (append_assoc (setting_text s) (codes " " ++ settings_text (u ∷ us)) (codes " " ++ setting_text t))

-- settings have a text that isn't empty
some_text : (s : List ℕ × List ℕ) (ss : List (List ℕ × List ℕ)) → 0 < length (settings_text (s ∷ ss))
some_text s [] = omega (arith, length-append s.0 (codes "=" ++ s.1))
some_text s (t ∷ ss) = omega (arith, length-append (setting_text s) (codes " " ++ settings_text (t ∷ ss)))

-- settings with one more have the text with one more
with_one_more : (settings : List (List ℕ × List ℕ)) (s : List ℕ × List ℕ) → with_setting (settings_text settings) s ≡ settings_text (settings ++ s ∷ [])
with_one_more [] s = refl
with_one_more (t ∷ ts) s =
    let later : (length (settings_text (t ∷ ts)) == 0) ≡ false = (let some = some_text t ts in grind (arith, nat_tests, some)) in
    rw later (sym (settings_text-more t ts s))

-- a marked parameter that a loop reads at a place, and its value
pub record IsReading (marks : List Bool) (params : List Param) (values : List ℕ) (i : ℕ) (p : Param) (texts : List (List ℕ)) (text name value : List ℕ) : Type 0 where
  pub belongs : Belongs params values
  pub within : i < length params
  pub is : p ≡ get_or params i p
  pub texts-are : texts ≡ p.values
  pub read : text ≡ get_or texts (get_or values i 0) text
  pub name-is : name ≡ p.name
  pub value-is : value ≡ text
  pub marked : slice_index_or marks i false ≡ true

-- it is the parameter's name and its value there
read_setting : (marks : List Bool) (params : List Param) (values : List ℕ) (i : ℕ) (p : Param) (texts : List (List ℕ)) (text name value : List ℕ)
    → IsReading marks params values i p texts text name value → (name, value) ≡ named_value (get_or params i p) (get_or values i 0)
read_setting marks params values i p texts text name value r =
    let below = read_value_in_range params values i p texts r.belongs r.within r.is r.texts-are in
    let same_texts : texts ≡ (get_or params i p).values = r.texts-are ∙ ap (λ q. q.values) r.is in
    let same_name : name ≡ (get_or params i p).name = r.name-is ∙ ap (λ q. q.name) r.is in
    let same_value : value ≡ get_or (get_or params i p).values (get_or values i 0) [] = r.value-is ∙ get_or_read texts (get_or values i 0) text below r.read [] ∙ ap (λ xs. get_or xs (get_or values i 0) []) same_texts in
    λ k. (same_name k, same_value k)

-- the settings so far with one more
pub one_read : (marks : List Bool) (params : List Param) (values : List ℕ) (i : ℕ) (p : Param) (texts : List (List ℕ)) (text name value : List ℕ) (before : List (List ℕ × List ℕ)) → IsReading marks params values i p texts text name value
    → before ≡ values_until (λ k. slice_index_or marks k false) params values i → before ++ (name, value) ∷ [] ≡ values_until (λ k. slice_index_or marks k false) params values (i + 1)
one_read marks params values i p texts text name value before r so_far =
    ap (λ ss. ss ++ (name, value) ∷ []) so_far
    ∙ ap (λ s. values_until (λ k. slice_index_or marks k false) params values i ++ s ∷ []) (read_setting marks params values i p texts text name value r)
    ∙ sym (passing_more (λ k. slice_index_or marks k false) params values i p r.belongs r.within r.marked)

-- the text of settings and one more
pub one_written : (settings : List (List ℕ × List ℕ)) (s : List ℕ × List ℕ) (before after : List ℕ) → before ≡ settings_text settings → after ≡ with_setting before s → after ≡ settings_text (settings ++ s ∷ [])
one_written settings s before after so_far made = made ∙ ap (λ t. with_setting t s) so_far ∙ with_one_more settings s

-- tests that agree below m keep the same elements
at_places-alike : {X : Type 0} (f g : ℕ → Bool) (m place : ℕ) (xs : List X) → place + length xs ≤ m → ((k : ℕ) → k < m → f k ≡ g k) → at_places f place xs ≡ at_places g place xs
at_places-alike f g m place [] h same = refl
at_places-alike f g m place (x ∷ xs) h same =
    let later : at_places f (place + 1) xs ≡ at_places g (place + 1) xs = at_places-alike f g m (place + 1) xs (omega (arith, h)) same in
    ap (λ b. cond b (x ∷ at_places f (place + 1) xs) (at_places f (place + 1) xs)) (same place (omega (arith, h)))
    ∙ ap (λ zs. cond (g place) (x ∷ zs) zs) later

-- the marked settings are the active ones
pub active_marked : (lists : Lists) (config : List ℕ) (marks : List Bool) (params : List Param) (values : List ℕ) → Belongs lists.params config → length lists.params ≤ Limits.max_params → params ≡ lists.params → values ≡ config
    → ((p : ℕ) → p < Limits.max_params → slice_index_or marks p false ≡ is_active lists config p)
    → at_places (λ k. slice_index_or marks k false) 0 (named_values params values) ≡ active_values lists config
active_marked lists config marks params values h few same same-values marked =
    let passes : ℕ → Bool = λ k. slice_index_or marks k false in
    let all : length (named_values lists.params config) ≡ length lists.params = length-all lists.params config h in
    ap (λ ps. at_places passes 0 (named_values ps values)) same
    ∙ ap (λ vs. at_places passes 0 (named_values lists.params vs)) same-values
    ∙ at_places-alike passes (is_active lists config) Limits.max_params 0 (named_values lists.params config) (omega (arith, all, few)) marked
  where
    length-all : (ps : List Param) (vs : List ℕ) → Belongs ps vs → length (named_values ps vs) ≡ length ps
    length-all [] vs h = refl
    length-all (p ∷ ps) [] h = absurd h
    length-all (p ∷ ps) (v ∷ vs) h = let more = length-all ps vs h.1 in omega (arith, more)
