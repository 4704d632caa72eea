-- What holds of each parameter, condition and clause of a space, and that it can be written.
use Rattle.std.specs.Prelude.{ℕ, zero, suc, ◌≡◌, ◌+◌, ◌<◌, true, false, not, nat_lt, List, [], ◌∷◌, ◌++◌, None, length, map, get_or, bytes_eq, All, refl}
use Rattle.std.specs.List.{list_any, list_all, slice_index_or}
use Rattle.std.proofs.Common.{sym, ◌∙◌, subst}
use Rattle.std.proofs.lemmas.Bool.{and_parts, and_from, or_from, or_left, or_right, not-true, not_from_false, both_ways, false_from_ne_true, ltb-true}
use Rattle.std.proofs.lemmas.List.{length-map}
use Rattle.std.proofs.lemmas.List.Elements.{All-nil, All-cons, All-head, All-tail, All-map, All-weaker}
use Rattle.std.proofs.lemmas.List.Folds.{list_any-append}
use Rattle.std.proofs.lemmas.List.Sums.{AllPass-from_list_all}
use Rattle.std.proofs.lemmas.Slice.Eq.{bytes_eq-Decides}
use Rattle.plain_text.specs.Words.{is_word}
use Rattle.param_space.specs.declared.lists.Param.{Param}
use Rattle.param_space.specs.declared.lists.Part.TheVariants as part
use Rattle.param_space.specs.Space.{names, value_count}
use Rattle.plain_text.specs.Texts.{texts_differ}
use Rattle.param_space.specs.Faults.{param_fault, later_params_fault, param_rules}
use Rattle.param_space.proofs.RuleLemmas.{rules_hold, none_here}
use Rattle.param_files.specs.PrintedLines.{param_name, value_of}
use Rattle.param_files.specs.StatementTokens.{are_values, is_form}
use Rattle.param_files.proofs.LineTokens.{param_stated}

-- ---- parameters

-- a parameter that keeps its own rules
pub record IsSoundParam (p : Param) : Type 0 where
  pub name : is_word p.name ≡ true
  pub values : are_values p.values ≡ true
  pub differ : texts_differ p.values ≡ true
  pub default : p.default < length p.values

-- such is a parameter without a fault
pub sound_param : (earlier : List (List ℕ)) (place : ℕ) (p : Param) → param_fault earlier place p ≡ None → IsSoundParam p
sound_param earlier place p h =
    let holds = rules_hold (param_rules earlier place p) h in
    let words = and_parts (is_word p.name) (list_all is_word p.values) holds.1.0 in
    record {
      name = words.0;
      values = and_from (nat_lt 0 (length p.values)) (list_all is_word p.values) holds.1.1.1.0 words.1;
      differ = holds.1.1.1.1.0;
      default = ltb-true p.default (length p.values) holds.1.1.1.1.1.0;
    }

-- each parameter of a space keeps its rules
pub sound_params : (earlier : List (List ℕ)) (place : ℕ) (params : List Param) → later_params_fault earlier place params ≡ None → All IsSoundParam params
sound_params earlier place [] h = All-nil IsSoundParam
sound_params earlier place (p ∷ later) h =
    let none = none_here part.Param place (param_fault earlier place p) (later_params_fault (earlier ++ p.name ∷ []) (place + 1) later) h in
    All-cons IsSoundParam p later (sound_param earlier place p none.0) (sound_params (earlier ++ p.name ∷ []) (place + 1) later none.1)

-- texts of parameters by number: what holds of each, and of the text where there is none
text_at : (P : List ℕ → Type 0) (texts : List (List ℕ)) (i : ℕ) → All P texts → i < length texts → P (get_or texts i [])
text_at P texts i h inside = h i [] inside

named : (params : List Param) → All IsSoundParam params → All (λ t. is_word t ≡ true) (names params)
named params h = All-map (λ t. is_word t ≡ true) (λ p. p.name) params (All-weaker IsSoundParam (λ p. is_word p.name ≡ true) (λ p sound. sound.name) params h)

-- the name of a parameter is a word
pub name_word : (params : List Param) (i : ℕ) → All IsSoundParam params → i < length params → is_word (param_name params i) ≡ true
name_word params i h inside = named params h i [] (subst (λ n. i < n) (sym (length-map params (λ p. p.name))) inside)

-- the values of the parameter with this number
abbrev pub values_at : List Param → ℕ → List (List ℕ)
values_at params p = slice_index_or (map (λ q. q.values) params) p []

-- there are so many
pub length-values_at : (params : List Param) (p : ℕ) → length (values_at params p) ≡ value_count params p
length-values_at [] p = refl
length-values_at (q ∷ params) zero = refl
length-values_at (q ∷ params) (suc p) = length-values_at params p

-- they are words
pub values_word : (params : List Param) (p : ℕ) → All IsSoundParam params → list_all is_word (values_at params p) ≡ true
values_word [] p h = refl
values_word (q ∷ params) zero h = (and_parts (nat_lt 0 (length q.values)) (list_all is_word q.values) (All-head IsSoundParam q params h).values).1
values_word (q ∷ params) (suc p) h = values_word params p (All-tail IsSoundParam q params h)

-- and differ
pub values_apart : (params : List Param) (p : ℕ) → All IsSoundParam params → texts_differ (values_at params p) ≡ true
values_apart [] p h = refl
values_apart (q ∷ params) zero h = (All-head IsSoundParam q params h).differ
values_apart (q ∷ params) (suc p) h = values_apart params p (All-tail IsSoundParam q params h)

-- a value of a parameter is a word
pub value_word : (params : List Param) (p v : ℕ) → All IsSoundParam params → v < value_count params p → is_word (value_of params p v) ≡ true
value_word params p v h inside =
    AllPass-from_list_all is_word (values_at params p) (values_word params p h) v [] (subst (λ n. v < n) (sym (length-values_at params p)) inside)

-- a parameter can be written
pub param_form : (p : Param) → IsSoundParam p → is_form (param_stated p) ≡ true
param_form p sound =
    let words = (and_parts (nat_lt 0 (length p.values)) (list_all is_word p.values) sound.values).1 in
    and_from (is_word p.name) _ sound.name (and_from (are_values p.values) _ sound.values (AllPass-from_list_all is_word p.values words p.default [] sound.default))

-- ---- names

-- a name among earlier ones is none of the later ones
earlier_apart : (earlier : List (List ℕ)) (place : ℕ) (params : List Param) (name : List ℕ) → list_any (bytes_eq name) earlier ≡ true → later_params_fault earlier place params ≡ None → list_any (bytes_eq name) (names params) ≡ false
earlier_apart earlier place [] name among h = refl
earlier_apart earlier place (p ∷ later) name among h =
    let none = none_here part.Param place (param_fault earlier place p) (later_params_fault (earlier ++ p.name ∷ []) (place + 1) later) h in
    let new = not-true (list_any (bytes_eq p.name) earlier) (rules_hold (param_rules earlier place p) none.0).1.1.0 in
    let other : bytes_eq name p.name ≡ false = false_from_ne_true (bytes_eq name p.name) (λ e. both_ways (list_any (bytes_eq p.name) earlier) new (subst (λ n. list_any (bytes_eq n) earlier ≡ true) ((bytes_eq-Decides name p.name).0 e) among)) in
    or_from (bytes_eq name p.name) (list_any (bytes_eq name) (names later)) other
    (earlier_apart (earlier ++ p.name ∷ []) (place + 1) later name
    (list_any-append (bytes_eq name) earlier (p.name ∷ []) ∙ or_left (list_any (bytes_eq name) earlier) _ among) none.1)

-- the names of a space differ
pub names_apart : (earlier : List (List ℕ)) (place : ℕ) (params : List Param) → later_params_fault earlier place params ≡ None → texts_differ (names params) ≡ true
names_apart earlier place [] h = refl
names_apart earlier place (p ∷ later) h =
    let none = none_here part.Param place (param_fault earlier place p) (later_params_fault (earlier ++ p.name ∷ []) (place + 1) later) h in
    let own : list_any (bytes_eq p.name) (earlier ++ p.name ∷ []) ≡ true = list_any-append (bytes_eq p.name) earlier (p.name ∷ []) ∙ or_right (list_any (bytes_eq p.name) earlier) _ (or_left (bytes_eq p.name p.name) false ((bytes_eq-Decides p.name p.name).1 refl)) in
    and_from (not (list_any (bytes_eq p.name) (names later))) (texts_differ (names later))
    (not_from_false (list_any (bytes_eq p.name) (names later)) (earlier_apart (earlier ++ p.name ∷ []) (place + 1) later p.name own none.1))
    (names_apart (earlier ++ p.name ∷ []) (place + 1) later none.1)
