-- The statements of a space keep the rules of lines, one after another.
use Rattle.std.specs.Prelude.{ℕ, ◌≡◌, ◌+◌, Bool, true, not, ◌&&◌, ◌||◌, nat_lt, nat_le, List, [], ◌∷◌, ◌++◌, None, length, map, bytes_eq, All, refl}
use Rattle.std.specs.List.{list_any, filter, slice_index_or}
use Rattle.std.proofs.Common.{ap, sym, ◌∙◌, subst}
use Rattle.std.proofs.lemmas.List.{append-nil, append_assoc, length-map, map_push, length_push}
use Rattle.std.proofs.lemmas.List.Elements.{filter-append}
use Rattle.std.proofs.lemmas.List.Folds.{list_any_at}
use Rattle.std.proofs.lemmas.Slice.Eq.{bytes_eq-Decides}
use Rattle.param_space.specs.Limits
use Rattle.param_space.specs.declared.lists.Param.{Param}
use Rattle.param_space.specs.declared.lists.Condition.{Condition}
use Rattle.param_space.specs.declared.lists.Forbidden.{Forbidden}
use Rattle.param_space.specs.declared.lists.Part.TheVariants as part
use Rattle.param_space.specs.Space.{Lists, names}
use Rattle.plain_text.specs.Texts.{texts_differ}
use Rattle.param_space.specs.Faults.{first_in, param_fault, later_params_fault, params_fault, condition_fault, clause_fault, IsSpace, param_rules, condition_rules, clause_rules}
use Rattle.param_space.proofs.RuleLemmas.{rules_hold, none_here, none_broken}
use Rattle.param_files.specs.declared.statements.Statement.{Statement}
use Rattle.param_files.specs.declared.statements.Statement.TheVariants.{Nothing, Parameter, Condition as Conditional, Clause}
use Rattle.param_files.specs.PrintedLines.{value_of}
use Rattle.param_files.specs.Reading.{numbered_param, params_in, is_condition, is_clause, parameter_line_rules, fault_after, statement_fault}
use Rattle.param_files.specs.Reading
use Rattle.param_files.proofs.LineTokens.{param_stated, condition_stated, pick_stated, clause_stated, all_stated}
use Rattle.param_files.proofs.SoundParams.{IsSoundParam, sound_param, sound_params, names_apart}
use Rattle.param_files.proofs.SoundRelations.{sound_condition, sound_clause, condition_apart, clause_apart}

-- each statement keeps the rules of a line, after these and those before it
abbrev pub AreAccepted : List Statement → List Statement → Type 0
AreAccepted earlier [] = Unit {0}
AreAccepted earlier (s ∷ later) = (statement_fault earlier s ≡ None) × AreAccepted (earlier ++ s ∷ []) later

accepted_both : (earlier xs ys : List Statement) → AreAccepted earlier xs → AreAccepted (earlier ++ xs) ys → AreAccepted earlier (xs ++ ys)
accepted_both earlier [] ys h k = subst (λ e. AreAccepted e ys) (append-nil earlier) k
accepted_both earlier (s ∷ xs) ys h k =
    (h.0, accepted_both (earlier ++ s ∷ []) xs ys h.1 (subst (λ e. AreAccepted e ys) (sym (append_assoc earlier (s ∷ []) xs)) k))

-- ---- parameters

pub params_in-append : (xs ys : List Statement) → params_in (xs ++ ys) ≡ params_in xs ++ params_in ys
unfolding params_in
params_in-append [] ys = refl
params_in-append (Nothing ∷ xs) ys = params_in-append xs ys
params_in-append (Parameter name values default ∷ xs) ys = ap (λ ps. numbered_param name values default ∷ ps) (params_in-append xs ys)
params_in-append (Conditional child parent values ∷ xs) ys = params_in-append xs ys
params_in-append (Clause picks ∷ xs) ys = params_in-append xs ys

name_among : (name : List ℕ) (params : List Param) → list_any (λ p. bytes_eq name p.name) params ≡ list_any (bytes_eq name) (names params)
name_among name [] = refl
name_among name (p ∷ params) = ap (λ b. bytes_eq name p.name || b) (name_among name params)

params_in_push : (earlier : List Statement) (p : Param) → params_in (earlier ++ param_stated p ∷ []) ≡ params_in earlier ++ numbered_param p.name p.values (slice_index_or p.values p.default []) ∷ []
unfolding params_in
params_in_push earlier p = params_in-append earlier (param_stated p ∷ [])

accept_params : (earlier : List Statement) (given : List (List ℕ)) (place : ℕ) (later : List Param) → given ≡ names (params_in earlier) → place ≡ length (params_in earlier) → later_params_fault given place later ≡ None
    → AreAccepted earlier (map param_stated later)
unfolding fault_after
accept_params earlier given place [] same size h = tt
accept_params earlier given place (p ∷ later) same size h =
    let none = none_here part.Param place (param_fault given place p) (later_params_fault (given ++ p.name ∷ []) (place + 1) later) h in
    let holds = rules_hold (param_rules given place p) none.0 in
    let sound = sound_param given place p none.0 in
    let default = slice_index_or p.values p.default [] in
    let next = numbered_param p.name p.values default in
    let pushed = params_in_push earlier p in
    let few = subst (λ n. (nat_lt n Limits.max_params && nat_le (length p.values) Limits.max_values) ≡ true) size holds.0 in
    let new = ap not (name_among p.name (params_in earlier) ∙ ap (list_any (bytes_eq p.name)) (sym same)) ∙ holds.1.1.0 in
    let among = list_any_at (bytes_eq default) p.values p.default [] sound.default ((bytes_eq-Decides default default).1 refl) in
    let kept = none_broken (parameter_line_rules (params_in earlier) p.name p.values default) (few, (new, (sound.differ, (among, tt)))) in
    let names_more = ap (λ ns. ns ++ p.name ∷ []) same ∙ sym (map_push (λ q. q.name) (params_in earlier) next) ∙ ap names (sym pushed) in
    let one_later = ap (λ n. n + 1) size ∙ sym (length_push (params_in earlier) next) ∙ ap length (sym pushed) in
    (kept, accept_params (earlier ++ param_stated p ∷ []) (given ++ p.name ∷ []) (place + 1) later names_more one_later none.1)

-- ---- conditions

one_more : (test : Statement → Bool) (earlier : List Statement) (s : Statement) (place : ℕ) → test s ≡ true → place ≡ length (filter test earlier) → place + 1 ≡ length (filter test (earlier ++ s ∷ []))
one_more test earlier s place passes size =
    let last : filter test (s ∷ []) ≡ s ∷ [] = rw passes in
    ap (λ n. n + 1) size ∙ sym (length_push (filter test earlier) s) ∙ ap (λ xs. length (filter test earlier ++ xs)) (sym last) ∙ ap length (sym (filter-append test earlier (s ∷ [])))

module _ (params : List Param) (sound : All IsSoundParam params) where
  accept_conditions : (earlier : List Statement) (place : ℕ) (later : List Condition) → place ≡ length (filter is_condition earlier) → first_in part.Condition (condition_fault params) place later ≡ None
      → AreAccepted earlier (map (condition_stated params) later)
  unfolding fault_after
  accept_conditions earlier place [] size h = tt
  accept_conditions earlier place (c ∷ later) size h =
      let none = none_here part.Condition place (condition_fault params place c) (first_in part.Condition (condition_fault params) (place + 1) later) h in
      let s = condition_stated params c in
      let few = subst (λ n. nat_lt n Limits.max_conditions ≡ true) size (rules_hold (condition_rules params place c) none.0).0 in
      let differ = condition_apart params sound c (sound_condition params place c none.0) in
      let kept = none_broken (Reading.condition_line_rules (length (filter is_condition earlier)) (map (value_of params c.parent) c.values)) (few, (differ, tt)) in
      (kept, accept_conditions (earlier ++ s ∷ []) (place + 1) later (one_more is_condition earlier s place refl size) none.1)

-- ---- clauses

module _ (params : List Param) (apart : texts_differ (names params) ≡ true) where
  accept_clauses : (earlier : List Statement) (place : ℕ) (later : List Forbidden) → place ≡ length (filter is_clause earlier) → first_in part.Forbidden (clause_fault params) place later ≡ None
      → AreAccepted earlier (map (clause_stated params) later)
  unfolding fault_after
  accept_clauses earlier place [] size h = tt
  accept_clauses earlier place (f ∷ later) size h =
      let none = none_here part.Forbidden place (clause_fault params place f) (first_in part.Forbidden (clause_fault params) (place + 1) later) h in
      let s = clause_stated params f in
      let count : length (map (pick_stated params) f.picks) ≡ length f.picks = length-map f.picks (pick_stated params) in
      let few = ap (λ n. nat_lt (length (filter is_clause earlier)) Limits.max_clauses && nat_le n Limits.max_picks) count ∙ subst (λ n. (nat_lt n Limits.max_clauses && nat_le (length f.picks) Limits.max_picks) ≡ true) size (rules_hold (clause_rules params place f) none.0).0 in
      let differ = clause_apart params f apart (sound_clause params place f none.0) in
      let kept = none_broken (Reading.clause_line_rules (length (filter is_clause earlier)) (map (pick_stated params) f.picks)) (few, (differ, tt)) in
      (kept, accept_clauses (earlier ++ s ∷ []) (place + 1) later (one_more is_clause earlier s place refl size) none.1)

-- ---- all of them

no_conditions : (params : List Param) → filter is_condition (map param_stated params) ≡ []
no_conditions [] = refl
no_conditions (p ∷ params) = no_conditions params

no_clauses : (params : List Param) → filter is_clause (map param_stated params) ≡ []
no_clauses [] = refl
no_clauses (p ∷ params) = no_clauses params

no_clauses_among : (params : List Param) (conditions : List Condition) → filter is_clause (map (condition_stated params) conditions) ≡ []
no_clauses_among params [] = refl
no_clauses_among params (c ∷ conditions) = no_clauses_among params conditions

-- without a fault of the parameters there is none of them one after another
pub later_none : (params : List Param) → params_fault params ≡ None → later_params_fault [] 0 params ≡ None
later_none [] h = refl
later_none (p ∷ params) h = h

-- the statements of a space keep the rules of lines
pub space_accepted : (lists : Lists) → IsSpace lists → AreAccepted [] (all_stated lists)
unfolding params_in
space_accepted lists space =
    let none = later_none lists.params space.params in
    let sound = sound_params [] 0 lists.params none in
    let front = map param_stated lists.params in
    let middle = map (condition_stated lists.params) lists.conditions in
    accepted_both [] front (middle ++ map (clause_stated lists.params) lists.forbidden)
    (accept_params [] [] 0 lists.params refl refl none)
    (accepted_both front middle (map (clause_stated lists.params) lists.forbidden)
    (accept_conditions lists.params sound front 0 lists.conditions (ap length (sym (no_conditions lists.params))) space.conditions)
    (accept_clauses lists.params (names_apart [] 0 lists.params none) (front ++ middle) 0 lists.forbidden
    (ap length (sym (filter-append is_clause front middle ∙ ap (λ xs. xs ++ filter is_clause middle) (no_clauses lists.params) ∙ no_clauses_among lists.params lists.conditions)))
    space.clauses))
