-- The names and values of a space are read back as its numbers.
use Rattle.std.specs.Prelude.{ℕ, ◌≡◌, ◌+◌, ◌<◌, Bool, true, not, nat_lt, List, [], ◌∷◌, ◌++◌, Option, Some, None, Ok, length, map, position, bytes_eq, All, refl}
use Rattle.std.specs.List.{list_all, position_or_len}
use Rattle.std.proofs.Common.{ap, sym, ◌∙◌, subst, cond}
use Rattle.std.proofs.lemmas.Bool.{and_parts, ltb-true}
use Rattle.std.proofs.lemmas.List.{length-map, map-id}
use Rattle.std.proofs.lemmas.List.Elements.{All-head, All-tail, All-weaker}
use Rattle.std.proofs.lemmas.List.Sums.{AllPass-from_list_all}
use Rattle.param_space.specs.declared.lists.Param.{Param}
use Rattle.param_space.specs.declared.lists.Condition.{Condition}
use Rattle.param_space.specs.declared.lists.Pick.{Pick}
use Rattle.param_space.specs.declared.lists.Forbidden.{Forbidden}
use Rattle.param_space.specs.Space.{names, value_count}
use Rattle.plain_text.specs.Texts.{texts_differ}
use Rattle.param_files.specs.declared.statements.Statement.{Statement}
use Rattle.param_files.specs.PrintedLines.{param_name, value_of}
use Rattle.param_files.specs.Reading.{before, all_some, param_number, value_number, condition_numbered, pick_numbered, clause_numbered, NumberedRelations, with_condition, with_clause, all_numbered}
use Rattle.param_files.proofs.LineTokens.{param_stated, condition_stated, pick_stated, clause_stated}
use Rattle.param_files.proofs.OwnPlaces.{number_of}
use Rattle.param_files.proofs.SoundParams.{IsSoundParam, values_at, length-values_at, values_apart}
use Rattle.param_files.proofs.SoundRelations.{IsSoundCondition, IsSoundClause}

-- ---- names and values

place_among : (test : List ℕ → Bool) (params : List Param) → position_or_len (λ p. test p.name) params ≡ position_or_len test (names params)
place_among test [] = refl
place_among test (p ∷ params) = ap (λ n. cond (not (test p.name)) (1 + n) 0) (place_among test params)

number_among : (test : List ℕ → Bool) (params : List Param) → position (λ p. test p.name) params ≡ position test (names params)
number_among test params =
    let size = sym (length-map params (λ p. p.name)) in
    ap (λ n. cond (nat_lt n (length params)) (Some n) None) (place_among test params)
    ∙ ap (λ m. cond (nat_lt (position_or_len test (names params)) m) (Some (position_or_len test (names params))) None) size

-- a name of a space is that of the parameter with its number
pub param_number-name : (params : List Param) (i : ℕ) → texts_differ (names params) ≡ true → i < length params → param_number params (param_name params i) ≡ Some i
param_number-name params i apart inside =
    number_among (λ t. bytes_eq t (param_name params i)) params
    ∙ number_of (λ t. bytes_eq t (param_name params i)) (names params) i apart (subst (λ n. i < n) (sym (length-map params (λ p. p.name))) inside) (λ t. refl)

-- a value of a parameter is that with its number
pub value_number-value : (params : List Param) (p v : ℕ) → All IsSoundParam params → v < value_count params p → value_number params p (value_of params p v) ≡ Some v
value_number-value params p v sound inside =
    number_of (λ t. bytes_eq t (value_of params p v)) (values_at params p) v (values_apart params p sound) (subst (λ n. v < n) (sym (length-values_at params p)) inside) (λ t. refl)

all_some-map : {A B C : Type 0} (f : B → Option C) (g : A → B) (h : A → C) (xs : List A) → All (λ x. f (g x) ≡ Some (h x)) xs → all_some f (map g xs) ≡ Some (map h xs)
all_some-map f g h [] each = refl
all_some-map f g h (x ∷ xs) each =
    let first = All-head (λ y. f (g y) ≡ Some (h y)) x xs each in
    let later = all_some-map f g h xs (All-tail (λ y. f (g y) ≡ Some (h y)) x xs each) in
    (λ i. before (first i) (later i))

-- ---- conditions and clauses

module _ (params : List Param) (sound : All IsSoundParam params) (apart : texts_differ (names params) ≡ true) where
  -- a condition is read back by its numbers
  pub condition_numbered-stated : (c : Condition) → IsSoundCondition params c → condition_numbered params (param_name params c.child) (param_name params c.parent) (map (value_of params c.parent) c.values) ≡ Ok c
  unfolding condition_numbered
  condition_numbered-stated c keeps =
      let count = value_count params c.parent in
      let inside = AllPass-from_list_all (λ v. nat_lt v count) c.values keeps.values in
      let each = All-weaker (λ v. nat_lt v count ≡ true) (λ v. value_number params c.parent (value_of params c.parent v) ≡ Some v) (λ v less. value_number-value params c.parent v sound (ltb-true v count less)) c.values inside in
      let values = all_some-map (value_number params c.parent) (value_of params c.parent) (λ v. v) c.values each ∙ ap (λ vs. Some vs) (map-id c.values) in
      rw (param_number-name params c.child apart keeps.child, param_number-name params c.parent apart keeps.parent, values)

  pick_numbered-stated : (k : Pick) → k.param < length params → k.value < value_count params k.param → pick_numbered params (pick_stated params k) ≡ Some k
  unfolding pick_numbered
  pick_numbered-stated k named less = rw (param_number-name params k.param apart named, value_number-value params k.param k.value sound less)

  picks_numbered : (picks : List Pick) → list_all (λ k. nat_lt k.param (length params)) picks ≡ true → list_all (λ k. nat_lt k.value (value_count params k.param)) picks ≡ true
      → all_some (pick_numbered params) (map (pick_stated params) picks) ≡ Some picks
  picks_numbered [] h w = refl
  picks_numbered (k ∷ picks) h w =
      let named = and_parts (nat_lt k.param (length params)) (list_all (λ l. nat_lt l.param (length params)) picks) h in
      let values = and_parts (nat_lt k.value (value_count params k.param)) (list_all (λ l. nat_lt l.value (value_count params l.param)) picks) w in
      let first = pick_numbered-stated k (ltb-true k.param (length params) named.0) (ltb-true k.value (value_count params k.param) values.0) in
      let later = picks_numbered picks named.1 values.1 in
      (λ i. before (first i) (later i))

  picks_named : (picks : List Pick) → list_all (λ k. nat_lt k.param (length params)) picks ≡ true → all_some (λ k. param_number params k.name) (map (pick_stated params) picks) ≡ Some (map (λ k. k.param) picks)
  picks_named picks h =
      let inside = AllPass-from_list_all (λ k. nat_lt k.param (length params)) picks h in
      all_some-map (λ k. param_number params k.name) (pick_stated params) (λ k. k.param) picks
      (All-weaker (λ k. nat_lt k.param (length params) ≡ true) (λ k. param_number params (param_name params k.param) ≡ Some k.param) (λ k less. param_number-name params k.param apart (ltb-true k.param (length params) less)) picks inside)

  -- a clause is read back by its numbers
  pub clause_numbered-stated : (f : Forbidden) → IsSoundClause params f → clause_numbered params (map (pick_stated params) f.picks) ≡ Ok f
  unfolding clause_numbered
  clause_numbered-stated f keeps = rw (picks_named f.picks keeps.named, picks_numbered f.picks keeps.named keeps.values)

-- ---- all of them

-- statements with their lines, from a line on
abbrev pub numbered_statements : ℕ → List Statement → List (ℕ × Statement)
numbered_statements line [] = []
numbered_statements line (s ∷ later) = (line, s) ∷ numbered_statements (line + 1) later

-- these conditions and these clauses are read by numbers
abbrev pub ReadsAs : List Param → List (ℕ × Statement) → List Condition → List Forbidden → Type 0
ReadsAs params stated conditions clauses = (n : NumberedRelations) × (all_numbered params stated ≡ Ok n) × (n.conditions ≡ conditions) × (n.clauses ≡ clauses)

module _ (params : List Param) (sound : All IsSoundParam params) (apart : texts_differ (names params) ≡ true) where
  clauses_read : (line : ℕ) (clauses : List Forbidden) → All (IsSoundClause params) clauses → ReadsAs params (numbered_statements line (map (clause_stated params) clauses)) [] clauses
  unfolding all_numbered
  clauses_read line [] keeps = (record { conditions = []; condition_lines = []; clauses = []; clause_lines = [] }, refl, refl, refl)
  clauses_read line (f ∷ clauses) keeps =
      let first = clause_numbered-stated params sound apart f (All-head (IsSoundClause params) f clauses keeps) in
      let later = clauses_read (line + 1) clauses (All-tail (IsSoundClause params) f clauses keeps) in
      (with_clause line f later.0, rw (first, later.1), later.2, ap (λ fs. f ∷ fs) later.3)

  conditions_read : (line : ℕ) (conditions : List Condition) (clauses : List Forbidden) → All (IsSoundCondition params) conditions → All (IsSoundClause params) clauses
      → ReadsAs params (numbered_statements line (map (condition_stated params) conditions ++ map (clause_stated params) clauses)) conditions clauses
  unfolding all_numbered
  conditions_read line [] clauses keeps others = clauses_read line clauses others
  conditions_read line (c ∷ conditions) clauses keeps others =
      let first = condition_numbered-stated params sound apart c (All-head (IsSoundCondition params) c conditions keeps) in
      let later = conditions_read (line + 1) conditions clauses (All-tail (IsSoundCondition params) c conditions keeps) others in
      (with_condition line c later.0, rw (first, later.1), ap (λ cs. c ∷ cs) later.2, later.3)

  -- after the parameters of a space come its conditions and clauses
  pub all_read : (line : ℕ) (before : List Param) (conditions : List Condition) (clauses : List Forbidden) → All (IsSoundCondition params) conditions → All (IsSoundClause params) clauses
      → ReadsAs params (numbered_statements line (map param_stated before ++ (map (condition_stated params) conditions ++ map (clause_stated params) clauses))) conditions clauses
  unfolding all_numbered
  all_read line [] conditions clauses keeps others = conditions_read line conditions clauses keeps others
  all_read line (p ∷ before) conditions clauses keeps others = all_read (line + 1) before conditions clauses keeps others
