-- What holds of each condition and each clause of a space, and that it can be written.
use Rattle.std.specs.Prelude.{ℕ, ◌≡◌, ◌<◌, true, nat_lt, nat_le, List, [], ◌∷◌, None, length, map, All, refl}
use Rattle.std.specs.List.{list_all}
use Rattle.std.proofs.Common.{ap, sym, ◌∙◌, subst}
use Rattle.std.proofs.lemmas.Bool.{and_parts, and_from, ltb-true}
use Rattle.std.proofs.lemmas.List.{length-map}
use Rattle.std.proofs.lemmas.List.Folds.{list_all-map}
use Rattle.plain_text.specs.Words.{is_word}
use Rattle.param_space.specs.Limits
use Rattle.param_space.specs.declared.lists.Param.{Param}
use Rattle.param_space.specs.declared.lists.Condition.{Condition}
use Rattle.param_space.specs.declared.lists.Pick.{Pick}
use Rattle.param_space.specs.declared.lists.Forbidden.{Forbidden}
use Rattle.param_space.specs.Space.{names, value_count}
use Rattle.plain_text.specs.Texts.{texts_differ}
use Rattle.param_space.specs.Faults.{numbers_differ, condition_fault, clause_fault, condition_rules, clause_rules}
use Rattle.param_space.proofs.RuleLemmas.{rules_hold}
use Rattle.param_files.specs.PrintedLines.{param_name, value_of}
use Rattle.param_files.specs.StatementTokens.{are_values, is_form, is_pick_of_words}
use Rattle.param_files.proofs.LineTokens.{condition_stated, pick_stated, clause_stated}
use Rattle.param_files.proofs.OwnPlaces.{places_differ, texts_of_numbers}
use Rattle.param_files.proofs.SoundParams.{IsSoundParam, name_word, values_at, length-values_at, values_apart, value_word}

-- a condition that keeps its own rules
pub record IsSoundCondition (params : List Param) (c : Condition) : Type 0 where
  pub some : nat_lt 0 (length c.values) ≡ true
  pub differ : numbers_differ c.values ≡ true
  pub child : c.child < length params
  pub parent : c.parent < length params
  pub values : list_all (λ v. nat_lt v (value_count params c.parent)) c.values ≡ true

-- a clause that keeps its own rules
pub record IsSoundClause (params : List Param) (f : Forbidden) : Type 0 where
  pub few : nat_le (length f.picks) Limits.max_picks ≡ true
  pub some : nat_lt 0 (length f.picks) ≡ true
  pub differ : numbers_differ (map (λ k. k.param) f.picks) ≡ true
  pub named : list_all (λ k. nat_lt k.param (length params)) f.picks ≡ true
  pub values : list_all (λ k. nat_lt k.value (value_count params k.param)) f.picks ≡ true

-- one without a fault
pub sound_condition : (params : List Param) (place : ℕ) (c : Condition) → condition_fault params place c ≡ None → IsSoundCondition params c
sound_condition params place c h =
    let holds = rules_hold (condition_rules params place c) h in
    let inside = and_parts (nat_lt c.child (length params)) (nat_lt c.parent (length params)) holds.1.1.1.0 in
    record {
      some = holds.1.0;
      differ = holds.1.1.0;
      child = ltb-true c.child (length params) inside.0;
      parent = ltb-true c.parent (length params) inside.1;
      values = holds.1.1.1.1.0;
    }

-- and such a clause
pub sound_clause : (params : List Param) (place : ℕ) (f : Forbidden) → clause_fault params place f ≡ None → IsSoundClause params f
sound_clause params place f h =
    let holds = rules_hold (clause_rules params place f) h in
    record {
      few = (and_parts (nat_lt place Limits.max_clauses) (nat_le (length f.picks) Limits.max_picks) holds.0).1;
      some = holds.1.0;
      differ = holds.1.1.0;
      named = holds.1.1.1.0;
      values = holds.1.1.1.1.0;
    }

words_of : (f : ℕ → List ℕ) (n : ℕ) → ((v : ℕ) → v < n → is_word (f v) ≡ true) → (numbers : List ℕ) → list_all (λ v. nat_lt v n) numbers ≡ true → list_all is_word (map f numbers) ≡ true
words_of f n word [] h = refl
words_of f n word (v ∷ numbers) h =
    let parts = and_parts (nat_lt v n) (list_all (λ w. nat_lt w n) numbers) h in
    and_from (is_word (f v)) (list_all is_word (map f numbers)) (word v (ltb-true v n parts.0)) (words_of f n word numbers parts.1)

picks_of_words : (params : List Param) (picks : List Pick) → All IsSoundParam params → list_all (λ k. nat_lt k.param (length params)) picks ≡ true → list_all (λ k. nat_lt k.value (value_count params k.param)) picks ≡ true
    → list_all is_pick_of_words (map (pick_stated params) picks) ≡ true
picks_of_words params [] sound h w = refl
picks_of_words params (k ∷ picks) sound h w =
    let inside = and_parts (nat_lt k.param (length params)) (list_all (λ l. nat_lt l.param (length params)) picks) h in
    let values = and_parts (nat_lt k.value (value_count params k.param)) (list_all (λ l. nat_lt l.value (value_count params l.param)) picks) w in
    and_from (is_pick_of_words (pick_stated params k)) (list_all is_pick_of_words (map (pick_stated params) picks))
    (and_from (is_word (param_name params k.param)) (is_word (value_of params k.param k.value))
    (name_word params k.param sound (ltb-true k.param (length params) inside.0))
    (value_word params k.param k.value sound (ltb-true k.value (value_count params k.param) values.0)))
    (picks_of_words params picks sound inside.1 values.1)

module _ (params : List Param) (sound : All IsSoundParam params) where
  -- a condition can be written
  pub condition_form : (c : Condition) → IsSoundCondition params c → is_form (condition_stated params c) ≡ true
  condition_form c keeps =
      let values = map (value_of params c.parent) c.values in
      let words = words_of (value_of params c.parent) (value_count params c.parent) (λ v less. value_word params c.parent v sound less) c.values keeps.values in
      and_from (is_word (param_name params c.child)) _ (name_word params c.child sound keeps.child)
      (and_from (is_word (param_name params c.parent)) (are_values values) (name_word params c.parent sound keeps.parent)
      (and_from (nat_lt 0 (length values)) (list_all is_word values) (ap (nat_lt 0) (length-map c.values (value_of params c.parent)) ∙ keeps.some) words))

  -- and so can a clause
  pub clause_form : (f : Forbidden) → IsSoundClause params f → is_form (clause_stated params f) ≡ true
  clause_form f keeps =
      let picks = map (pick_stated params) f.picks in
      and_from (nat_lt 0 (length picks)) (list_all is_pick_of_words picks)
      (ap (nat_lt 0) (length-map f.picks (pick_stated params)) ∙ keeps.some)
      (picks_of_words params f.picks sound keeps.named keeps.values)

  -- the values of a condition differ
  pub condition_apart : (c : Condition) → IsSoundCondition params c → texts_differ (map (value_of params c.parent) c.values) ≡ true
  condition_apart c keeps =
      let size = length-values_at params c.parent in
      texts_of_numbers (value_of params c.parent) (value_count params c.parent)
      (λ k i less less' other. places_differ (values_at params c.parent) k i (values_apart params c.parent sound) (subst (λ n. k < n) (sym size) less) (subst (λ n. i < n) (sym size) less') other)
      c.values keeps.values keeps.differ

named_picks : (params : List Param) (picks : List Pick) → map (λ k. k.name) (map (pick_stated params) picks) ≡ map (param_name params) (map (λ k. k.param) picks)
named_picks params [] = refl
named_picks params (k ∷ picks) = ap (λ ts. param_name params k.param ∷ ts) (named_picks params picks)

-- the names of a clause differ
pub clause_apart : (params : List Param) (f : Forbidden) → texts_differ (names params) ≡ true → IsSoundClause params f → texts_differ (map (λ k. k.name) (map (pick_stated params) f.picks)) ≡ true
clause_apart params f apart keeps =
    let size = length-map params (λ p. p.name) in
    ap texts_differ (named_picks params f.picks)
    ∙ texts_of_numbers (param_name params) (length params)
    (λ k i less less' other. places_differ (names params) k i apart (subst (λ n. k < n) (sym size) less) (subst (λ n. i < n) (sym size) less') other)
    (map (λ k. k.param) f.picks) (list_all-map (λ v. nat_lt v (length params)) (λ k. k.param) f.picks ∙ keeps.named) keeps.differ
