-- Numbering conditions and clauses, one statement after another.
use Rattle.std.proofs.Common.{ℕ, ◌≡◌, ◌<◌, ◌≤◌, ◌+◌, List, [], ◌∷◌, ◌++◌, Result, Ok, Err, length, get_or, drop, refl, ap, sym, ◌∙◌, append_assoc}
use Rattle.std.proofs.lemmas.List.{drop_more, drop_all, append-nil}
use Rattle.plain_text.specs.Faults.{LineFault, in_line}
use Rattle.plain_text.specs.Results.{◌>>=◌}
use Rattle.param_space.specs.declared.lists.Param.{Param}
use Rattle.param_space.specs.declared.lists.Condition as condition
use Rattle.param_space.specs.declared.lists.Forbidden.{Forbidden}
use Rattle.param_files.specs.declared.faults.ParamWhat.{ParamWhat}
use Rattle.param_files.specs.declared.statements.Statement.{Statement}
use Rattle.param_files.specs.declared.statements.Statement.TheVariants.{Nothing, Parameter, Condition, Clause}
use Rattle.param_files.specs.Reading.{of_space, condition_numbered, clause_numbered, NumberedRelations, with_condition, with_clause, all_numbered}
use Rattle.param_files.specs.KeptStatements.{none_numbered, numbered_with}

-- these before those that follow
abbrev pub after_numbers : NumberedRelations → Result NumberedRelations (LineFault ParamWhat) → Result NumberedRelations (LineFault ParamWhat)
after_numbers n (Ok m) = Ok (record {
  conditions = n.conditions ++ m.conditions;
  condition_lines = n.condition_lines ++ m.condition_lines;
  clauses = n.clauses ++ m.clauses;
  clause_lines = n.clause_lines ++ m.clause_lines;
})
after_numbers n (Err e) = Err e

-- one more condition
abbrev and_condition : NumberedRelations → ℕ → condition.Condition → NumberedRelations
and_condition n line c = record n { conditions = n.conditions ++ c ∷ []; condition_lines = n.condition_lines ++ line ∷ [] }

-- one more clause
abbrev and_clause : NumberedRelations → ℕ → Forbidden → NumberedRelations
and_clause n line f = record n { clauses = n.clauses ++ f ∷ []; clause_lines = n.clause_lines ++ line ∷ [] }

condition_moved : (n : NumberedRelations) (line : ℕ) (c : condition.Condition) (later : Result NumberedRelations (LineFault ParamWhat)) → after_numbers n (later >>= λ m. Ok (with_condition line c m)) ≡ after_numbers (and_condition n line c) later
condition_moved n line c (Err e) = refl
condition_moved n line c (Ok m) =
    ap (λ cs. Ok (record { conditions = cs; condition_lines = n.condition_lines ++ line ∷ m.condition_lines; clauses = n.clauses ++ m.clauses; clause_lines = n.clause_lines ++ m.clause_lines })) (sym (append_assoc n.conditions (c ∷ []) m.conditions))
    ∙ ap (λ ls. Ok (record { conditions = n.conditions ++ c ∷ [] ++ m.conditions; condition_lines = ls; clauses = n.clauses ++ m.clauses; clause_lines = n.clause_lines ++ m.clause_lines })) (sym (append_assoc n.condition_lines (line ∷ []) m.condition_lines))

clause_moved : (n : NumberedRelations) (line : ℕ) (f : Forbidden) (later : Result NumberedRelations (LineFault ParamWhat)) → after_numbers n (later >>= λ m. Ok (with_clause line f m)) ≡ after_numbers (and_clause n line f) later
clause_moved n line f (Err e) = refl
clause_moved n line f (Ok m) =
    ap (λ fs. Ok (record { conditions = n.conditions ++ m.conditions; condition_lines = n.condition_lines ++ m.condition_lines; clauses = fs; clause_lines = n.clause_lines ++ line ∷ m.clause_lines })) (sym (append_assoc n.clauses (f ∷ []) m.clauses))
    ∙ ap (λ ls. Ok (record { conditions = n.conditions ++ m.conditions; condition_lines = n.condition_lines ++ m.condition_lines; clauses = n.clauses ++ f ∷ [] ++ m.clauses; clause_lines = ls })) (sym (append_assoc n.clause_lines (line ∷ []) m.clause_lines))

same_ok : {A E : Type 0} (x y : A) → ◌≡◌ {A = Result A E} (Ok x) (Ok y) → x ≡ y
same_ok x y e = cc

-- a statement whose numbers are there
numbers_step : (params : List Param) (n new : NumberedRelations) (line : ℕ) (s : Statement) (later : List (ℕ × Statement)) → numbered_with params n line s ≡ Ok new
    → after_numbers n (all_numbered params ((line, s) ∷ later)) ≡ after_numbers new (all_numbered params later)
unfolding all_numbered numbered_with
numbers_step params n new line Nothing later h = ap (λ m. after_numbers m (all_numbered params later)) (same_ok n new h)
numbers_step params n new line (Parameter name values default) later h = ap (λ m. after_numbers m (all_numbered params later)) (same_ok n new h)
numbers_step params n new line (Condition child parent values) later h = by (in_line line (of_space (condition_numbered params child parent values))) h
  where
    by : (r : Result condition.Condition (LineFault ParamWhat)) → (r >>= λ c. Ok (and_condition n line c)) ≡ Ok new → after_numbers n (r >>= λ c. all_numbered params later >>= λ m. Ok (with_condition line c m)) ≡ after_numbers new (all_numbered params later)
    by (Err e) h = absurd (cc)
    by (Ok c) h = condition_moved n line c (all_numbered params later) ∙ ap (λ m. after_numbers m (all_numbered params later)) (same_ok (and_condition n line c) new h)
numbers_step params n new line (Clause picks) later h = by (in_line line (of_space (clause_numbered params picks))) h
  where
    by : (r : Result Forbidden (LineFault ParamWhat)) → (r >>= λ f. Ok (and_clause n line f)) ≡ Ok new → after_numbers n (r >>= λ f. all_numbered params later >>= λ m. Ok (with_clause line f m)) ≡ after_numbers new (all_numbered params later)
    by (Err e) h = absurd (cc)
    by (Ok f) h = clause_moved n line f (all_numbered params later) ∙ ap (λ m. after_numbers m (all_numbered params later)) (same_ok (and_clause n line f) new h)

-- a statement with a name or a value that there isn't
numbers_stop : (params : List Param) (n : NumberedRelations) (line : ℕ) (s : Statement) (later : List (ℕ × Statement)) (e : LineFault ParamWhat) → numbered_with params n line s ≡ Err e
    → after_numbers n (all_numbered params ((line, s) ∷ later)) ≡ Err e
unfolding all_numbered numbered_with
numbers_stop params n line Nothing later e h = absurd (cc)
numbers_stop params n line (Parameter name values default) later e h = absurd (cc)
numbers_stop params n line (Condition child parent values) later e h = by (in_line line (of_space (condition_numbered params child parent values))) h
  where
    by : (r : Result condition.Condition (LineFault ParamWhat)) → (r >>= λ c. Ok (and_condition n line c)) ≡ Err e → after_numbers n (r >>= λ c. all_numbered params later >>= λ m. Ok (with_condition line c m)) ≡ Err e
    by (Err d) h = cc
    by (Ok c) h = absurd (cc)
numbers_stop params n line (Clause picks) later e h = by (in_line line (of_space (clause_numbered params picks))) h
  where
    by : (r : Result Forbidden (LineFault ParamWhat)) → (r >>= λ f. Ok (and_clause n line f)) ≡ Err e → after_numbers n (r >>= λ f. all_numbered params later >>= λ m. Ok (with_clause line f m)) ≡ Err e
    by (Err d) h = cc
    by (Ok f) h = absurd (cc)

-- before the first statement
pub numbers_none : (params : List Param) (xs : List (ℕ × Statement)) → all_numbered params xs ≡ after_numbers none_numbered (all_numbered params xs)
numbers_none params xs = by (all_numbered params xs)
  where
    by : (r : Result NumberedRelations (LineFault ParamWhat)) → r ≡ after_numbers none_numbered r
    by (Ok m) = refl
    by (Err e) = refl

-- one more statement
pub numbers_more : (params : List Param) (xs : List (ℕ × Statement)) (i : ℕ) (d : ℕ × Statement) (n new : NumberedRelations) → i < length xs
    → all_numbered params xs ≡ after_numbers n (all_numbered params (drop i xs)) → numbered_with params n (get_or xs i d).0 (get_or xs i d).1 ≡ Ok new
    → all_numbered params xs ≡ after_numbers new (all_numbered params (drop (i + 1) xs))
numbers_more params xs i d n new inside e h =
    e ∙ ap (λ ys. after_numbers n (all_numbered params ys)) (drop_more xs i d inside) ∙ numbers_step params n new (get_or xs i d).0 (get_or xs i d).1 (drop (i + 1) xs) h

-- a statement that stops the loop
pub numbers_stops : (params : List Param) (xs : List (ℕ × Statement)) (i : ℕ) (d : ℕ × Statement) (n : NumberedRelations) (fault : LineFault ParamWhat) → i < length xs
    → all_numbered params xs ≡ after_numbers n (all_numbered params (drop i xs)) → numbered_with params n (get_or xs i d).0 (get_or xs i d).1 ≡ Err fault → all_numbered params xs ≡ Err fault
numbers_stops params xs i d n fault inside e h =
    e ∙ ap (λ ys. after_numbers n (all_numbered params ys)) (drop_more xs i d inside) ∙ numbers_stop params n (get_or xs i d).0 (get_or xs i d).1 (drop (i + 1) xs) fault h

-- after the last statement
pub numbers_all : (params : List Param) (xs : List (ℕ × Statement)) (i : ℕ) (n : NumberedRelations) → length xs ≤ i → all_numbered params xs ≡ after_numbers n (all_numbered params (drop i xs)) → all_numbered params xs ≡ Ok n
unfolding all_numbered
numbers_all params xs i n past e =
    e ∙ ap (λ ys. after_numbers n (all_numbered params ys)) (drop_all i xs past)
    ∙ rw (append-nil n.conditions, append-nil n.condition_lines, append-nil n.clauses, append-nil n.clause_lines) refl
