-- What is kept of lines is kept of what they state.
use Rattle.std.proofs.Common.{ℕ, ◌≡◌, List, [], ◌∷◌, ◌++◌, Option, Some, None, Result, Ok, Err, length, map, refl, ap, sym, ◌∙◌}
use Rattle.std.specs.List.{filter}
use Rattle.std.proofs.lemmas.List.{length-append, map-append, append-nil}
use Rattle.std.proofs.lemmas.List.Elements.{filter-append}
use Rattle.plain_text.specs.Faults.{LineFault, in_line}
use Rattle.plain_text.specs.LineFolds.{fold_lines}
use Rattle.plain_text.specs.Lines.{numbered_lines}
use Rattle.plain_text.specs.Results.{◌>>=◌}
use Rattle.param_space.specs.declared.lists.Param.{Param}
use Rattle.param_space.specs.declared.lists.SpaceWhat.{SpaceWhat}
use Rattle.param_files.specs.declared.faults.ParamWhat.{ParamWhat}
use Rattle.param_files.specs.declared.statements.Statement.{Statement}
use Rattle.param_files.specs.declared.statements.Statement.TheVariants.{Nothing, Parameter, Condition, Clause}
use Rattle.param_files.specs.Reading.{unless, params_in, numbered_param, is_condition, is_clause, statement_fault, statement_check, line_stated, with_line}
use Rattle.param_files.specs.KeptStatements.{SpaceDraft, is_relation, kept_of, kept_and, kept_with, kept_line, kept_lines}

params_in-append : (xs ys : List Statement) → params_in (xs ++ ys) ≡ params_in xs ++ params_in ys
unfolding params_in
params_in-append [] ys = refl
params_in-append (Nothing ∷ xs) ys = params_in-append xs ys
params_in-append (Parameter name values default ∷ xs) ys = ap (λ ps. numbered_param name values default ∷ ps) (params_in-append xs ys)
params_in-append (Condition child parent values ∷ xs) ys = params_in-append xs ys
params_in-append (Clause picks ∷ xs) ys = params_in-append xs ys

-- the parts of what is kept
abbrev parts : List Param → List (ℕ × Statement) → List Statement → List Statement → SpaceDraft
parts ps rs cs fs = record { params = ps; relations = rs; conditions = length cs; clauses = length fs }

-- a statement after others, in the list that it belongs to
joined : (ps : List Param) (rs : List (ℕ × Statement)) (cs fs : List Statement) (line : ℕ) (s : Statement)
    → parts (ps ++ params_in (s ∷ [])) (rs ++ filter (λ x. is_relation x.1) ((line, s) ∷ [])) (cs ++ filter is_condition (s ∷ [])) (fs ++ filter is_clause (s ∷ [])) ≡ kept_and (parts ps rs cs fs) line s
unfolding params_in
joined ps rs cs fs line Nothing = rw (append-nil ps, append-nil rs, append-nil cs, append-nil fs) refl
joined ps rs cs fs line (Parameter name values default) = rw (append-nil rs, append-nil cs, append-nil fs) refl
joined ps rs cs fs line (Condition child parent values) = rw (append-nil ps, append-nil fs, length-append cs (Condition child parent values ∷ [])) refl
joined ps rs cs fs line (Clause picks) = rw (append-nil ps, append-nil cs, length-append fs (Clause picks ∷ [])) refl

-- what is kept of one more statement
pub kept_of-push : (stated : List (ℕ × Statement)) (line : ℕ) (s : Statement) → kept_of (stated ++ (line, s) ∷ []) ≡ kept_and (kept_of stated) line s
unfolding kept_of
kept_of-push stated line s =
    let ss = map (λ (x : ℕ × Statement). x.1) stated in
    let statements : map (λ x. x.1) (stated ++ (line, s) ∷ []) ≡ ss ++ s ∷ [] = map-append (λ x. x.1) stated ((line, s) ∷ []) in
    ap (λ xs. parts (params_in xs) (filter (λ x. is_relation x.1) (stated ++ (line, s) ∷ [])) (filter is_condition xs) (filter is_clause xs)) statements
    ∙ ap (λ ps. parts ps (filter (λ x. is_relation x.1) (stated ++ (line, s) ∷ [])) (filter is_condition (ss ++ s ∷ [])) (filter is_clause (ss ++ s ∷ []))) (params_in-append ss (s ∷ []))
    ∙ ap (λ rs. parts (params_in ss ++ params_in (s ∷ [])) rs (filter is_condition (ss ++ s ∷ [])) (filter is_clause (ss ++ s ∷ []))) (filter-append (λ x. is_relation x.1) stated ((line, s) ∷ []))
    ∙ ap (λ cs. parts (params_in ss ++ params_in (s ∷ [])) (filter (λ x. is_relation x.1) stated ++ filter (λ x. is_relation x.1) ((line, s) ∷ [])) cs (filter is_clause (ss ++ s ∷ []))) (filter-append is_condition ss (s ∷ []))
    ∙ ap (λ fs. parts (params_in ss ++ params_in (s ∷ [])) (filter (λ x. is_relation x.1) stated ++ filter (λ x. is_relation x.1) ((line, s) ∷ [])) (filter is_condition ss ++ filter is_condition (s ∷ [])) fs) (filter-append is_clause ss (s ∷ []))
    ∙ joined (params_in ss) (filter (λ x. is_relation x.1) stated) (filter is_condition ss) (filter is_clause ss) line s

-- what is kept of a reading of statements
abbrev kept_reading : Result (List (ℕ × Statement)) (LineFault ParamWhat) → Result SpaceDraft (LineFault ParamWhat)
kept_reading (Ok stated) = Ok (kept_of stated)
kept_reading (Err fault) = Err fault

-- what is kept of lines is kept of what they state
kept_fold : (earlier : List (ℕ × Statement)) (lines : List (ℕ × List ℕ)) → fold_lines kept_line (kept_of earlier) lines ≡ kept_reading (fold_lines with_line earlier lines)
unfolding fold_lines kept_of
kept_fold earlier [] = refl
kept_fold earlier ((number, line) ∷ later) = by (line_stated line) (λ s. ap (λ k. fold_lines kept_line k later) (sym (kept_of-push earlier number s)) ∙ kept_fold (earlier ++ (number, s) ∷ []) later)
  where
    at : (s : Statement) (o : Option SpaceWhat) → fold_lines kept_line (kept_and (kept_of earlier) number s) later ≡ kept_reading (fold_lines with_line (earlier ++ (number, s) ∷ []) later)
        → (in_line number (unless o (kept_and (kept_of earlier) number s)) >>= λ b. fold_lines kept_line b later) ≡ kept_reading (in_line number (unless o s >>= λ x. Ok (earlier ++ (number, x) ∷ [])) >>= λ b. fold_lines with_line b later)
    at s None same = same
    at s (Some what) same = refl

    by : (r : Result Statement ParamWhat) → ((s : Statement) → fold_lines kept_line (kept_and (kept_of earlier) number s) later ≡ kept_reading (fold_lines with_line (earlier ++ (number, s) ∷ []) later))
        → (in_line number (r >>= kept_with (kept_of earlier) number) >>= λ b. fold_lines kept_line b later) ≡ kept_reading (in_line number (r >>= statement_check (map (λ x. x.1) earlier) >>= λ x. Ok (earlier ++ (number, x) ∷ [])) >>= λ b. fold_lines with_line b later)
    by (Err what) same = refl
    by (Ok s) same = at s (statement_fault (map (λ x. x.1) earlier) s) (same s)

-- the statements of which something is kept
pub kept_stated : (text : List ℕ) (kept : SpaceDraft) → kept_lines text ≡ Ok kept → (stated : List (ℕ × Statement)) × (fold_lines with_line [] (numbered_lines text) ≡ Ok stated) × (kept ≡ kept_of stated)
kept_stated text kept h = by (fold_lines with_line [] (numbered_lines text)) refl (sym (kept_fold [] (numbered_lines text)) ∙ h)
  where
    by : (r : Result (List (ℕ × Statement)) (LineFault ParamWhat)) → fold_lines with_line [] (numbered_lines text) ≡ r → kept_reading r ≡ Ok kept → (stated : List (ℕ × Statement)) × (fold_lines with_line [] (numbered_lines text) ≡ Ok stated) × (kept ≡ kept_of stated)
    by (Ok stated) is h = let same : kept ≡ kept_of stated = cc in (stated, is, same)
    by (Err fault) is h = absurd (cc)

-- a fault of the lines of which something is kept
pub kept_fault : (text : List ℕ) (fault : LineFault ParamWhat) → kept_lines text ≡ Err fault → fold_lines with_line [] (numbered_lines text) ≡ Err fault
kept_fault text fault h = by (fold_lines with_line [] (numbered_lines text)) (sym (kept_fold [] (numbered_lines text)) ∙ h)
  where
    by : (r : Result (List (ℕ × Statement)) (LineFault ParamWhat)) → kept_reading r ≡ Err fault → r ≡ Err fault
    by (Ok stated) h = absurd (cc)
    by (Err f) h = let same : f ≡ fault = cc in ap Err same
