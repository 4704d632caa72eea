-- The lines of a text that is read state something, and a line without a form states nothing.
use Rattle.std.specs.Prelude.{ℕ, suc, ◌≡◌, Bool, true, false, List, [], ◌∷◌, ◌++◌, Option, Some, None, Result, Ok, Err, nat_lt, length, map, option_map, ok_or, refl}
use Rattle.std.specs.List.{All, Any}
use Rattle.std.specs.Str.{is_utf8}
use Rattle.std.proofs.Common.{ap, sym, ◌∙◌, subst, cond, inl, inr, arith}
use Rattle.std.proofs.lemmas.List.Elements.{All-nil, All-cons}
use Rattle.std.proofs.lemmas.Option.{same_Some}
use Rattle.plain_text.specs.Faults.{LineFault, in_line, IsFound}
use Rattle.plain_text.specs.Limits.{max_bytes}
use Rattle.plain_text.specs.LineFolds.{fold_lines}
use Rattle.plain_text.specs.Lines.{numbered_lines}
use Rattle.plain_text.specs.Results.{◌>>=◌}
use Rattle.plain_text.specs.Tokens.{token_texts}
use Rattle.param_space.specs.declared.lists.Param.{Param}
use Rattle.param_space.specs.declared.lists.Condition as condition
use Rattle.param_space.specs.declared.lists.Forbidden.{Forbidden}
use Rattle.param_space.specs.declared.lists.SpaceWhat.{SpaceWhat}
use Rattle.param_space.specs.declared.lists.SpaceWhat.TheVariants.{NoParameters, TooMany}
use Rattle.param_space.specs.Space.{Lists}
use Rattle.param_space.specs.Faults.{whole_fault}
use Rattle.param_files.specs.declared.faults.ParamWhat.{ParamWhat}
use Rattle.param_files.specs.declared.faults.ParamWhat.TheVariants.{NotText, Form, Space}
use Rattle.param_files.specs.declared.faults.ParamFault.{ParamFault}
use Rattle.param_files.specs.declared.faults.ParamFault.TheVariants.{At, Memory}
use Rattle.param_files.specs.declared.statements.Statement.{Statement}
use Rattle.param_files.specs.declared.statements.Statement.TheVariants.{Nothing, Parameter, Condition, Clause}
use Rattle.param_files.specs.Faults.{fault_of}
use Rattle.param_files.specs.Grammar.{is_nothing, clause_of, condition_of, parameter_of, or_form, statement_of}
use Rattle.param_files.specs.StatementTokens.{statement_tokens, is_form, States, IsStatement, AreStatements, IsFormless}
use Rattle.param_files.specs.Reading.{unless, of_space, space_fault_in, params_in, statement_fault, statement_check, line_stated, with_line, condition_numbered, clause_numbered, NumberedRelations, with_condition, with_clause, all_numbered, lists_of, list_line, breach_fault, without_fault, some_params, space_stated, params_read}
use Rattle.param_files.proofs.WrittenStatements.{statement_of-written}
use Rattle.param_files.proofs.WrittenTokens.{written-statement_of}

-- ---- tokens

-- tokens that are read as a statement state it
tokens_state : (tokens : List (List ℕ)) (s : Statement) → statement_of tokens ≡ Some s → States tokens s
tokens_state tokens s h =
    elim (written-statement_of tokens s h) [
      | inl none ↦ subst (States tokens) (sym none.1) none.0
      | inr is ↦ by s is
    ]
  where
    by : (s : Statement) → (tokens ≡ statement_tokens s) × (is_form s ≡ true) → States tokens s
    by Nothing is = ap is_nothing is.0
    by (Parameter name values default) is = is
    by (Condition child parent values) is = is
    by (Clause picks) is = is

-- tokens that state something are read as it
stated_tokens : (tokens : List (List ℕ)) (s : Statement) → States tokens s → statement_of tokens ≡ Some s
unfolding statement_of
stated_tokens tokens Nothing h = ap (λ b. cond b (Some Nothing) (or_form (clause_of tokens) (or_form (condition_of tokens) (parameter_of tokens)))) h
stated_tokens tokens (Parameter name values default) h = ap statement_of h.0 ∙ statement_of-written (Parameter name values default) h.1
stated_tokens tokens (Condition child parent values) h = ap statement_of h.0 ∙ statement_of-written (Condition child parent values) h.1
stated_tokens tokens (Clause picks) h = ap statement_of h.0 ∙ statement_of-written (Clause picks) h.1

-- ---- lines

line_states : (line : List ℕ) (s : Statement) → line_stated line ≡ Ok s → IsStatement line
unfolding line_stated
line_states line s h = by (is_utf8 line) (statement_of (token_texts line)) (tokens_state (token_texts line)) h
  where
    by : (b : Bool) (o : Option Statement) → ((t : Statement) → o ≡ Some t → States (token_texts line) t) → cond b (ok_or o Form) (Err NotText) ≡ Ok s → IsStatement line
    by false o states h = absurd (cc)
    by true None states h = absurd (cc)
    by true (Some t) states h = (t, states t refl)

line_formless : (line : List ℕ) → line_stated line ≡ Err Form → IsStatement line → ⊥
unfolding line_stated
line_formless line h is = by (is_utf8 line) (statement_of (token_texts line)) (stated_tokens (token_texts line) is.0 is.1) h
  where
    by : (b : Bool) (o : Option Statement) → o ≡ Some is.0 → cond b (ok_or o Form) (Err NotText) ≡ Err Form → ⊥
    by false o e h = cc
    by true None e h = cc
    by true (Some t) e h = cc

-- ---- texts

lines_state : (earlier stated : List (ℕ × Statement)) (lines : List (ℕ × List ℕ)) → fold_lines with_line earlier lines ≡ Ok stated → All (λ line. IsStatement line.1) lines
unfolding fold_lines
lines_state earlier stated [] h = All-nil (λ line. IsStatement line.1)
lines_state earlier stated ((number, line) ∷ later) h =
    by (line_stated line) (line_states line) (λ s. lines_state (earlier ++ (number, s) ∷ []) stated later) h
  where
    at : (s : Statement) (o : Option SpaceWhat) → (fold_lines with_line (earlier ++ (number, s) ∷ []) later ≡ Ok stated → All (λ x. IsStatement x.1) later)
        → (in_line number (unless o s >>= λ x. Ok (earlier ++ (number, x) ∷ [])) >>= λ b. fold_lines with_line b later) ≡ Ok stated → All (λ x. IsStatement x.1) later
    at s None rest h = rest h
    at s (Some what) rest h = absurd (cc)

    by : (r : Result Statement ParamWhat) → ((s : Statement) → r ≡ Ok s → IsStatement line) → ((s : Statement) → fold_lines with_line (earlier ++ (number, s) ∷ []) later ≡ Ok stated → All (λ x. IsStatement x.1) later)
        → (in_line number (r >>= statement_check (map (λ x. x.1) earlier) >>= λ x. Ok (earlier ++ (number, x) ∷ [])) >>= λ b. fold_lines with_line b later) ≡ Ok stated → All (λ x. IsStatement x.1) ((number, line) ∷ later)
    by (Err what) states rest h = absurd (cc)
    by (Ok s) states rest h = All-cons (λ x. IsStatement x.1) (number, line) later (states s refl) (at s (statement_fault (map (λ x. x.1) earlier) s) (rest s) h)

-- each line of a text that is read states something
pub text_states : (text : List ℕ) (lists : Lists) → params_read text ≡ Ok lists → AreStatements text
unfolding params_read
text_states text lists h = by (nat_lt max_bytes (length text)) (fold_lines with_line [] (numbered_lines text)) (λ stated. lines_state [] stated (numbered_lines text)) h
  where
    by : (b : Bool) (r : Result (List (ℕ × Statement)) (LineFault ParamWhat)) → ((stated : List (ℕ × Statement)) → r ≡ Ok stated → AreStatements text)
        → cond b (Err (space_fault_in 0 TooMany)) (r >>= space_stated) ≡ Ok lists → AreStatements text
    by true r states h = absurd (cc)
    by false (Err fault) states h = absurd (cc)
    by false (Ok stated) states h = states stated refl

-- ---- faults

-- a fault of a line's form
abbrev form_fault : ℕ → LineFault ParamWhat
form_fault number = record { line = number; what = Form }

what_of : {A : Type 0} (f g : LineFault ParamWhat) → ◌≡◌ {A = Result A (LineFault ParamWhat)} (Err f) (Err g) → f ≡ g
what_of f g e = cc

no_space_fault : {A : Type 0} (line number : ℕ) (what : SpaceWhat) → ◌≡◌ {A = Result A (LineFault ParamWhat)} (Err (space_fault_in line what)) (Err (form_fault number)) → ⊥
no_space_fault line number what e = let same : Space what ≡ Form = ap (λ f. f.what) (what_of (space_fault_in line what) (form_fault number) e) in cc

numbers_formed : (params : List Param) (number : ℕ) (stated : List (ℕ × Statement)) → all_numbered params stated ≡ Err (form_fault number) → ⊥
unfolding all_numbered
numbers_formed params number [] h = cc
numbers_formed params number ((line, Nothing) ∷ later) h = numbers_formed params number later h
numbers_formed params number ((line, Parameter name values default) ∷ later) h = numbers_formed params number later h
numbers_formed params number ((line, Condition child parent values) ∷ later) h = by (condition_numbered params child parent values) (all_numbered params later) (numbers_formed params number later) h
  where
    by : (r : Result condition.Condition SpaceWhat) (q : Result NumberedRelations (LineFault ParamWhat)) → (q ≡ Err (form_fault number) → ⊥) → (in_line line (of_space r) >>= λ c. q >>= λ n. Ok (with_condition line c n)) ≡ Err (form_fault number) → ⊥
    by (Err what) q formed h = no_space_fault line number what h
    by (Ok c) (Err fault) formed h = formed (ap Err (what_of fault (form_fault number) h))
    by (Ok c) (Ok n) formed h = cc
numbers_formed params number ((line, Clause picks) ∷ later) h = by (clause_numbered params picks) (all_numbered params later) (numbers_formed params number later) h
  where
    by : (r : Result Forbidden SpaceWhat) (q : Result NumberedRelations (LineFault ParamWhat)) → (q ≡ Err (form_fault number) → ⊥) → (in_line line (of_space r) >>= λ f. q >>= λ n. Ok (with_clause line f n)) ≡ Err (form_fault number) → ⊥
    by (Err what) q formed h = no_space_fault line number what h
    by (Ok f) (Err fault) formed h = formed (ap Err (what_of fault (form_fault number) h))
    by (Ok f) (Ok n) formed h = cc

no_breach_fault : {B : Type 0} (number : ℕ) (o : Option B) (line : B → ℕ) (what : B → SpaceWhat) → option_map (λ b. space_fault_in (line b) (what b)) o ≡ Some (form_fault number) → ⊥
no_breach_fault number None line what h = cc
no_breach_fault number (Some b) line what h = no_space_fault {A = ℕ} (line b) number (what b) (ap Err (same_Some (space_fault_in (line b) (what b)) (form_fault number) h))

space_formed : (number : ℕ) (stated : List (ℕ × Statement)) → space_stated stated ≡ Err (form_fault number) → ⊥
unfolding space_stated
space_formed number stated h = by (params_in (map (λ s. s.1) stated)) h
  where
    last : (lists : Lists) (o : Option (LineFault ParamWhat)) → (o ≡ Some (form_fault number) → ⊥) → without_fault o lists ≡ Err (form_fault number) → ⊥
    last lists None formed h = cc
    last lists (Some fault) formed h = formed (ap Some (what_of fault (form_fault number) h))

    whole : (params : List Param) (r : Result NumberedRelations (LineFault ParamWhat)) → (r ≡ Err (form_fault number) → ⊥)
        → (r >>= λ numbered. without_fault (option_map (λ b. breach_fault numbered b.part b.place b.what) (whole_fault (lists_of params numbered))) (lists_of params numbered)) ≡ Err (form_fault number) → ⊥
    whole params (Err fault) formed h = formed (ap Err (what_of fault (form_fault number) h))
    whole params (Ok numbered) formed h = last (lists_of params numbered) (option_map (λ b. breach_fault numbered b.part b.place b.what) (whole_fault (lists_of params numbered))) (no_breach_fault number (whole_fault (lists_of params numbered)) (λ b. list_line numbered.condition_lines numbered.clause_lines b.part b.place) (λ b. b.what)) h

    by : (params : List Param) → (some_params params >>= λ ps. all_numbered ps stated >>= λ numbered. without_fault (option_map (λ b. breach_fault numbered b.part b.place b.what) (whole_fault (lists_of ps numbered))) (lists_of ps numbered)) ≡ Err (form_fault number) → ⊥
    by [] h = no_space_fault 0 number NoParameters h
    by (p ∷ later) h = whole (p ∷ later) (all_numbered (p ∷ later) stated) (numbers_formed (p ∷ later) number stated) h

-- some line: the first, or one after it
any_first : {X : Type 0} (P : X → Type 0) (x : X) (xs : List X) → P x → Any P (x ∷ xs)
any_first P x xs p = (0, x, omega arith, refl, p)

any_later : {X : Type 0} (P : X → Type 0) (x : X) (xs : List X) → Any P xs → Any P (x ∷ xs)
any_later P x xs h = let less = h.2 in (suc h.0, h.1, omega (arith, less), h.3, h.4)

-- a line with this number that states nothing
abbrev IsFormlessAt : ℕ → (ℕ × List ℕ) → Type 0
IsFormlessAt number line = (line.0 ≡ number) × (IsStatement line.1 → ⊥)

lines_formless : (number : ℕ) (earlier : List (ℕ × Statement)) (lines : List (ℕ × List ℕ)) → fold_lines with_line earlier lines ≡ Err (form_fault number) → Any (IsFormlessAt number) lines
unfolding fold_lines
lines_formless number earlier [] h = absurd (cc)
lines_formless number earlier ((n, line) ∷ later) h =
    by (line_stated line) (line_formless line) (λ s. lines_formless number (earlier ++ (n, s) ∷ []) later) h
  where
    at : (s : Statement) (o : Option SpaceWhat) → (fold_lines with_line (earlier ++ (n, s) ∷ []) later ≡ Err (form_fault number) → Any (IsFormlessAt number) later)
        → (in_line n (unless o s >>= λ x. Ok (earlier ++ (n, x) ∷ [])) >>= λ b. fold_lines with_line b later) ≡ Err (form_fault number) → Any (IsFormlessAt number) later
    at s None rest h = rest h
    at s (Some what) rest h = absurd (no_space_fault n number what h)

    by : (r : Result Statement ParamWhat) → (r ≡ Err Form → IsStatement line → ⊥) → ((s : Statement) → fold_lines with_line (earlier ++ (n, s) ∷ []) later ≡ Err (form_fault number) → Any (IsFormlessAt number) later)
        → (in_line n (r >>= statement_check (map (λ x. x.1) earlier) >>= λ x. Ok (earlier ++ (n, x) ∷ [])) >>= λ b. fold_lines with_line b later) ≡ Err (form_fault number) → Any (IsFormlessAt number) ((n, line) ∷ later)
    by (Err what) formless rest h =
        let same : ◌≡◌ {A = LineFault ParamWhat} (record { line = n; what = what }) (form_fault number) = what_of (record { line = n; what = what }) (form_fault number) h in
        any_first (IsFormlessAt number) (n, line) later (ap (λ f. f.line) same, formless (ap (λ f. Err f.what) same))
    by (Ok s) formless rest h = any_later (IsFormlessAt number) (n, line) later (at s (statement_fault (map (λ x. x.1) earlier) s) (rest s) h)

text_formless : (text : List ℕ) (number : ℕ) → params_read text ≡ Err (form_fault number) → Any (IsFormlessAt number) (numbered_lines text)
unfolding params_read
text_formless text number h = by (nat_lt max_bytes (length text)) (fold_lines with_line [] (numbered_lines text)) (lines_formless number [] (numbered_lines text)) h
  where
    by : (b : Bool) (r : Result (List (ℕ × Statement)) (LineFault ParamWhat)) → (r ≡ Err (form_fault number) → Any (IsFormlessAt number) (numbered_lines text))
        → cond b (Err (space_fault_in 0 TooMany)) (r >>= space_stated) ≡ Err (form_fault number) → Any (IsFormlessAt number) (numbered_lines text)
    by true r formless h = absurd (no_space_fault 0 number TooMany h)
    by false (Err fault) formless h = formless (ap Err (what_of fault (form_fault number) h))
    by false (Ok stated) formless h = absurd (space_formed number stated h)

-- a fault of the form is that of a line that states nothing
pub formless : (text : List ℕ) (e : ParamFault) → IsFound (fault_of e) (params_read text) → IsFormless text e
formless text (At number NotText) h = tt
formless text (At number Form) h = text_formless text number h
formless text (At number (Space what)) h = tt
formless text Memory h = tt
