-- What statements have that a line's forms give: words, and at least one value or pick.
use Rattle.std.specs.Prelude.{ℕ, ◌≡◌, ◌<◌, Bool, true, false, not, ◌&&◌, List, [], ◌∷◌, Option, Some, None, Result, Ok, Err, option_map, ok_or, length, bytes_eq, codes, refl}
use Rattle.std.specs.List.{list_all}
use Rattle.std.specs.Str.{is_utf8}
use Rattle.std.proofs.Common.{ap, subst, arith, cond}
use Rattle.std.proofs.lemmas.Bool.{and_parts, and_from}
use Rattle.std.proofs.lemmas.Option.{some_pair_parts, same_Some}
use Rattle.plain_text.specs.Words.{is_word}
use Rattle.plain_text.specs.Tokens.{token_texts}
use Rattle.param_files.specs.declared.faults.ParamWhat.{ParamWhat}
use Rattle.param_files.specs.declared.faults.ParamWhat.TheVariants.{NotText, Form}
use Rattle.param_files.specs.declared.statements.NamedPick.{NamedPick}
use Rattle.param_files.specs.declared.statements.Statement.{Statement}
use Rattle.param_files.specs.declared.statements.Statement.TheVariants.{Nothing, Parameter, Condition, Clause}
use Rattle.param_files.specs.Grammar.{is_nothing, is_pick, value_list, pick_list, ended_clause, clause_of, is_condition_head, ended_condition, condition_of, default_of, listed_parameter, parameter_of, or_form, statement_of}
use Rattle.param_files.specs.Reading.{line_stated}

-- one or more words
abbrev pub AreWords : List (List ℕ) → Type 0
AreWords values = (list_all is_word values ≡ true) × (0 < length values)

-- a statement as its form has it
abbrev pub IsFormed : Statement → Type 0
IsFormed Nothing = Unit {0}
IsFormed (Parameter name values default) = (is_word name ≡ true) × AreWords values
IsFormed (Condition child parent values) = 0 < length values
IsFormed (Clause picks) = 0 < length picks

-- values that are listed are words
pub listed_words : (tokens values tail : List (List ℕ)) → value_list tokens ≡ Some (values, tail) → AreWords values
unfolding value_list
listed_words [] values tail h = absurd (cc)
listed_words (value ∷ []) values tail h = absurd (cc)
listed_words (value ∷ mark ∷ rest) values tail h = by (is_word value) (bytes_eq mark (codes "}")) (bytes_eq mark (codes ",")) (value_list rest) refl (listed_words rest) h
  where
    one : is_word value ≡ true → AreWords (value ∷ [])
    one w = (rw w refl, omega arith)

    more : (vs : List (List ℕ)) → is_word value ≡ true → AreWords vs → AreWords (value ∷ vs)
    more vs w h = (and_from (is_word value) (list_all is_word vs) w h.0, omega arith)

    by : (w a b : Bool) (o : Option (List (List ℕ) × List (List ℕ))) → is_word value ≡ w → ((vs t : List (List ℕ)) → o ≡ Some (vs, t) → AreWords vs)
        → cond {A = Option (List (List ℕ) × List (List ℕ))} (not w) None (cond a (Some (value ∷ [], rest)) (cond b (option_map (λ more. (value ∷ more.0, more.1)) o) None)) ≡ Some (values, tail) → AreWords values
    by false a b o e later h = absurd (cc)
    by true true b o e later h = subst AreWords (some_pair_parts (value ∷ []) values rest tail h).0 (one e)
    by true false false o e later h = absurd (cc)
    by true false true None e later h = absurd (cc)
    by true false true (Some (vs, t)) e later h = subst AreWords (some_pair_parts (value ∷ vs) values t tail h).0 (more vs e (later vs t refl))

-- there are some picks
picked_some : (tokens : List (List ℕ)) (picks : List NamedPick) (tail : List (List ℕ)) → pick_list tokens ≡ Some (picks, tail) → 0 < length picks
unfolding pick_list
picked_some [] picks tail h = absurd (cc)
picked_some (name ∷ []) picks tail h = absurd (cc)
picked_some (name ∷ equals ∷ []) picks tail h = absurd (cc)
picked_some (name ∷ equals ∷ value ∷ []) picks tail h = absurd (cc)
picked_some (name ∷ equals ∷ value ∷ mark ∷ rest) picks tail h = by (is_pick name equals value) (bytes_eq mark (codes "}")) (bytes_eq mark (codes ",")) (pick_list rest) h
  where
    by : (w a b : Bool) (o : Option (List NamedPick × List (List ℕ)))
        → cond {A = Option (List NamedPick × List (List ℕ))} (not w) None (cond a (Some (record { name = name; value = value } ∷ [], rest)) (cond b (option_map (λ more. (record { name = name; value = value } ∷ more.0, more.1)) o) None)) ≡ Some (picks, tail) → 0 < length picks
    by false a b o h = absurd (cc)
    by true true b o h = let same = (some_pair_parts (record { name = name; value = value } ∷ []) picks rest tail h).0 in omega (arith, ap length same)
    by true false false o h = absurd (cc)
    by true false true None h = absurd (cc)
    by true false true (Some (ps, t)) h = let same = (some_pair_parts (record { name = name; value = value } ∷ ps) picks t tail h).0 in omega (arith, ap length same)

-- what a test gives where it gives something
pub given : {A : Type 0} (b : Bool) (o : Option A) (x : A) → cond b o None ≡ Some x → (b ≡ true) × (o ≡ Some x)
given true o x h = (refl, h)
given false o x h = absurd (cc)

clause_formed : (tokens : List (List ℕ)) (s : Statement) → clause_of tokens ≡ Some s → IsFormed s
unfolding clause_of
clause_formed [] s h = absurd (cc)
clause_formed (brace ∷ rest) s h = by (pick_list rest) (picked_some rest) (given (bytes_eq brace (codes "{")) (ended_clause (pick_list rest)) s h).1
  where
    by : (o : Option (List NamedPick × List (List ℕ))) → ((ps : List NamedPick) (t : List (List ℕ)) → o ≡ Some (ps, t) → 0 < length ps) → ended_clause o ≡ Some s → IsFormed s
    by None some h = absurd (cc)
    by (Some (ps, [])) some h = subst IsFormed (same_Some (Clause ps) s h) (some ps [] refl)
    by (Some (ps, t ∷ later)) some h = absurd (cc)

condition_formed : (tokens : List (List ℕ)) (s : Statement) → condition_of tokens ≡ Some s → IsFormed s
unfolding condition_of
condition_formed [] s h = absurd (cc)
condition_formed (a ∷ []) s h = absurd (cc)
condition_formed (a ∷ b ∷ []) s h = absurd (cc)
condition_formed (a ∷ b ∷ c ∷ []) s h = absurd (cc)
condition_formed (a ∷ b ∷ c ∷ d ∷ []) s h = absurd (cc)
condition_formed (child ∷ bar ∷ parent ∷ word ∷ brace ∷ rest) s h = by (value_list rest) (listed_words rest) (given (is_condition_head child bar parent word brace) (ended_condition child parent (value_list rest)) s h).1
  where
    by : (o : Option (List (List ℕ) × List (List ℕ))) → ((vs t : List (List ℕ)) → o ≡ Some (vs, t) → AreWords vs) → ended_condition child parent o ≡ Some s → IsFormed s
    by None words h = absurd (cc)
    by (Some (vs, [])) words h = subst IsFormed (same_Some (Condition child parent vs) s h) (words vs [] refl).1
    by (Some (vs, t ∷ later)) words h = absurd (cc)

parameter_formed : (tokens : List (List ℕ)) (s : Statement) → parameter_of tokens ≡ Some s → IsFormed s
unfolding parameter_of
parameter_formed [] s h = absurd (cc)
parameter_formed (name ∷ []) s h = absurd (cc)
parameter_formed (name ∷ brace ∷ rest) s h =
    let tests = given (is_word name && bytes_eq brace (codes "{")) (listed_parameter name (value_list rest)) s h in
    by (value_list rest) (listed_words rest) (and_parts (is_word name) (bytes_eq brace (codes "{")) tests.0).0 tests.1
  where
    with_default : (vs : List (List ℕ)) (d : Option (List ℕ)) → is_word name ≡ true → AreWords vs → option_map (Parameter name vs) d ≡ Some s → IsFormed s
    with_default vs None w words h = absurd (cc)
    with_default vs (Some default) w words h = subst IsFormed (same_Some (Parameter name vs default) s h) (w, words)

    by : (o : Option (List (List ℕ) × List (List ℕ))) → ((vs t : List (List ℕ)) → o ≡ Some (vs, t) → AreWords vs) → is_word name ≡ true → listed_parameter name o ≡ Some s → IsFormed s
    by None words w h = absurd (cc)
    by (Some (vs, t)) words w h = with_default vs (default_of t) w (words vs t refl) h

-- what tokens state is formed so
pub statement_formed : (tokens : List (List ℕ)) (s : Statement) → statement_of tokens ≡ Some s → IsFormed s
unfolding statement_of
statement_formed tokens s h = by (is_nothing tokens) (clause_of tokens) (condition_of tokens) (parameter_of tokens) (clause_formed tokens) (condition_formed tokens) (parameter_formed tokens) h
  where
    by : (b : Bool) (c d p : Option Statement) → ((s : Statement) → c ≡ Some s → IsFormed s) → ((s : Statement) → d ≡ Some s → IsFormed s) → ((s : Statement) → p ≡ Some s → IsFormed s)
        → cond b (Some Nothing) (or_form c (or_form d p)) ≡ Some s → IsFormed s
    by true c d p fc fd fp h = subst IsFormed (same_Some Nothing s h) tt
    by false (Some x) d p fc fd fp h = fc s h
    by false None (Some x) p fc fd fp h = fd s h
    by false None None p fc fd fp h = fp s h

-- and so is what a line states
pub line_formed : (line : List ℕ) (s : Statement) → line_stated line ≡ Ok s → IsFormed s
unfolding line_stated
line_formed line s h = by (is_utf8 line) (statement_of (token_texts line)) (statement_formed (token_texts line)) h
  where
    same_ok : (x y : Statement) → ◌≡◌ {A = Result Statement ParamWhat} (Ok x) (Ok y) → x ≡ y
    same_ok x y e = cc

    by : (b : Bool) (o : Option Statement) → ((s : Statement) → o ≡ Some s → IsFormed s) → cond b (ok_or o Form) (Err NotText) ≡ Ok s → IsFormed s
    by false o f h = absurd (cc)
    by true None f h = absurd (cc)
    by true (Some x) f h = subst IsFormed (same_ok x s h) (f x refl)
