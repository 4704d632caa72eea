-- The tokens that a statement is written with are read as that statement.
use Rattle.std.specs.Prelude.{ℕ, ◌≡◌, true, false, ◌&&◌, nat_lt, List, [], ◌∷◌, ◌++◌, Some, None, length, option_map, bytes_eq, codes, refl}
use Rattle.std.specs.List.{list_all}
use Rattle.std.proofs.Common.{ap, subst}
use Rattle.std.proofs.lemmas.Bool.{and_parts, false≢true, false_from_ne_true, both_ways}
use Rattle.std.proofs.lemmas.Slice.Eq.{bytes_eq-Decides}
use Rattle.plain_text.specs.Words.{is_word}
use Rattle.param_files.specs.declared.statements.NamedPick.{NamedPick}
use Rattle.param_files.specs.declared.statements.Statement.{Statement}
use Rattle.param_files.specs.declared.statements.Statement.TheVariants.{Nothing, Parameter, Condition, Clause}
use Rattle.param_files.specs.Grammar.{value_list, pick_list, ended_clause, clause_of, condition_of, parameter_of, statement_of}
use Rattle.param_files.specs.StatementTokens.{parted_values, parted_picks, statement_tokens, are_values, is_pick_of_words, are_picks, is_form}

-- a word is none of the other texts
unlike_word : (w t : List ℕ) → is_word w ≡ true → is_word t ≡ false → bytes_eq w t ≡ false
unlike_word w t h n = false_from_ne_true (bytes_eq w t) (λ e. both_ways (is_word t) n (subst (λ x. is_word x ≡ true) ((bytes_eq-Decides w t).0 e) h))

-- values are words
pub all_words : (values : List (List ℕ)) → are_values values ≡ true → list_all is_word values ≡ true
all_words values h = (and_parts (nat_lt 0 (length values)) (list_all is_word values) h).1

-- picks are picks of words
pub all_picks : (picks : List NamedPick) → are_picks picks ≡ true → list_all is_pick_of_words picks ≡ true
all_picks picks h = (and_parts (nat_lt 0 (length picks)) (list_all is_pick_of_words picks) h).1

-- parted values are listed
pub listed-parted : (v : List ℕ) (later rest : List (List ℕ)) → list_all is_word (v ∷ later) ≡ true → value_list (parted_values (v ∷ later) ++ codes "}" ∷ rest) ≡ Some (v ∷ later, rest)
unfolding value_list
listed-parted v [] rest h = rw (and_parts (is_word v) true h).0
listed-parted v (w ∷ later) rest h =
    let parts = and_parts (is_word v) (list_all is_word (w ∷ later)) h in
    rw parts.0 (ap (option_map (λ more. (v ∷ more.0, more.1))) (listed-parted w later rest parts.1))

-- parted picks are picked
pub picked-parted : (k : NamedPick) (later : List NamedPick) (rest : List (List ℕ)) → list_all is_pick_of_words (k ∷ later) ≡ true → pick_list (parted_picks (k ∷ later) ++ codes "}" ∷ rest) ≡ Some (k ∷ later, rest)
unfolding pick_list
picked-parted k [] rest h =
    let words = and_parts (is_word k.name) (is_word k.value) (and_parts (is_pick_of_words k) true h).0 in
    rw (words.0, words.1)
picked-parted k (l ∷ later) rest h =
    let parts = and_parts (is_pick_of_words k) (list_all is_pick_of_words (l ∷ later)) h in
    let words = and_parts (is_word k.name) (is_word k.value) parts.0 in
    rw (words.0, words.1) (ap (option_map (λ more. (k ∷ more.0, more.1))) (picked-parted l later rest parts.1))

clause_read : (picks : List NamedPick) → are_picks picks ≡ true → clause_of (statement_tokens (Clause picks)) ≡ Some (Clause picks)
unfolding clause_of
clause_read [] h = absurd (cc)
clause_read (k ∷ later) h = ap ended_clause (picked-parted k later [] (all_picks (k ∷ later) h))

-- tokens that begin with a word make no clause
no_clause : (w : List ℕ) (rest : List (List ℕ)) → is_word w ≡ true → clause_of (w ∷ rest) ≡ None
unfolding clause_of
no_clause w rest h = rw (unlike_word w (codes "{") h refl)

-- tokens with another mark than a bar in second place make no condition
no_condition : (name mark : List ℕ) (rest : List (List ℕ)) → is_word name ≡ true → bytes_eq mark (codes "|") ≡ false → condition_of (name ∷ mark ∷ rest) ≡ None
unfolding condition_of
no_condition name mark [] h n = refl
no_condition name mark (a ∷ []) h n = refl
no_condition name mark (a ∷ b ∷ []) h n = refl
no_condition name mark (a ∷ b ∷ c ∷ rest) h n = rw (h, n)

-- the tokens of a statement are read as it
pub statement_of-written : (s : Statement) → is_form s ≡ true → statement_of (statement_tokens s) ≡ Some s
unfolding statement_of condition_of parameter_of
statement_of-written Nothing h = refl
statement_of-written (Clause []) h = absurd (cc)
statement_of-written (Clause (k ∷ [])) h = rw (clause_read (k ∷ []) h)
statement_of-written (Clause (k ∷ l ∷ later)) h = rw (clause_read (k ∷ l ∷ later) h)
statement_of-written (Condition child parent []) h = absurd (false≢true (and_parts (is_word parent) false (and_parts (is_word child) (is_word parent && false) h).1).1)
statement_of-written (Condition child parent (v ∷ later)) h =
    let parts = and_parts (is_word child) (is_word parent && are_values (v ∷ later)) h in
    let more = and_parts (is_word parent) (are_values (v ∷ later)) parts.1 in
    let rest = parted_values (v ∷ later) ++ codes "}" ∷ [] in
    rw (no_clause child (codes "|" ∷ parent ∷ codes "in" ∷ codes "{" ∷ rest) parts.0, parts.0, more.0, listed-parted v later [] (all_words (v ∷ later) more.1))
statement_of-written (Parameter name [] default) h = absurd (false≢true (and_parts false (is_word default) (and_parts (is_word name) false h).1).0)
statement_of-written (Parameter name (v ∷ later) default) h =
    let parts = and_parts (is_word name) (are_values (v ∷ later) && is_word default) h in
    let more = and_parts (are_values (v ∷ later)) (is_word default) parts.1 in
    let ending = codes "[" ∷ default ∷ codes "]" ∷ [] in
    let rest = parted_values (v ∷ later) ++ codes "}" ∷ ending in
    rw (no_clause name (codes "{" ∷ rest) parts.0, no_condition name (codes "{") rest parts.0 refl, parts.0, listed-parted v later ending (all_words (v ∷ later) more.0), more.1)
