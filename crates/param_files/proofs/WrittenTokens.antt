-- Tokens that are read as a statement are those that it is written with.
use Rattle.std.specs.Prelude.{ℕ, ◌≡◌, Bool, true, false, not, ◌&&◌, nat_lt, List, [], ◌∷◌, ◌++◌, Option, Some, None, length, option_map, bytes_eq, codes, refl}
use Rattle.std.specs.List.{list_all}
use Rattle.std.proofs.Common.{ap, sym, ◌∙◌, cond, ◌⊎◌, inl, inr, arith}
use Rattle.std.proofs.lemmas.Bool.{and_parts, and_from, lt-ltb, false≢true}
use Rattle.std.proofs.lemmas.Option.{same_Some, some_pair_parts}
use Rattle.std.proofs.lemmas.Slice.Eq.{bytes_eq-Decides}
use Rattle.plain_text.specs.Words.{is_word}
use Rattle.param_files.specs.declared.statements.NamedPick.{NamedPick}
use Rattle.param_files.specs.declared.statements.Statement.{Statement}
use Rattle.param_files.specs.declared.statements.Statement.TheVariants.{Nothing, Parameter, Condition, Clause}
use Rattle.param_files.specs.Grammar.{is_nothing, value_list, is_pick, pick_list, ended_clause, clause_of, is_condition_head, ended_condition, condition_of, is_default, default_of, listed_parameter, parameter_of, or_form, statement_of}
use Rattle.param_files.specs.StatementTokens.{parted_values, parted_picks, statement_tokens, are_values, are_picks, is_form, is_pick_of_words}
use Rattle.param_files.proofs.WrittenStatements.{all_words, all_picks}

-- two texts that a test takes as equal are one
same_text : (x y : List ℕ) → bytes_eq x y ≡ true → x ≡ y
same_text x y h = (bytes_eq-Decides x y).0 h

-- values that are listed are parted by commas, up to the brace
abbrev IsListed : List (List ℕ) → List (List ℕ) → List (List ℕ) → Type 0
IsListed tokens values rest = (tokens ≡ parted_values values ++ codes "}" ∷ rest) × (are_values values ≡ true)

some_values : (v : List ℕ) (values : List (List ℕ)) → list_all is_word (v ∷ values) ≡ true → are_values (v ∷ values) ≡ true
some_values v values h = and_from (nat_lt 0 (length (v ∷ values))) (list_all is_word (v ∷ values)) (lt-ltb 0 (length (v ∷ values)) (omega arith)) h

more_listed : (value : List ℕ) (tokens values rest : List (List ℕ)) → is_word value ≡ true → IsListed tokens values rest → IsListed (value ∷ codes "," ∷ tokens) (value ∷ values) rest
more_listed value tokens [] rest w h = absurd (false≢true h.1)
more_listed value tokens (v ∷ values) rest w h =
    (ap (λ ts. value ∷ codes "," ∷ ts) h.0, some_values value (v ∷ values) (and_from (is_word value) (list_all is_word (v ∷ values)) w (all_words (v ∷ values) h.1)))

-- what is listed, with the tokens after it
abbrev Listed : Type 0
Listed = Option (List (List ℕ) × List (List ℕ))

module _ (value mark : List ℕ) (tokens values rest : List (List ℕ)) where
  listed_cases : (w b c : Bool) (more : Listed) → is_word value ≡ w → bytes_eq mark (codes "}") ≡ b → bytes_eq mark (codes ",") ≡ c
      → ((vs r : List (List ℕ)) → more ≡ Some (vs, r) → IsListed tokens vs r)
      → cond {A = Listed} (not w) None (cond b (Some (value ∷ [], tokens)) (cond c (option_map (λ m. (value ∷ m.0, m.1)) more) None)) ≡ Some (values, rest)
      → IsListed (value ∷ mark ∷ tokens) values rest
  listed_cases false b c more w e f later h = absurd (cc)
  listed_cases true true c more w e f later h =
      let parts = some_pair_parts (value ∷ []) values tokens rest h in
      rw (← parts.0, ← parts.1, same_text mark (codes "}") e) (refl, some_values value [] (and_from (is_word value) true w refl))
  listed_cases true false true None w e f later h = absurd (cc)
  listed_cases true false true (Some more) w e f later h =
      let parts = some_pair_parts (value ∷ more.0) values more.1 rest h in
      rw (← parts.0, ← parts.1, same_text mark (codes ",") f) (more_listed value tokens more.0 more.1 w (later more.0 more.1 refl))
  listed_cases true false false more w e f later h = absurd (cc)

listed_only : (tokens values rest : List (List ℕ)) → value_list tokens ≡ Some (values, rest) → IsListed tokens values rest
unfolding value_list
listed_only [] values rest h = absurd (cc)
listed_only (value ∷ []) values rest h = absurd (cc)
listed_only (value ∷ mark ∷ tokens) values rest h =
    listed_cases value mark tokens values rest (is_word value) (bytes_eq mark (codes "}")) (bytes_eq mark (codes ",")) (value_list tokens) refl refl refl (λ vs r e. listed_only tokens vs r e) h

-- picks that are picked are parted by commas, up to the brace
abbrev IsPicked : List (List ℕ) → List NamedPick → List (List ℕ) → Type 0
IsPicked tokens picks rest = (tokens ≡ parted_picks picks ++ codes "}" ∷ rest) × (are_picks picks ≡ true)

some_picks : (k : NamedPick) (picks : List NamedPick) → list_all is_pick_of_words (k ∷ picks) ≡ true → are_picks (k ∷ picks) ≡ true
some_picks k picks h = and_from (nat_lt 0 (length (k ∷ picks))) (list_all is_pick_of_words (k ∷ picks)) (lt-ltb 0 (length (k ∷ picks)) (omega arith)) h

more_picked : (k : NamedPick) (tokens : List (List ℕ)) (picks : List NamedPick) (rest : List (List ℕ)) → is_pick_of_words k ≡ true → IsPicked tokens picks rest
    → IsPicked (k.name ∷ codes "=" ∷ k.value ∷ codes "," ∷ tokens) (k ∷ picks) rest
more_picked k tokens [] rest w h = absurd (false≢true h.1)
more_picked k tokens (l ∷ picks) rest w h =
    (ap (λ ts. k.name ∷ codes "=" ∷ k.value ∷ codes "," ∷ ts) h.0, some_picks k (l ∷ picks) (and_from (is_pick_of_words k) (list_all is_pick_of_words (l ∷ picks)) w (all_picks (l ∷ picks) h.1)))

-- what is picked, with the tokens after it
abbrev Picked : Type 0
Picked = Option (List NamedPick × List (List ℕ))

module _ (name equals value mark : List ℕ) (tokens : List (List ℕ)) (picks : List NamedPick) (rest : List (List ℕ)) where
  abbrev this : NamedPick
  this = record { name = name; value = value }

  picked_cases : (w b c : Bool) (more : Picked) → is_pick name equals value ≡ w → bytes_eq mark (codes "}") ≡ b → bytes_eq mark (codes ",") ≡ c
      → ((ks : List NamedPick) (r : List (List ℕ)) → more ≡ Some (ks, r) → IsPicked tokens ks r)
      → cond {A = Picked} (not w) None (cond b (Some (this ∷ [], tokens)) (cond c (option_map (λ m. (this ∷ m.0, m.1)) more) None)) ≡ Some (picks, rest)
      → IsPicked (name ∷ equals ∷ value ∷ mark ∷ tokens) picks rest
  picked_cases false b c more w e f later h = absurd (cc)
  picked_cases true true c more w e f later h =
      let parts = some_pair_parts (this ∷ []) picks tokens rest h in
      let named = and_parts (is_word name) (bytes_eq equals (codes "=") && is_word value) w in
      let valued = and_parts (bytes_eq equals (codes "=")) (is_word value) named.1 in
      let words = and_from (is_word name) (is_word value) named.0 valued.1 in
      rw (← parts.0, ← parts.1, same_text mark (codes "}") e, same_text equals (codes "=") valued.0) (refl, some_picks this [] (and_from (is_pick_of_words this) true words refl))
  picked_cases true false true None w e f later h = absurd (cc)
  picked_cases true false true (Some more) w e f later h =
      let parts = some_pair_parts (this ∷ more.0) picks more.1 rest h in
      let named = and_parts (is_word name) (bytes_eq equals (codes "=") && is_word value) w in
      let valued = and_parts (bytes_eq equals (codes "=")) (is_word value) named.1 in
      let words = and_from (is_word name) (is_word value) named.0 valued.1 in
      rw (← parts.0, ← parts.1, same_text mark (codes ",") f, same_text equals (codes "=") valued.0) (more_picked this tokens more.0 more.1 words (later more.0 more.1 refl))
  picked_cases true false false more w e f later h = absurd (cc)

picked_only : (tokens : List (List ℕ)) (picks : List NamedPick) (rest : List (List ℕ)) → pick_list tokens ≡ Some (picks, rest) → IsPicked tokens picks rest
unfolding pick_list
picked_only [] picks rest h = absurd (cc)
picked_only (name ∷ []) picks rest h = absurd (cc)
picked_only (name ∷ equals ∷ []) picks rest h = absurd (cc)
picked_only (name ∷ equals ∷ value ∷ []) picks rest h = absurd (cc)
picked_only (name ∷ equals ∷ value ∷ mark ∷ tokens) picks rest h =
    picked_cases name equals value mark tokens picks rest (is_pick name equals value) (bytes_eq mark (codes "}")) (bytes_eq mark (codes ",")) (pick_list tokens) refl refl refl (λ ks r e. picked_only tokens ks r e) h

-- ---- statements

-- a statement with its tokens
abbrev IsWritten : List (List ℕ) → Statement → Type 0
IsWritten tokens s = (tokens ≡ statement_tokens s) × (is_form s ≡ true)

either_some : {A : Type 0} (b : Bool) (o : Option A) (s : A) → cond b o None ≡ Some s → (b ≡ true) × (o ≡ Some s)
either_some true o s h = (refl, h)
either_some false o s h = absurd (cc)

clause_only : (tokens : List (List ℕ)) (s : Statement) → clause_of tokens ≡ Some s → IsWritten tokens s
unfolding clause_of
clause_only [] s h = absurd (cc)
clause_only (brace ∷ tokens) s h =
    let parts = either_some (bytes_eq brace (codes "{")) (ended_clause (pick_list tokens)) s h in
    rw (same_text brace (codes "{") parts.0) (by (pick_list tokens) refl parts.1)
  where
    by : (more : Picked) → pick_list tokens ≡ more → ended_clause more ≡ Some s → IsWritten (codes "{" ∷ tokens) s
    by None e h = absurd (cc)
    by (Some (picks, [])) e h =
        let is = picked_only tokens picks [] e in
        rw (← same_Some (Clause picks) s h) (ap (λ ts. codes "{" ∷ ts) is.0, is.1)
    by (Some (picks, t ∷ later)) e h = absurd (cc)

condition_only : (tokens : List (List ℕ)) (s : Statement) → condition_of tokens ≡ Some s → IsWritten tokens s
unfolding condition_of
condition_only [] s h = absurd (cc)
condition_only (child ∷ []) s h = absurd (cc)
condition_only (child ∷ bar ∷ []) s h = absurd (cc)
condition_only (child ∷ bar ∷ parent ∷ []) s h = absurd (cc)
condition_only (child ∷ bar ∷ parent ∷ word ∷ []) s h = absurd (cc)
condition_only (child ∷ bar ∷ parent ∷ word ∷ brace ∷ tokens) s h =
    let parts = either_some (is_condition_head child bar parent word brace) (ended_condition child parent (value_list tokens)) s h in
    let halves = and_parts (is_word child && bytes_eq bar (codes "|")) _ parts.0 in
    let front = and_parts (is_word child) (bytes_eq bar (codes "|")) halves.0 in
    let back = and_parts (is_word parent) (bytes_eq word (codes "in") && bytes_eq brace (codes "{")) halves.1 in
    let ends = and_parts (bytes_eq word (codes "in")) (bytes_eq brace (codes "{")) back.1 in
    rw (same_text bar (codes "|") front.1, same_text word (codes "in") ends.0, same_text brace (codes "{") ends.1) (by front.0 back.0 (value_list tokens) refl parts.1)
  where
    by : is_word child ≡ true → is_word parent ≡ true → (more : Listed) → value_list tokens ≡ more → ended_condition child parent more ≡ Some s → IsWritten (child ∷ codes "|" ∷ parent ∷ codes "in" ∷ codes "{" ∷ tokens) s
    by c p None e h = absurd (cc)
    by c p (Some (values, [])) e h =
        let is = listed_only tokens values [] e in
        rw (← same_Some (Condition child parent values) s h) (ap (λ ts. child ∷ codes "|" ∷ parent ∷ codes "in" ∷ codes "{" ∷ ts) is.0, and_from (is_word child) _ c (and_from (is_word parent) (are_values values) p is.1))
    by c p (Some (values, t ∷ later)) e h = absurd (cc)

default_only : (tokens : List (List ℕ)) (default : List ℕ) → default_of tokens ≡ Some default → (tokens ≡ codes "[" ∷ default ∷ codes "]" ∷ []) × (is_word default ≡ true)
default_only [] default h = absurd (cc)
default_only (left ∷ []) default h = absurd (cc)
default_only (left ∷ d ∷ []) default h = absurd (cc)
default_only (left ∷ d ∷ right ∷ []) default h =
    let parts = either_some (is_default left d right) (Some d) default h in
    let front = and_parts (bytes_eq left (codes "[")) (is_word d && bytes_eq right (codes "]")) parts.0 in
    let back = and_parts (is_word d) (bytes_eq right (codes "]")) front.1 in
    rw (same_text left (codes "[") front.0, same_text right (codes "]") back.1, ← same_Some d default parts.1) (refl, back.0)
default_only (left ∷ d ∷ right ∷ t ∷ later) default h = absurd (cc)

parameter_only : (tokens : List (List ℕ)) (s : Statement) → parameter_of tokens ≡ Some s → IsWritten tokens s
unfolding parameter_of
parameter_only [] s h = absurd (cc)
parameter_only (name ∷ []) s h = absurd (cc)
parameter_only (name ∷ brace ∷ tokens) s h =
    let parts = either_some (is_word name && bytes_eq brace (codes "{")) (listed_parameter name (value_list tokens)) s h in
    let front = and_parts (is_word name) (bytes_eq brace (codes "{")) parts.0 in
    rw (same_text brace (codes "{") front.1) (by front.0 (value_list tokens) refl parts.1)
  where
    ended : is_word name ≡ true → (values rest : List (List ℕ)) → value_list tokens ≡ Some (values, rest) → (default : Option (List ℕ)) → default_of rest ≡ default → option_map (Parameter name values) default ≡ Some s → IsWritten (name ∷ codes "{" ∷ tokens) s
    ended n values rest e None d h = absurd (cc)
    ended n values rest e (Some default) d h =
        let is = listed_only tokens values rest e in
        let last = default_only rest default d in
        rw (← same_Some (Parameter name values default) s h)
        (ap (λ ts. name ∷ codes "{" ∷ ts) (is.0 ∙ ap (λ ts. parted_values values ++ codes "}" ∷ ts) last.0), and_from (is_word name) _ n (and_from (are_values values) (is_word default) is.1 last.1))

    by : is_word name ≡ true → (more : Listed) → value_list tokens ≡ more → listed_parameter name more ≡ Some s → IsWritten (name ∷ codes "{" ∷ tokens) s
    by n None e h = absurd (cc)
    by n (Some (values, rest)) e h = ended n values rest e (default_of rest) refl h

-- tokens that are read as a statement are those of it, or state nothing
pub written-statement_of : (tokens : List (List ℕ)) (s : Statement) → statement_of tokens ≡ Some s → ((is_nothing tokens ≡ true) × (s ≡ Nothing)) ⊎ ((tokens ≡ statement_tokens s) × (is_form s ≡ true))
unfolding statement_of
written-statement_of tokens s h = by (is_nothing tokens) (clause_of tokens) (condition_of tokens) refl refl refl h
  where
    by : (n : Bool) (clause condition : Option Statement) → is_nothing tokens ≡ n → clause_of tokens ≡ clause → condition_of tokens ≡ condition
        → cond n (Some Nothing) (or_form clause (or_form condition (parameter_of tokens))) ≡ Some s → ((is_nothing tokens ≡ true) × (s ≡ Nothing)) ⊎ ((tokens ≡ statement_tokens s) × (is_form s ≡ true))
    by true clause condition n c d h = inl (n, sym (same_Some Nothing s h))
    by false (Some clause) condition n c d h = inr (clause_only tokens s (c ∙ h))
    by false None (Some condition) n c d h = inr (condition_only tokens s (d ∙ h))
    by false None None n c d h = inr (parameter_only tokens s h)
