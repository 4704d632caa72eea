-- What the lines of a printed space state, and the tokens of these lines.
use Rattle.std.specs.Prelude.{ℕ, ◌≡◌, true, ◌&&◌, List, [], ◌∷◌, ◌++◌, map, codes, refl}
use Rattle.std.specs.List.{list_all, slice_index_or}
use Rattle.std.proofs.Common.{ap, ◌∙◌}
use Rattle.std.proofs.lemmas.Bool.{and_parts, false≢true}
use Rattle.std.proofs.lemmas.List.{append_assoc}
use Rattle.plain_text.specs.Words.{is_word}
use Rattle.plain_text.specs.Tokens.{token_texts}
use Rattle.plain_text.proofs.TokenLemmas.{ends_word, token_texts-nil, token_texts-blank, token_texts-mark, token_texts-word}
use Rattle.param_space.specs.declared.lists.Param.{Param}
use Rattle.param_space.specs.declared.lists.Condition as condition
use Rattle.param_space.specs.declared.lists.Pick.{Pick}
use Rattle.param_space.specs.declared.lists.Forbidden.{Forbidden}
use Rattle.param_space.specs.Space.{Lists}
use Rattle.param_files.specs.declared.statements.NamedPick.{NamedPick}
use Rattle.param_files.specs.declared.statements.Statement.{Statement}
use Rattle.param_files.specs.declared.statements.Statement.TheVariants.{Parameter, Condition, Clause}
use Rattle.param_files.specs.PrintedLines.{with_commas, param_name, value_of, param_line, condition_line, pick_text, clause_line}
use Rattle.param_files.specs.StatementTokens.{parted_values, parted_picks, statement_tokens, are_values, are_picks, is_form, is_pick_of_words}
use Rattle.param_files.proofs.WrittenStatements.{all_words, all_picks}

-- a parameter by its texts
abbrev pub param_stated : Param → Statement
param_stated p = Parameter p.name p.values (slice_index_or p.values p.default [])

-- a condition by its texts
abbrev pub condition_stated : List Param → condition.Condition → Statement
condition_stated params c = Condition (param_name params c.child) (param_name params c.parent) (map (value_of params c.parent) c.values)

-- a pick by its texts
abbrev pub pick_stated : List Param → Pick → NamedPick
pick_stated params k = record { name = param_name params k.param; value = value_of params k.param k.value }

-- a clause by its texts
abbrev pub clause_stated : List Param → Forbidden → Statement
clause_stated params f = Clause (map (pick_stated params) f.picks)

-- a space by its texts
abbrev pub all_stated : Lists → List Statement
all_stated lists = map param_stated lists.params ++ (map (condition_stated lists.params) lists.conditions ++ map (clause_stated lists.params) lists.forbidden)

-- the tokens of values that are parted by commas, up to the brace
values_tokens : (v : List ℕ) (later : List (List ℕ)) (xs : List ℕ) → list_all is_word (v ∷ later) ≡ true → token_texts (with_commas (v ∷ later) ++ 125 ∷ xs) ≡ parted_values (v ∷ later) ++ codes "}" ∷ token_texts xs
values_tokens v [] xs h =
    token_texts-word v (125 ∷ xs) (and_parts (is_word v) true h).0 refl ∙ ap (λ ts. v ∷ ts) (token_texts-mark 125 xs refl)
values_tokens v (w ∷ later) xs h =
    let words = and_parts (is_word v) (list_all is_word (w ∷ later)) h in
    let rest = with_commas (w ∷ later) ++ 125 ∷ xs in
    ap token_texts (append_assoc v (44 ∷ 32 ∷ with_commas (w ∷ later)) (125 ∷ xs))
    ∙ token_texts-word v (44 ∷ 32 ∷ rest) words.0 refl
    ∙ ap (λ ts. v ∷ ts) (token_texts-mark 44 (32 ∷ rest) refl)
    ∙ ap (λ ts. v ∷ codes "," ∷ ts) (token_texts-blank 32 rest refl ∙ values_tokens w later xs words.1)

listed_tokens : (values : List (List ℕ)) (xs : List ℕ) → are_values values ≡ true → token_texts (with_commas values ++ 125 ∷ xs) ≡ parted_values values ++ codes "}" ∷ token_texts xs
listed_tokens [] xs h = absurd (false≢true h)
listed_tokens (v ∷ later) xs h = values_tokens v later xs (all_words (v ∷ later) h)

-- the tokens of `name {v1, v2} [default]`
pub param_tokens : (p : Param) → is_form (param_stated p) ≡ true → token_texts (param_line p) ≡ statement_tokens (param_stated p)
unfolding param_line
param_tokens p h =
    let default = slice_index_or p.values p.default [] in
    let parts = and_parts (is_word p.name) (are_values p.values && is_word default) h in
    let more = and_parts (are_values p.values) (is_word default) parts.1 in
    let ending = 32 ∷ 91 ∷ (default ++ codes "]") in
    token_texts-word p.name (32 ∷ 123 ∷ (with_commas p.values ++ 125 ∷ ending)) parts.0 refl
    ∙ ap (λ ts. p.name ∷ ts) (token_texts-blank 32 (123 ∷ (with_commas p.values ++ 125 ∷ ending)) refl ∙ token_texts-mark 123 (with_commas p.values ++ 125 ∷ ending) refl)
    ∙ ap (λ ts. p.name ∷ codes "{" ∷ ts) (listed_tokens p.values ending more.0)
    ∙ ap (λ ts. p.name ∷ codes "{" ∷ (parted_values p.values ++ codes "}" ∷ ts)) (
    token_texts-blank 32 (91 ∷ (default ++ codes "]")) refl
    ∙ token_texts-mark 91 (default ++ codes "]") refl
    ∙ ap (λ ts. codes "[" ∷ ts) (token_texts-word default (codes "]") more.1 refl)
    ∙ ap (λ ts. codes "[" ∷ default ∷ ts) (token_texts-mark 93 [] refl ∙ ap (λ ts. codes "]" ∷ ts) token_texts-nil))

-- the tokens of `child | parent in {v1, v2}`
pub condition_tokens : (params : List Param) (c : condition.Condition) → is_form (condition_stated params c) ≡ true → token_texts (condition_line params c) ≡ statement_tokens (condition_stated params c)
unfolding condition_line
condition_tokens params c h =
    let child = param_name params c.child in
    let parent = param_name params c.parent in
    let values = map (value_of params c.parent) c.values in
    let parts = and_parts (is_word child) (is_word parent && are_values values) h in
    let more = and_parts (is_word parent) (are_values values) parts.1 in
    let ending = with_commas values ++ codes "}" in
    token_texts-word child (32 ∷ 124 ∷ 32 ∷ (parent ++ (codes " in {" ++ ending))) parts.0 refl
    ∙ ap (λ ts. child ∷ ts) (token_texts-blank 32 (124 ∷ 32 ∷ (parent ++ (codes " in {" ++ ending))) refl ∙ token_texts-mark 124 (32 ∷ (parent ++ (codes " in {" ++ ending))) refl)
    ∙ ap (λ ts. child ∷ codes "|" ∷ ts) (
    token_texts-blank 32 (parent ++ (codes " in {" ++ ending)) refl
    ∙ token_texts-word parent (codes " in {" ++ ending) more.0 refl
    ∙ ap (λ ts. parent ∷ ts) (token_texts-blank 32 (codes "in {" ++ ending) refl ∙ token_texts-word (codes "in") (codes " {" ++ ending) refl refl)
    ∙ ap (λ ts. parent ∷ codes "in" ∷ ts) (token_texts-blank 32 (codes "{" ++ ending) refl ∙ token_texts-mark 123 ending refl)
    ∙ ap (λ ts. parent ∷ codes "in" ∷ codes "{" ∷ ts) (listed_tokens values [] more.1 ∙ ap (λ ts. parted_values values ++ codes "}" ∷ ts) token_texts-nil))

module _ (params : List Param) where
  -- the tokens of `name=value`
  pick_tokens : (k : Pick) (xs : List ℕ) → (is_word (param_name params k.param) && is_word (value_of params k.param k.value)) ≡ true → ends_word xs ≡ true
      → token_texts (pick_text params k ++ xs) ≡ param_name params k.param ∷ codes "=" ∷ value_of params k.param k.value ∷ token_texts xs
  pick_tokens k xs h ends =
      let name = param_name params k.param in
      let value = value_of params k.param k.value in
      let words = and_parts (is_word name) (is_word value) h in
      ap token_texts (append_assoc name (61 ∷ value) xs)
      ∙ token_texts-word name (61 ∷ (value ++ xs)) words.0 refl
      ∙ ap (λ ts. name ∷ ts) (token_texts-mark 61 (value ++ xs) refl ∙ ap (λ ts. codes "=" ∷ ts) (token_texts-word value xs words.1 ends))

  -- the tokens of picks that are parted by commas, up to the brace
  picks_tokens : (k : Pick) (later : List Pick) (xs : List ℕ) → list_all is_pick_of_words (map (pick_stated params) (k ∷ later)) ≡ true
      → token_texts (with_commas (map (pick_text params) (k ∷ later)) ++ 125 ∷ xs) ≡ parted_picks (map (pick_stated params) (k ∷ later)) ++ codes "}" ∷ token_texts xs
  picks_tokens k [] xs h =
      let named = pick_stated params k in
      pick_tokens k (125 ∷ xs) (and_parts (is_pick_of_words named) true h).0 refl
      ∙ ap (λ ts. named.name ∷ codes "=" ∷ named.value ∷ ts) (token_texts-mark 125 xs refl)
  picks_tokens k (l ∷ later) xs h =
      let named = pick_stated params k in
      let words = and_parts (is_pick_of_words named) (list_all is_pick_of_words (map (pick_stated params) (l ∷ later))) h in
      let rest = with_commas (map (pick_text params) (l ∷ later)) ++ 125 ∷ xs in
      ap token_texts (append_assoc (pick_text params k) (44 ∷ 32 ∷ with_commas (map (pick_text params) (l ∷ later))) (125 ∷ xs))
      ∙ pick_tokens k (44 ∷ 32 ∷ rest) words.0 refl
      ∙ ap (λ ts. named.name ∷ codes "=" ∷ named.value ∷ ts) (token_texts-mark 44 (32 ∷ rest) refl ∙ ap (λ ts. codes "," ∷ ts) (token_texts-blank 32 rest refl ∙ picks_tokens l later xs words.1))

-- the tokens of `{name=value, name=value}`
pub clause_tokens : (params : List Param) (f : Forbidden) → is_form (clause_stated params f) ≡ true → token_texts (clause_line params f) ≡ statement_tokens (clause_stated params f)
unfolding clause_line
clause_tokens params f h = by f.picks h
  where
    by : (picks : List Pick) → are_picks (map (pick_stated params) picks) ≡ true → token_texts (codes "{" ++ (with_commas (map (pick_text params) picks) ++ codes "}")) ≡ statement_tokens (Clause (map (pick_stated params) picks))
    by [] h = absurd (false≢true h)
    by (k ∷ later) h =
        let picks = k ∷ later in
        token_texts-mark 123 (with_commas (map (pick_text params) picks) ++ codes "}") refl
        ∙ ap (λ ts. codes "{" ∷ ts) (picks_tokens params k later [] (all_picks (map (pick_stated params) picks) h) ∙ ap (λ ts. parted_picks (map (pick_stated params) picks) ++ codes "}" ∷ ts) token_texts-nil)
