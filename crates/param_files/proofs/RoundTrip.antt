-- A printed space is read back as that space.
use Rattle.std.specs.Prelude.{ℕ, ◌≡◌, ◌≤◌, ◌+◌, true, List, [], ◌∷◌, ◌++◌, None, Ok, length, map, option_map, bytes_eq, All, IsUtf8, refl}
use Rattle.std.specs.List.{AllZip, slice_index_or}
use Rattle.std.proofs.Common.{ap, sym, ◌∙◌, subst}
use Rattle.std.proofs.lemmas.Bool.{le-ltb}
use Rattle.std.proofs.lemmas.List.{append-nil, append_assoc, map_push}
use Rattle.std.proofs.lemmas.List.Elements.{All-nil, All-cons, All-head, All-tail, All-weaker}
use Rattle.std.proofs.lemmas.Str.{is_utf8-from_IsUtf8}
use Rattle.plain_text.specs.Limits.{max_bytes}
use Rattle.plain_text.specs.LineFolds.{fold_lines}
use Rattle.plain_text.specs.Lines.{numbered_from}
use Rattle.plain_text.specs.Tokens.{token_texts}
use Rattle.plain_text.proofs.LineTexts.{fits_line, numbered_lines-ended, numbered_lines-utf8}
use Rattle.param_space.specs.declared.lists.Param.{Param}
use Rattle.param_space.specs.declared.lists.Condition.{Condition}
use Rattle.param_space.specs.declared.lists.Forbidden.{Forbidden}
use Rattle.param_space.specs.declared.lists.Part.TheVariants as part
use Rattle.param_space.specs.Space.{Lists}
use Rattle.param_space.specs.Faults.{params_fault, later_params_fault, condition_fault, clause_fault, whole_fault, IsSpace}
use Rattle.param_space.proofs.RuleLemmas.{All-faultless}
use Rattle.param_files.specs.declared.statements.Statement.{Statement}
use Rattle.param_files.specs.Reading.{params_in, line_stated, with_line, lists_of, breach_fault, without_fault, some_params, space_stated, params_read}
use Rattle.param_files.specs.PrintedLines.{param_line, condition_line, clause_line, space_lines, space_text}
use Rattle.param_files.specs.StatementTokens.{statement_tokens, is_form}
use Rattle.param_files.proofs.WrittenStatements.{statement_of-written}
use Rattle.param_files.proofs.LineTokens.{param_stated, condition_stated, clause_stated, all_stated, param_tokens, condition_tokens, clause_tokens}
use Rattle.param_files.proofs.PlainLines.{param_fits, condition_fits, clause_fits}
use Rattle.param_files.proofs.OwnPlaces.{bytes_eq-sym, place_of}
use Rattle.param_files.proofs.SoundParams.{IsSoundParam, param_form, sound_params, names_apart}
use Rattle.param_files.proofs.SoundRelations.{IsSoundCondition, IsSoundClause, sound_condition, sound_clause, condition_form, clause_form}
use Rattle.param_files.proofs.AcceptedStatements.{AreAccepted, params_in-append, later_none, space_accepted}
use Rattle.param_files.proofs.SpaceNumbers.{numbered_statements, all_read}

-- ---- lines

-- a line with the tokens of a statement
pub record IsLineOf (line : List ℕ) (s : Statement) : Type 0 where
  pub fits : fits_line line ≡ true
  pub form : is_form s ≡ true
  pub tokens : token_texts line ≡ statement_tokens s

line_is_stated : (line : List ℕ) (s : Statement) → IsLineOf line s → IsUtf8 line → line_stated line ≡ Ok s
unfolding line_stated
line_is_stated line s is utf8 = rw (is_utf8-from_IsUtf8 line utf8, is.tokens, statement_of-written s is.form)

lines_of_each : {X : Type 0} (line : X → List ℕ) (stated : X → Statement) (xs : List X) → All (λ x. IsLineOf (line x) (stated x)) xs → AllZip IsLineOf (map line xs) (map stated xs)
lines_of_each line stated [] each = tt
lines_of_each line stated (x ∷ xs) each =
    (All-head (λ y. IsLineOf (line y) (stated y)) x xs each, lines_of_each line stated xs (All-tail (λ y. IsLineOf (line y) (stated y)) x xs each))

both_lines : (lines others : List (List ℕ)) (ss ts : List Statement) → AllZip IsLineOf lines ss → AllZip IsLineOf others ts → AllZip IsLineOf (lines ++ others) (ss ++ ts)
both_lines [] others [] ts h k = k
both_lines [] others (s ∷ ss) ts h k = absurd h
both_lines (l ∷ lines) others [] ts h k = absurd h
both_lines (l ∷ lines) others (s ∷ ss) ts h k = (h.0, both_lines lines others ss ts h.1 k)

all_fit : (lines : List (List ℕ)) (ss : List Statement) → AllZip IsLineOf lines ss → All (λ l. fits_line l ≡ true) lines
all_fit [] ss h = All-nil (λ l. fits_line l ≡ true)
all_fit (l ∷ lines) [] h = absurd h
all_fit (l ∷ lines) (s ∷ ss) h = All-cons (λ l. fits_line l ≡ true) l lines h.0.fits (all_fit lines ss h.1)

-- lines of statements that keep the rules are read as these
lines_are_read : (earlier : List (ℕ × Statement)) (n : ℕ) (lines : List (List ℕ)) (ss : List Statement) → AllZip IsLineOf lines ss → All (λ l. IsUtf8 l.1) (numbered_from n lines) → AreAccepted (map (λ s. s.1) earlier) ss
    → fold_lines with_line earlier (numbered_from n lines) ≡ Ok (earlier ++ numbered_statements n ss)
unfolding fold_lines numbered_from
lines_are_read earlier n [] [] h utf8 accepted = ap (λ xs. Ok xs) (sym (append-nil earlier))
lines_are_read earlier n [] (s ∷ ss) h utf8 accepted = absurd h
lines_are_read earlier n (l ∷ lines) [] h utf8 accepted = absurd h
lines_are_read earlier n (l ∷ lines) (s ∷ ss) h utf8 accepted =
    let here = line_is_stated l s h.0 (All-head (λ (x : ℕ × List ℕ). IsUtf8 x.1) (n, l) (numbered_from (n + 1) lines) utf8) in
    let next = subst (λ e. AreAccepted e ss) (sym (map_push (λ (x : ℕ × Statement). x.1) earlier (n, s))) accepted.1 in
    let later = lines_are_read (earlier ++ (n, s) ∷ []) (n + 1) lines ss h.1 (All-tail (λ (x : ℕ × List ℕ). IsUtf8 x.1) (n, l) (numbered_from (n + 1) lines) utf8) next in
    rw (here, accepted.0) (later ∙ ap (λ xs. Ok xs) (append_assoc earlier ((n, s) ∷ []) (numbered_statements (n + 1) ss)))

-- ---- the space

params_in-stated : (params : List Param) → All IsSoundParam params → params_in (map param_stated params) ≡ params
unfolding params_in
params_in-stated [] sound = refl
params_in-stated (p ∷ params) sound =
    let keeps = All-head IsSoundParam p params sound in
    let default = slice_index_or p.values p.default [] in
    let place = place_of (λ t. bytes_eq default t) p.values p.default keeps.differ keeps.default (λ t. bytes_eq-sym default t) in
    let later = params_in-stated params (All-tail IsSoundParam p params sound) in
    (λ i. record { name = p.name; values = p.values; default = place i } ∷ later i)

no_params : (params : List Param) (conditions : List Condition) (clauses : List Forbidden) → params_in (map (condition_stated params) conditions ++ map (clause_stated params) clauses) ≡ []
unfolding params_in
no_params params [] [] = refl
no_params params [] (f ∷ clauses) = no_params params [] clauses
no_params params (c ∷ conditions) clauses = no_params params conditions clauses

without_lines : (n : ℕ) (ss : List Statement) → map (λ s. s.1) (numbered_statements n ss) ≡ ss
without_lines n [] = refl
without_lines n (s ∷ ss) = ap (λ xs. s ∷ xs) (without_lines (n + 1) ss)

some_are : (params : List Param) → params_fault params ≡ None → some_params params ≡ Ok params
some_are [] h = absurd (cc)
some_are (p ∷ params) h = refl

module _ (lists : Lists) (space : IsSpace lists) where
  none : later_params_fault [] 0 lists.params ≡ None
  none = later_none lists.params space.params

  sound : All IsSoundParam lists.params
  sound = sound_params [] 0 lists.params none

  conditions : All (IsSoundCondition lists.params) lists.conditions
  conditions = All-faultless part.Condition (condition_fault lists.params) (IsSoundCondition lists.params) lists.conditions 0 (sound_condition lists.params) space.conditions

  clauses : All (IsSoundClause lists.params) lists.forbidden
  clauses = All-faultless part.Forbidden (clause_fault lists.params) (IsSoundClause lists.params) lists.forbidden 0 (sound_clause lists.params) space.clauses

  -- the lines of a space are those of its statements
  pub space_lines_are : AllZip IsLineOf (space_lines lists) (all_stated lists)
  space_lines_are =
      both_lines (map param_line lists.params) _ (map param_stated lists.params) _
      (lines_of_each param_line param_stated lists.params (All-weaker IsSoundParam (λ p. IsLineOf (param_line p) (param_stated p)) (λ p keeps. let form = param_form p keeps in record { fits = param_fits p form; form = form; tokens = param_tokens p form }) lists.params sound))
      (both_lines (map (condition_line lists.params) lists.conditions) _ (map (condition_stated lists.params) lists.conditions) _
      (lines_of_each (condition_line lists.params) (condition_stated lists.params) lists.conditions
      (All-weaker (IsSoundCondition lists.params) (λ c. IsLineOf (condition_line lists.params c) (condition_stated lists.params c)) (λ c keeps. let form = condition_form lists.params sound c keeps in record { fits = condition_fits lists.params c form; form = form; tokens = condition_tokens lists.params c form }) lists.conditions conditions))
      (lines_of_each (clause_line lists.params) (clause_stated lists.params) lists.forbidden
      (All-weaker (IsSoundClause lists.params) (λ f. IsLineOf (clause_line lists.params f) (clause_stated lists.params f)) (λ f keeps. let form = clause_form lists.params sound f keeps in record { fits = clause_fits lists.params f form; form = form; tokens = clause_tokens lists.params f form }) lists.forbidden clauses)))

  stated_back : space_stated (numbered_statements 1 (all_stated lists)) ≡ Ok lists
  unfolding space_stated
  stated_back =
      let front = map param_stated lists.params in
      let rest = map (condition_stated lists.params) lists.conditions ++ map (clause_stated lists.params) lists.forbidden in
      let params : params_in (front ++ rest) ≡ lists.params = params_in-append front rest ∙ ap (λ ps. params_in front ++ ps) (no_params lists.params lists.conditions lists.forbidden) ∙ append-nil (params_in front) ∙ params_in-stated lists.params sound in
      let back = ap params_in (without_lines 1 (all_stated lists)) ∙ params in
      let read = all_read lists.params sound (names_apart [] 0 lists.params none) 1 lists.params lists.conditions lists.forbidden conditions clauses in
      let same : lists_of lists.params read.0 ≡ lists = λ i. record { params = lists.params; conditions = read.2 i; forbidden = read.3 i } in
      rw (back, some_are lists.params space.params, read.1) (ap (λ ls. without_fault (option_map (λ b. breach_fault read.0 b.part b.place b.what) (whole_fault ls)) ls) same ∙ rw (space.acyclic, space.default))

  -- what is printed of a space is read back as that space
  pub reads_back : IsUtf8 (space_text lists) → length (space_text lists) ≤ max_bytes → params_read (space_text lists) ≡ Ok lists
  unfolding params_read
  reads_back utf8 few =
      let lines = space_lines lists in
      let are = space_lines_are in
      let ended = numbered_lines-ended lines (all_fit lines (all_stated lists) are) in
      let utf8_lines = subst (All (λ (l : ℕ × List ℕ). IsUtf8 l.1)) ended (numbered_lines-utf8 (space_text lists) utf8) in
      let read = lines_are_read [] 1 lines (all_stated lists) are utf8_lines (space_accepted lists space) in
      rw (le-ltb max_bytes (length (space_text lists)) few, ended, read) stated_back
