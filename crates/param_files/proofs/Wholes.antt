-- From what is kept of a file's lines to its space.
use Rattle.std.proofs.Common.{ℕ, ◌≡◌, ◌<◌, ◌≤◌, cond, List, [], ◌∷◌, Option, Result, Ok, Err, length, map, option_map, refl, ap, sym, subst, ◌∙◌, arith}
use Rattle.std.specs.List.{filter}
use Rattle.std.proofs.lemmas.Bool.{le-ltb}
use Rattle.plain_text.specs.Faults.{LineFault, in_line, IsFound}
use Rattle.plain_text.specs.Limits.{max_bytes}
use Rattle.plain_text.specs.LineFolds.{fold_lines}
use Rattle.plain_text.specs.Lines.{numbered_lines}
use Rattle.plain_text.specs.Results.{◌>>=◌}
use Rattle.plain_text.proofs.LineFoldLemmas.{fault_moves}
use Rattle.param_space.specs.declared.lists.Param.{Param}
use Rattle.param_space.specs.declared.lists.SpaceWhat.TheVariants.{NoParameters, TooMany}
use Rattle.param_space.specs.Space.{Lists}
use Rattle.param_space.specs.Faults.{space_fault, whole_fault}
use Rattle.param_files.specs.declared.faults.ParamWhat.{ParamWhat}
use Rattle.param_files.specs.declared.statements.Statement.{Statement}
use Rattle.param_files.specs.declared.statements.Statement.TheVariants.{Nothing, Parameter, Condition, Clause}
use Rattle.param_files.specs.Reading.{of_space, space_fault_in, params_in, condition_numbered, clause_numbered, NumberedRelations, with_condition, with_clause, all_numbered, lists_of, breach_fault, without_fault, some_params, with_line, space_stated, params_read}
use Rattle.param_files.specs.KeptStatements.{SpaceDraft, is_relation, kept_of, kept_lines, AreFew}
use Rattle.param_files.proofs.KeptLines.{kept_stated, kept_fault}
use Rattle.param_files.proofs.SpaceRules.{lines_few, whole_left}

-- statements that mean nothing and parameters have no numbers
numbers_of_relations : (params : List Param) (stated : List (ℕ × Statement)) → all_numbered params (filter (λ s. is_relation s.1) stated) ≡ all_numbered params stated
unfolding all_numbered
numbers_of_relations params [] = refl
numbers_of_relations params ((line, Nothing) ∷ later) = numbers_of_relations params later
numbers_of_relations params ((line, Parameter name values default) ∷ later) = numbers_of_relations params later
numbers_of_relations params ((line, Condition child parent values) ∷ later) =
    ap (λ r. in_line line (of_space (condition_numbered params child parent values)) >>= λ c. r >>= λ n. Ok (with_condition line c n)) (numbers_of_relations params later)
numbers_of_relations params ((line, Clause picks) ∷ later) =
    ap (λ r. in_line line (of_space (clause_numbered params picks)) >>= λ f. r >>= λ n. Ok (with_clause line f n)) (numbers_of_relations params later)

-- parameters, of which there are some
nonempty : (params : List Param) → 0 < length params → some_params params ≡ Ok params
nonempty [] h = absurd (omega (arith, h))
nonempty (p ∷ ps) h = refl

-- the space of numbers
abbrev numbers_space : List Param → NumberedRelations → Result Lists (LineFault ParamWhat)
numbers_space params numbered = without_fault (option_map (λ b. breach_fault numbered b.part b.place b.what) (whole_fault (lists_of params numbered))) (lists_of params numbered)

-- the space of parameters and of statements
abbrev rest_of : List (ℕ × Statement) → List Param → Result Lists (LineFault ParamWhat)
rest_of stated params = all_numbered params stated >>= numbers_space params

-- a text that is not too long is read by its lines
lines_decide : (text : List ℕ) → length text ≤ max_bytes → params_read text ≡ (fold_lines with_line [] (numbered_lines text) >>= space_stated)
unfolding params_read
lines_decide text short = ap (λ b. cond b (Err (space_fault_in 0 TooMany)) (fold_lines with_line [] (numbered_lines text) >>= space_stated)) (le-ltb max_bytes (length text) short)

-- a fault of a line
pub lines_fault : (text : List ℕ) (o : Option (LineFault ParamWhat)) → length text ≤ max_bytes → IsFound o (kept_lines text) → IsFound o (params_read text)
lines_fault text o short h =
    fault_moves o (kept_lines text) (params_read text) (λ f is. lines_decide text short ∙ ap (λ r. r >>= space_stated) (kept_fault text f is)) h

module _ (text : List ℕ) (kept : SpaceDraft) (short : length text ≤ max_bytes) (read : kept_lines text ≡ Ok kept) where
  stated : List (ℕ × Statement)
  stated = (kept_stated text kept read).0

  lines_are : fold_lines with_line [] (numbered_lines text) ≡ Ok stated
  unfolding stated
  lines_are = (kept_stated text kept read).1

  params_are : kept.params ≡ params_in (map (λ s. s.1) stated)
  unfolding kept_of stated
  params_are = ap (λ k. k.params) (kept_stated text kept read).2

  relations_are : kept.relations ≡ filter (λ s. is_relation s.1) stated
  unfolding kept_of stated
  relations_are = ap (λ k. k.relations) (kept_stated text kept read).2

  -- the file's space by what is kept
  from_kept : params_read text ≡ (some_params kept.params >>= rest_of stated)
  unfolding space_stated
  from_kept = lines_decide text short ∙ ap (λ r. r >>= space_stated) lines_are ∙ ap (λ ps. some_params ps >>= rest_of stated) (sym params_are)

  -- there are few parameters, each with few values
  pub kept_few : AreFew kept.params
  kept_few = subst AreFew (sym params_are) (lines_few (numbered_lines text) stated lines_are)

  -- there are no parameters
  pub none_kept : kept.params ≡ [] → params_read text ≡ Err (space_fault_in 0 NoParameters)
  none_kept none = from_kept ∙ ap (λ ps. some_params ps >>= rest_of stated) none

  module _ (some : 0 < length kept.params) where
    numbers_are : all_numbered kept.params kept.relations ≡ all_numbered kept.params stated
    numbers_are = ap (all_numbered kept.params) relations_are ∙ numbers_of_relations kept.params stated

    from_numbers : params_read text ≡ (all_numbered kept.params kept.relations >>= numbers_space kept.params)
    from_numbers = from_kept ∙ ap (λ r. r >>= rest_of stated) (nonempty kept.params some) ∙ ap (λ r. r >>= numbers_space kept.params) (sym numbers_are)

    -- a name or a value that there isn't
    pub numbers_fault : (o : Option (LineFault ParamWhat)) → IsFound o (all_numbered kept.params kept.relations) → IsFound o (params_read text)
    numbers_fault o h = fault_moves o (all_numbered kept.params kept.relations) (params_read text) (λ f is. from_numbers ∙ ap (λ r. r >>= numbers_space kept.params) is) h

    -- the space or the first rule that it breaks
    pub space_found : (numbered : NumberedRelations) → all_numbered kept.params kept.relations ≡ Ok numbered
        → params_read text ≡ without_fault (option_map (λ b. breach_fault numbered b.part b.place b.what) (space_fault (lists_of kept.params numbered))) (lists_of kept.params numbered)
    space_found numbered all =
        from_numbers ∙ ap (λ r. r >>= numbers_space kept.params) all
        ∙ ap (λ o. without_fault (option_map (λ b. breach_fault numbered b.part b.place b.what) o) (lists_of kept.params numbered)) (sym (whole_left (numbered_lines text) stated lines_are kept.params (ap some_params (sym params_are) ∙ nonempty kept.params some) numbered (sym numbers_are ∙ all)))
