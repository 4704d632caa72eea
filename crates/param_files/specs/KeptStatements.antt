-- What is kept of the lines of a parameter file: of a statement that means nothing, nothing.
use Rattle.std.specs.Prelude.{ℕ, ◌≤◌, ◌+◌, Bool, ◌||◌, List, [], ◌∷◌, ◌++◌, Option, Result, Ok, length, map}
use Rattle.std.specs.List.{All, filter}
use Rattle.plain_text.specs.Faults.{LineFault, in_line}
use Rattle.plain_text.specs.LineFolds.{fold_lines}
use Rattle.plain_text.specs.Lines.{numbered_lines}
use Rattle.plain_text.specs.Results.{◌>>=◌}
use Rattle.param_space.specs.Limits
use Rattle.param_space.specs.declared.lists.Param.{Param}
use Rattle.param_space.specs.declared.lists.SpaceWhat.{SpaceWhat}
use Rattle.param_files.specs.declared.faults.ParamWhat.{ParamWhat}
use Rattle.param_files.specs.declared.statements.Statement.{Statement}
use Rattle.param_files.specs.declared.statements.Statement.TheVariants.{Nothing, Parameter, Condition, Clause}
use Rattle.param_files.specs.Reading.{unless, of_space, numbered_param, params_in, is_condition, is_clause, fault_after, line_stated, condition_numbered, clause_numbered, NumberedRelations}

-- parameters, conditions and clauses with their lines, and how many of each
pub record SpaceDraft : Type 0 where
  pub params : List Param
  pub relations : List (ℕ × Statement)
  pub conditions : ℕ
  pub clauses : ℕ

-- whether a statement is a condition or a clause
abbrev pub is_relation : Statement → Bool
is_relation s = is_condition s || is_clause s

-- what is kept of statements with their lines
unfoldable pub kept_of : List (ℕ × Statement) → SpaceDraft
kept_of stated = record {
  params = params_in (map (λ s. s.1) stated);
  relations = filter (λ s. is_relation s.1) stated;
  conditions = length (filter is_condition (map (λ s. s.1) stated));
  clauses = length (filter is_clause (map (λ s. s.1) stated));
}

-- what is kept, after one more statement
abbrev pub kept_and : SpaceDraft → ℕ → Statement → SpaceDraft
kept_and kept line Nothing = kept
kept_and kept line (Parameter name values default) = record kept { params = kept.params ++ numbered_param name values default ∷ [] }
kept_and kept line (Condition child parent values) = record kept { relations = kept.relations ++ (line, Condition child parent values) ∷ []; conditions = kept.conditions + 1 }
kept_and kept line (Clause picks) = record kept { relations = kept.relations ++ (line, Clause picks) ∷ []; clauses = kept.clauses + 1 }

-- the first rule of a line that a statement breaks
abbrev pub fault_in : SpaceDraft → Statement → Option SpaceWhat
fault_in kept s = fault_after kept.params kept.conditions kept.clauses s

-- what is kept after one more statement, where that keeps the rules of a line
abbrev pub kept_with : SpaceDraft → ℕ → Statement → Result SpaceDraft ParamWhat
kept_with kept line s = unless (fault_in kept s) (kept_and kept line s)

-- what is kept after one more line
abbrev pub kept_line : SpaceDraft → ℕ → List ℕ → Result SpaceDraft ParamWhat
kept_line kept number line = line_stated line >>= kept_with kept number

-- what is kept of a text's lines, or the first fault
abbrev pub kept_lines : List ℕ → Result SpaceDraft (LineFault ParamWhat)
kept_lines text = fold_lines kept_line (kept_of []) (numbered_lines text)

-- ---- names and values as numbers

-- there are few parameters, each with few values
pub record AreFew (params : List Param) : Type 0 where
  pub count : length params ≤ Limits.max_params
  pub values : All (λ p. length p.values ≤ Limits.max_values) params

-- no conditions and no clauses
abbrev pub none_numbered : NumberedRelations
none_numbered = record { conditions = []; condition_lines = []; clauses = []; clause_lines = [] }

-- conditions and clauses by numbers, and those of one more statement
unfoldable pub numbered_with : List Param → NumberedRelations → ℕ → Statement → Result NumberedRelations (LineFault ParamWhat)
numbered_with params n line Nothing = Ok n
numbered_with params n line (Parameter name values default) = Ok n
numbered_with params n line (Condition child parent values) =
    in_line line (of_space (condition_numbered params child parent values)) >>= λ c.
    Ok (record n { conditions = n.conditions ++ c ∷ []; condition_lines = n.condition_lines ++ line ∷ [] })
numbered_with params n line (Clause picks) =
    in_line line (of_space (clause_numbered params picks)) >>= λ f.
    Ok (record n { clauses = n.clauses ++ f ∷ []; clause_lines = n.clause_lines ++ line ∷ [] })
