-- The forms of a parameter file's lines, over the texts of their tokens.
use Rattle.std.specs.Prelude.{ℕ, Bool, true, false, not, ◌&&◌, ◌||◌, List, [], ◌∷◌, Option, Some, None, option_map, bytes_eq, codes, if◌then◌else◌}
use Rattle.std.specs.Str.{str_eq_ignore_ascii_case}
use Rattle.plain_text.specs.Words.{is_word}
use Rattle.param_files.specs.declared.statements.NamedPick.{NamedPick}
use Rattle.param_files.specs.declared.statements.Statement.{Statement}
use Rattle.param_files.specs.declared.statements.Statement.TheVariants.{Nothing, Parameter, Condition, Clause}

-- a heading, in any ASCII case
abbrev pub is_heading : List ℕ → Bool
is_heading t = str_eq_ignore_ascii_case t (codes "Conditionals:") || str_eq_ignore_ascii_case t (codes "Forbidden:")

-- no tokens, or a heading
abbrev pub is_nothing : List (List ℕ) → Bool
is_nothing [] = true
is_nothing (t ∷ []) = is_heading t
is_nothing (t ∷ u ∷ later) = false

-- one or more values parted by commas, a closing brace, and what follows it
unfoldable pub value_list : List (List ℕ) → Option (List (List ℕ) × List (List ℕ))
value_list [] = None
value_list (value ∷ []) = None
value_list (value ∷ mark ∷ rest) =
    if not (is_word value) then None
    else if bytes_eq mark (codes "}") then Some (value ∷ [], rest)
    else if bytes_eq mark (codes ",") then option_map (λ more. (value ∷ more.0, more.1)) (value_list rest)
    else None

-- `name=value`
abbrev pub is_pick : List ℕ → List ℕ → List ℕ → Bool
is_pick name equals value = is_word name && (bytes_eq equals (codes "=") && is_word value)

-- one or more picks parted by commas, a closing brace, and what follows it
unfoldable pub pick_list : List (List ℕ) → Option (List NamedPick × List (List ℕ))
pick_list [] = None
pick_list (name ∷ []) = None
pick_list (name ∷ equals ∷ []) = None
pick_list (name ∷ equals ∷ value ∷ []) = None
pick_list (name ∷ equals ∷ value ∷ mark ∷ rest) =
    if not (is_pick name equals value) then None
    else if bytes_eq mark (codes "}") then Some (record { name = name; value = value } ∷ [], rest)
    else if bytes_eq mark (codes ",") then option_map (λ more. (record { name = name; value = value } ∷ more.0, more.1)) (pick_list rest)
    else None

-- a clause ends at its closing brace
abbrev pub ended_clause : Option (List NamedPick × List (List ℕ)) → Option Statement
ended_clause None = None
ended_clause (Some (picks, [])) = Some (Clause picks)
ended_clause (Some (picks, t ∷ later)) = None

-- `{name=value, name=value}`
unfoldable pub clause_of : List (List ℕ) → Option Statement
clause_of [] = None
clause_of (brace ∷ rest) = if bytes_eq brace (codes "{") then ended_clause (pick_list rest) else None

-- `child | parent in {`
abbrev pub is_condition_head : List ℕ → List ℕ → List ℕ → List ℕ → List ℕ → Bool
is_condition_head child bar parent word brace =
    (is_word child && bytes_eq bar (codes "|")) && (is_word parent && (bytes_eq word (codes "in") && bytes_eq brace (codes "{")))

-- a condition ends at its closing brace
abbrev pub ended_condition : List ℕ → List ℕ → Option (List (List ℕ) × List (List ℕ)) → Option Statement
ended_condition child parent None = None
ended_condition child parent (Some (values, [])) = Some (Condition child parent values)
ended_condition child parent (Some (values, t ∷ later)) = None

-- `child | parent in {v1, v2}`
unfoldable pub condition_of : List (List ℕ) → Option Statement
condition_of (child ∷ bar ∷ parent ∷ word ∷ brace ∷ rest) =
    if is_condition_head child bar parent word brace then ended_condition child parent (value_list rest) else None
condition_of (child ∷ bar ∷ parent ∷ word ∷ []) = None
condition_of (child ∷ bar ∷ parent ∷ []) = None
condition_of (child ∷ bar ∷ []) = None
condition_of (child ∷ []) = None
condition_of [] = None

-- `[default]`
abbrev pub is_default : List ℕ → List ℕ → List ℕ → Bool
is_default left default right = bytes_eq left (codes "[") && (is_word default && bytes_eq right (codes "]"))

-- the default in `[default]`
abbrev pub default_of : List (List ℕ) → Option (List ℕ)
default_of [] = None
default_of (left ∷ []) = None
default_of (left ∷ default ∷ []) = None
default_of (left ∷ default ∷ right ∷ []) = if is_default left default right then Some default else None
default_of (left ∷ default ∷ right ∷ t ∷ later) = None

-- the values of a parameter, and its default, which ends it
abbrev pub listed_parameter : List ℕ → Option (List (List ℕ) × List (List ℕ)) → Option Statement
listed_parameter name None = None
listed_parameter name (Some more) = option_map (Parameter name more.0) (default_of more.1)

-- `name {v1, v2} [default]`
unfoldable pub parameter_of : List (List ℕ) → Option Statement
parameter_of [] = None
parameter_of (name ∷ []) = None
parameter_of (name ∷ brace ∷ rest) =
    if is_word name && bytes_eq brace (codes "{") then listed_parameter name (value_list rest) else None

-- the first that there is
abbrev pub or_form : Option Statement → Option Statement → Option Statement
or_form (Some s) later = Some s
or_form None later = later

-- what a line with these tokens states, where it has one of the forms
unfoldable pub statement_of : List (List ℕ) → Option Statement
statement_of tokens =
    if is_nothing tokens then Some Nothing else or_form (clause_of tokens) (or_form (condition_of tokens) (parameter_of tokens))
