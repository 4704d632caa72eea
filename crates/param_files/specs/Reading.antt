-- The space that a parameter file states, or the file's first fault with its line.
use Rattle.std.specs.Prelude.{ℕ, ◌&&◌, Bool, true, false, not, List, [], ◌∷◌, ◌++◌, Option, Some, None, Result, Ok, Err, nat_lt, nat_le, length, map, slice_index, slice_index_or, option_map, ok_or, position, bytes_eq, if◌then◌else◌}
use Rattle.std.specs.List.{list_any, filter, position_or_len}
use Rattle.std.specs.Str.{is_utf8}
use Rattle.plain_text.specs.Faults.{LineFault, in_line}
use Rattle.plain_text.specs.Limits.{max_bytes}
use Rattle.plain_text.specs.LineFolds.{fold_lines}
use Rattle.plain_text.specs.Lines.{numbered_lines}
use Rattle.plain_text.specs.Results.{◌>>=◌}
use Rattle.plain_text.specs.Texts.{texts_differ}
use Rattle.plain_text.specs.Tokens.{token_texts}
use Rattle.param_space.specs.Limits
use Rattle.param_space.specs.declared.lists.Param.{Param}
use Rattle.param_space.specs.declared.lists.Condition as condition
use Rattle.param_space.specs.declared.lists.Pick.{Pick}
use Rattle.param_space.specs.declared.lists.Forbidden.{Forbidden}
use Rattle.param_space.specs.declared.lists.Part.{Part}
use Rattle.param_space.specs.declared.lists.Part.TheVariants as part
use Rattle.param_space.specs.declared.lists.SpaceWhat.{SpaceWhat}
use Rattle.param_space.specs.declared.lists.SpaceWhat.TheVariants.{NoParameters, TooMany, DoubleName, DoubleValue, BadDefault, UnknownName, UnknownValue}
use Rattle.param_space.specs.Space.{Lists, space_lists}
use Rattle.param_space.specs.Faults.{first_broken, whole_fault, space_fault}
use Rattle.param_files.specs.declared.faults.ParamWhat.{ParamWhat}
use Rattle.param_files.specs.declared.faults.ParamWhat.TheVariants.{NotText, Form, Space}
use Rattle.param_files.specs.declared.statements.NamedPick.{NamedPick}
use Rattle.param_files.specs.declared.statements.Statement.{Statement}
use Rattle.param_files.specs.declared.statements.Statement.TheVariants.{Nothing, Parameter, Condition, Clause}
use Rattle.param_files.specs.Grammar.{statement_of}

-- the value, or else the fault that there is
abbrev pub unless : {A : Type 0} → Option SpaceWhat → A → Result A ParamWhat
unless None x = Ok x
unless (Some what) x = Err (Space what)

-- a rule of the space that is broken
abbrev pub of_space : {A : Type 0} → Result A SpaceWhat → Result A ParamWhat
of_space (Ok x) = Ok x
of_space (Err what) = Err (Space what)

-- a rule of the space that is broken in a line
abbrev pub space_fault_in : ℕ → SpaceWhat → LineFault ParamWhat
space_fault_in line what = record { line = line; what = Space what }

-- ---- line by line

-- a parameter with these values, by the number of its default among them
abbrev pub numbered_param : List ℕ → List (List ℕ) → List ℕ → Param
numbered_param name values default = record { name = name; values = values; default = position_or_len (bytes_eq default) values }

-- the parameters among statements, in order
unfoldable pub params_in : List Statement → List Param
params_in [] = []
params_in (Parameter name values default ∷ later) = numbered_param name values default ∷ params_in later
params_in (Nothing ∷ later) = params_in later
params_in (Condition child parent values ∷ later) = params_in later
params_in (Clause picks ∷ later) = params_in later

-- whether a statement is a condition
abbrev pub is_condition : Statement → Bool
is_condition Nothing = false
is_condition (Parameter name values default) = false
is_condition (Condition child parent values) = true
is_condition (Clause picks) = false

-- whether a statement is a clause
abbrev pub is_clause : Statement → Bool
is_clause Nothing = false
is_clause (Parameter name values default) = false
is_clause (Condition child parent values) = false
is_clause (Clause picks) = true

-- the rules of a line that a parameter keeps, after these
abbrev pub parameter_line_rules : List Param → List ℕ → List (List ℕ) → List ℕ → List (Bool × SpaceWhat)
parameter_line_rules params name values default =
    (nat_lt (length params) Limits.max_params && nat_le (length values) Limits.max_values, TooMany)
    ∷ (not (list_any (λ p. bytes_eq name p.name) params), DoubleName)
    ∷ (texts_differ values, DoubleValue)
    ∷ (list_any (bytes_eq default) values, BadDefault)
    ∷ []

-- the rules of a line that a condition with these values keeps, after so many
abbrev pub condition_line_rules : ℕ → List (List ℕ) → List (Bool × SpaceWhat)
condition_line_rules conditions values =
    (nat_lt conditions Limits.max_conditions, TooMany)
    ∷ (texts_differ values, DoubleValue)
    ∷ []

-- the rules of a line that a clause keeps, after so many
abbrev pub clause_line_rules : ℕ → List NamedPick → List (Bool × SpaceWhat)
clause_line_rules clauses picks =
    (nat_lt clauses Limits.max_clauses && nat_le (length picks) Limits.max_picks, TooMany)
    ∷ (texts_differ (map (λ k. k.name) picks), DoubleName)
    ∷ []

-- the first rule of a line that a statement breaks, after these parameters and so many conditions and clauses
unfoldable pub fault_after : List Param → ℕ → ℕ → Statement → Option SpaceWhat
fault_after params conditions clauses Nothing = None
fault_after params conditions clauses (Parameter name values default) = first_broken (parameter_line_rules params name values default)
fault_after params conditions clauses (Condition child parent values) = first_broken (condition_line_rules conditions values)
fault_after params conditions clauses (Clause picks) = first_broken (clause_line_rules clauses picks)

-- the first rule of a line that a statement breaks, after these statements
abbrev pub statement_fault : List Statement → Statement → Option SpaceWhat
statement_fault earlier s = fault_after (params_in earlier) (length (filter is_condition earlier)) (length (filter is_clause earlier)) s

-- a statement that keeps the rules of a line, after these statements
abbrev pub statement_check : List Statement → Statement → Result Statement ParamWhat
statement_check earlier s = unless (statement_fault earlier s) s

-- what a line states, or that it is no text or has none of the forms
unfoldable pub line_stated : List ℕ → Result Statement ParamWhat
line_stated line = if is_utf8 line then ok_or (statement_of (token_texts line)) Form else Err NotText

-- what a line states, after these statements, or its first fault
abbrev pub line_read : List Statement → List ℕ → Result Statement ParamWhat
line_read earlier line = line_stated line >>= statement_check earlier

-- statements with their lines, and what one more line states
abbrev pub with_line : List (ℕ × Statement) → ℕ → List ℕ → Result (List (ℕ × Statement)) ParamWhat
with_line earlier number line = line_read (map (λ s. s.1) earlier) line >>= λ s. Ok (earlier ++ (number, s) ∷ [])

-- ---- names and values as numbers

-- an element before others, where all are there
abbrev pub before : {B : Type 0} → Option B → Option (List B) → Option (List B)
before None ys = None
before (Some y) None = None
before (Some y) (Some ys) = Some (y ∷ ys)

-- what each element is read as, where all have a reading
abbrev pub all_some : {A B : Type 0} → (A → Option B) → List A → Option (List B)
all_some f [] = Some []
all_some f (x ∷ xs) = before (f x) (all_some f xs)

-- the number of the parameter with this name
abbrev pub param_number : List Param → List ℕ → Option ℕ
param_number params name = position (λ p. bytes_eq p.name name) params

-- the number of a value of the parameter with this number
abbrev pub value_number : List Param → ℕ → List ℕ → Option ℕ
value_number params p value = position (λ v. bytes_eq v value) (slice_index_or (map (λ q. q.values) params) p [])

-- a condition by numbers: its names, then its values
unfoldable pub condition_numbered : List Param → List ℕ → List ℕ → List (List ℕ) → Result condition.Condition SpaceWhat
condition_numbered params child parent values =
    ok_or (param_number params child) UnknownName >>= λ c.
    ok_or (param_number params parent) UnknownName >>= λ p.
    ok_or (all_some (value_number params p) values) UnknownValue >>= λ vs.
    Ok (record { child = c; parent = p; values = vs })

-- this value of the parameter with a number
abbrev pub pick_of : List Param → List ℕ → Option ℕ → Option Pick
pick_of params value None = None
pick_of params value (Some p) = option_map (λ v. record { param = p; value = v }) (value_number params p value)

-- a pick by numbers
unfoldable pub pick_numbered : List Param → NamedPick → Option Pick
pick_numbered params pick = pick_of params pick.value (param_number params pick.name)

-- a clause by numbers: all its names, then its values
unfoldable pub clause_numbered : List Param → List NamedPick → Result Forbidden SpaceWhat
clause_numbered params picks =
    ok_or (all_some (λ k. param_number params k.name) picks) UnknownName >>= λ _.
    ok_or (all_some (pick_numbered params) picks) UnknownValue >>= λ numbers.
    Ok (record { picks = numbers })

-- conditions and clauses by numbers, and their lines
pub record NumberedRelations : Type 0 where
  pub conditions : List condition.Condition
  pub condition_lines : List ℕ
  pub clauses : List Forbidden
  pub clause_lines : List ℕ

-- a condition in a line before others
abbrev pub with_condition : ℕ → condition.Condition → NumberedRelations → NumberedRelations
with_condition line c later = record later { conditions = c ∷ later.conditions; condition_lines = line ∷ later.condition_lines }

-- a clause in a line before others
abbrev pub with_clause : ℕ → Forbidden → NumberedRelations → NumberedRelations
with_clause line f later = record later { clauses = f ∷ later.clauses; clause_lines = line ∷ later.clause_lines }

-- the conditions and the clauses of statements by numbers, or the first fault
unfoldable pub all_numbered : List Param → List (ℕ × Statement) → Result NumberedRelations (LineFault ParamWhat)
all_numbered params [] = Ok (record { conditions = []; condition_lines = []; clauses = []; clause_lines = [] })
all_numbered params ((line, Nothing) ∷ later) = all_numbered params later
all_numbered params ((line, Parameter name values default) ∷ later) = all_numbered params later
all_numbered params ((line, Condition child parent values) ∷ later) =
    in_line line (of_space (condition_numbered params child parent values)) >>= λ c.
    all_numbered params later >>= λ n.
    Ok (with_condition line c n)
all_numbered params ((line, Clause picks) ∷ later) =
    in_line line (of_space (clause_numbered params picks)) >>= λ f.
    all_numbered params later >>= λ n.
    Ok (with_clause line f n)

-- ---- the file

-- the lists of parameters and of what is said of them by numbers
abbrev pub lists_of : List Param → NumberedRelations → Lists
lists_of params numbered = space_lists params numbered.conditions numbered.clauses

-- the line of an element of the lists, where these are the lines of the conditions and of the clauses; 0 for one of another list
abbrev pub list_line : List ℕ → List ℕ → Part → ℕ → ℕ
list_line condition_lines clause_lines part.Param place = 0
list_line condition_lines clause_lines part.Condition place = slice_index condition_lines place
list_line condition_lines clause_lines part.Forbidden place = slice_index clause_lines place
list_line condition_lines clause_lines part.Whole place = 0

-- a breach of these lists, by its parts, with its line
abbrev pub breach_fault : NumberedRelations → Part → ℕ → SpaceWhat → LineFault ParamWhat
breach_fault numbered part place what = space_fault_in (list_line numbered.condition_lines numbered.clause_lines part place) what

-- the value, or else the fault that there is, with its line
abbrev pub without_fault : {A : Type 0} → Option (LineFault ParamWhat) → A → Result A (LineFault ParamWhat)
without_fault None x = Ok x
without_fault (Some fault) x = Err fault

-- the space of these lists, or the first rule that they break with its line
abbrev pub space_made : List Param → NumberedRelations → Result Lists (LineFault ParamWhat)
space_made params numbered =
    without_fault (option_map (λ b. breach_fault numbered b.part b.place b.what) (space_fault (lists_of params numbered))) (lists_of params numbered)

-- one or more parameters
abbrev pub some_params : List Param → Result (List Param) (LineFault ParamWhat)
some_params [] = Err (space_fault_in 0 NoParameters)
some_params (p ∷ later) = Ok (p ∷ later)

-- the space that statements with their lines make, or the first fault: at last no cycle, and no clause that forbids the defaults
unfoldable pub space_stated : List (ℕ × Statement) → Result Lists (LineFault ParamWhat)
space_stated stated =
    some_params (params_in (map (λ s. s.1) stated)) >>= λ params.
    all_numbered params stated >>= λ numbered.
    without_fault (option_map (λ b. breach_fault numbered b.part b.place b.what) (whole_fault (lists_of params numbered))) (lists_of params numbered)

-- the space of a file, or its first fault
unfoldable pub params_read : List ℕ → Result Lists (LineFault ParamWhat)
params_read text =
    if nat_lt max_bytes (length text) then Err (space_fault_in 0 TooMany)
    else fold_lines with_line [] (numbered_lines text) >>= space_stated
