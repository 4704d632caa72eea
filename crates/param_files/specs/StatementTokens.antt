-- The tokens that a statement is written with, and the lines that state something: the grammar from its statements to their tokens.
use Rattle.std.specs.Prelude.{ℕ, ◌≡◌, ◌&&◌, Bool, true, nat_lt, List, [], ◌∷◌, ◌++◌, length, codes}
use Rattle.std.specs.List.{All, Any, list_all}
use Rattle.plain_text.specs.Lines.{numbered_lines}
use Rattle.plain_text.specs.Tokens.{token_texts}
use Rattle.plain_text.specs.Words.{is_word}
use Rattle.param_files.specs.declared.faults.ParamWhat.TheVariants.{NotText, Form, Space}
use Rattle.param_files.specs.declared.faults.ParamFault.{ParamFault}
use Rattle.param_files.specs.declared.faults.ParamFault.TheVariants.{At, Memory}
use Rattle.param_files.specs.declared.statements.NamedPick.{NamedPick}
use Rattle.param_files.specs.declared.statements.Statement.{Statement}
use Rattle.param_files.specs.declared.statements.Statement.TheVariants.{Nothing, Parameter, Condition, Clause}
use Rattle.param_files.specs.Grammar.{is_nothing}

-- values parted by commas
abbrev pub parted_values : List (List ℕ) → List (List ℕ)
parted_values [] = []
parted_values (v ∷ []) = v ∷ []
parted_values (v ∷ w ∷ later) = v ∷ codes "," ∷ parted_values (w ∷ later)

-- picks parted by commas
abbrev pub parted_picks : List NamedPick → List (List ℕ)
parted_picks [] = []
parted_picks (k ∷ []) = k.name ∷ codes "=" ∷ k.value ∷ []
parted_picks (k ∷ l ∷ later) = k.name ∷ codes "=" ∷ k.value ∷ codes "," ∷ parted_picks (l ∷ later)

-- the tokens of a statement
abbrev pub statement_tokens : Statement → List (List ℕ)
statement_tokens Nothing = []
statement_tokens (Parameter name values default) = name ∷ codes "{" ∷ (parted_values values ++ codes "}" ∷ codes "[" ∷ default ∷ codes "]" ∷ [])
statement_tokens (Condition child parent values) = child ∷ codes "|" ∷ parent ∷ codes "in" ∷ codes "{" ∷ (parted_values values ++ codes "}" ∷ [])
statement_tokens (Clause picks) = codes "{" ∷ (parted_picks picks ++ codes "}" ∷ [])

-- one or more values, all of them words
abbrev pub are_values : List (List ℕ) → Bool
are_values values = nat_lt 0 (length values) && list_all is_word values

-- a pick of two words
abbrev pub is_pick_of_words : NamedPick → Bool
is_pick_of_words k = is_word k.name && is_word k.value

-- one or more picks of words
abbrev pub are_picks : List NamedPick → Bool
are_picks picks = nat_lt 0 (length picks) && list_all is_pick_of_words picks

-- names and values are words, and there are some
abbrev pub is_form : Statement → Bool
is_form Nothing = true
is_form (Parameter name values default) = is_word name && (are_values values && is_word default)
is_form (Condition child parent values) = is_word child && (is_word parent && are_values values)
is_form (Clause picks) = are_picks picks

-- these tokens state this: nothing where there are none or a heading, and else they are those that the statement is written with
abbrev pub States : List (List ℕ) → Statement → Type 0
States tokens Nothing = is_nothing tokens ≡ true
States tokens (Parameter name values default) = (tokens ≡ statement_tokens (Parameter name values default)) × (is_form (Parameter name values default) ≡ true)
States tokens (Condition child parent values) = (tokens ≡ statement_tokens (Condition child parent values)) × (is_form (Condition child parent values) ≡ true)
States tokens (Clause picks) = (tokens ≡ statement_tokens (Clause picks)) × (is_form (Clause picks) ≡ true)

-- a line states something
abbrev pub IsStatement : List ℕ → Type 0
IsStatement line = (s : Statement) × States (token_texts line) s

-- each line of a text does
abbrev pub AreStatements : List ℕ → Type 0
AreStatements text = All (λ line. IsStatement line.1) (numbered_lines text)

-- where the fault is one of a line's form, that line states nothing that there is
abbrev pub IsFormless : List ℕ → ParamFault → Type 0
IsFormless text (At number NotText) = Unit {0}
IsFormless text (At number Form) = Any (λ line. (line.0 ≡ number) × (IsStatement line.1 → ⊥)) (numbered_lines text)
IsFormless text (At number (Space what)) = Unit {0}
IsFormless text Memory = Unit {0}
