-- A file of two parameters and a condition, worked; and faults of small files.
use Rattle.std.specs.Prelude.{ℕ, ◌≡◌, List, [], ◌∷◌, Ok, Err, refl, codes}
use Rattle.param_space.specs.declared.lists.SpaceWhat.TheVariants.{NoParameters, Cycle, DefaultForbidden}
use Rattle.param_space.specs.Space.{Lists}
use Rattle.std.specs.Str.{is_utf8, chars}
use Rattle.plain_text.specs.LineFolds.{fold_lines}
use Rattle.plain_text.specs.Lines.{numbered_lines, numbered_from, lines_among}
use Rattle.plain_text.specs.Tokens.{token_texts, texts_after}
use Rattle.param_space.specs.Ancestors.{is_ancestor_within}
use Rattle.param_space.specs.Configurations.{is_active_within}
use Rattle.param_files.specs.Grammar.{statement_of, clause_of, condition_of, parameter_of, value_list, pick_list}
use Rattle.param_files.specs.Reading.{space_fault_in, params_read, line_stated, fault_after, params_in, space_stated, all_numbered, condition_numbered, clause_numbered, pick_numbered}
use Rattle.param_files.specs.PrintedLines.{space_text, param_line, condition_line}

-- `x {a, b} [a]`, `y {1, 2} [1]` and `y | x in {a}`
abbrev pub conditional : Lists
conditional = record {
  params = record { name = codes "x"; values = codes "a" ∷ codes "b" ∷ []; default = 0 }
      ∷ record { name = codes "y"; values = codes "1" ∷ codes "2" ∷ []; default = 0 } ∷ [];
  conditions = record { child = 1; parent = 0; values = 0 ∷ [] } ∷ [];
  forbidden = [];
}

-- the lines of it
abbrev pub conditional_text : List ℕ
conditional_text = codes "x {a, b} [a]\ny {1, 2} [1]\ny | x in {a}\n"

pub conditional_is_printed : space_text conditional ≡ conditional_text
unfolding param_line condition_line
conditional_is_printed = refl

pub conditional_is_read : params_read conditional_text ≡ Ok conditional
unfolding params_read fold_lines line_stated fault_after params_in space_stated all_numbered condition_numbered clause_numbered pick_numbered statement_of clause_of condition_of parameter_of value_list pick_list token_texts texts_after numbered_lines numbered_from lines_among is_utf8 chars is_ancestor_within is_active_within lib.Utf8.encode
conditional_is_read = refl

-- a clause that forbids the defaults
pub forbidden_default : params_read (codes "x {a, b} [a]\ny {1, 2} [1]\n{x=a, y=1}\n") ≡ Err (space_fault_in 3 DefaultForbidden)
unfolding params_read fold_lines line_stated fault_after params_in space_stated all_numbered condition_numbered clause_numbered pick_numbered statement_of clause_of condition_of parameter_of value_list pick_list token_texts texts_after numbered_lines numbered_from lines_among is_utf8 chars is_ancestor_within is_active_within lib.Utf8.encode
forbidden_default = refl

-- two parameters that depend on each other
pub two_in_a_cycle : params_read (codes "x {a, b} [a]\ny {1, 2} [1]\nx | y in {1}\ny | x in {a}\n") ≡ Err (space_fault_in 3 Cycle)
unfolding params_read fold_lines line_stated fault_after params_in space_stated all_numbered condition_numbered clause_numbered pick_numbered statement_of clause_of condition_of parameter_of value_list pick_list token_texts texts_after numbered_lines numbered_from lines_among is_utf8 chars is_ancestor_within is_active_within lib.Utf8.encode
two_in_a_cycle = refl

pub empty_file : params_read [] ≡ Err (space_fault_in 0 NoParameters)
unfolding params_read fold_lines line_stated fault_after params_in space_stated all_numbered condition_numbered clause_numbered pick_numbered statement_of clause_of condition_of parameter_of value_list pick_list token_texts texts_after numbered_lines numbered_from lines_among is_utf8 chars is_ancestor_within is_active_within lib.Utf8.encode
empty_file = refl
