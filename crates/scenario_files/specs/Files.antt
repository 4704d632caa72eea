-- The keys that a scenario file gives, or its first fault.
use Rattle.std.specs.Prelude.{ℕ, List, Result, Ok, Err, ok_or, nat_lt, length, if◌then◌else◌}
use Rattle.std.specs.List.{list_all}
use Rattle.std.specs.Str.{is_utf8}
use Rattle.plain_text.specs.Comments.{uncommented}
use Rattle.plain_text.specs.Faults.{LineFault}
use Rattle.plain_text.specs.Limits
use Rattle.plain_text.specs.LineFolds.{fold_lines}
use Rattle.plain_text.specs.Lines.{numbered_lines}
use Rattle.plain_text.specs.Parts.{parted}
use Rattle.plain_text.specs.Results.{◌>>=◌}
use Rattle.plain_text.specs.Trimming.{trimmed}
use Rattle.plain_text.specs.Words.{is_blank}
use Rattle.scenario_files.specs.declared.draft.Draft.{Draft}
use Rattle.scenario_files.specs.declared.faults.ScenarioWhat.{ScenarioWhat}
use Rattle.scenario_files.specs.declared.faults.ScenarioWhat.TheVariants.{NotText, NoEquals, BadValue}
use Rattle.scenario_files.specs.Drafts.{no_keys, with_name}

-- the draft with what a line without a comment states: of blanks alone it means nothing
abbrev pub with_statement : Draft → List ℕ → Result Draft ScenarioWhat
with_statement d text =
    if list_all is_blank text then Ok d
    else ok_or (parted 61 text) NoEquals >>= λ parts. with_name d (trimmed parts.0) (trimmed parts.1)

-- the draft with what a line states
unfoldable pub with_line : Draft → List ℕ → Result Draft ScenarioWhat
with_line d line = if is_utf8 line then with_statement d (uncommented line) else Err NotText

-- the keys of numbered lines, or the first fault
abbrev pub lines_read : List (ℕ × List ℕ) → Result Draft (LineFault ScenarioWhat)
lines_read lines = fold_lines (λ d number line. with_line d line) no_keys lines

-- the keys of a file, or its first fault
unfoldable pub scenario_read : List ℕ → Result Draft (LineFault ScenarioWhat)
scenario_read text =
    if nat_lt Limits.max_bytes (length text) then Err (record { line = 0; what = BadValue })
    else lines_read (numbered_lines text)
