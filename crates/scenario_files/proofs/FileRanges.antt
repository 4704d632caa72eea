-- What a file gives lies within its limits.
use Rattle.std.specs.Prelude.{ℕ, ◌≡◌, Bool, true, false, List, [], ◌∷◌, Option, Some, None, Result, Ok, Err, ok_or, refl}
use Rattle.std.specs.List.{list_all}
use Rattle.std.specs.Str.{is_utf8}
use Rattle.std.proofs.Common.{cond, subst}
use Rattle.plain_text.specs.Comments.{uncommented}
use Rattle.plain_text.specs.Faults.{LineFault, in_line}
use Rattle.plain_text.specs.LineFolds.{fold_lines}
use Rattle.plain_text.specs.Parts.{parted}
use Rattle.plain_text.specs.Results.{◌>>=◌}
use Rattle.plain_text.specs.Trimming.{trimmed}
use Rattle.plain_text.specs.Words.{is_blank}
use Rattle.scenario_files.specs.declared.draft.Draft.{Draft}
use Rattle.scenario_files.specs.declared.faults.ScenarioWhat.{ScenarioWhat}
use Rattle.scenario_files.specs.declared.faults.ScenarioWhat.TheVariants.{NotText, NoEquals}
use Rattle.scenario_files.specs.Drafts.{no_keys, with_name}
use Rattle.scenario_files.specs.Files.{with_statement, with_line, lines_read}
use Rattle.scenario_files.specs.Ranges.{AreWithin}
use Rattle.scenario_files.proofs.ValueRanges.{same_ok, name_within, no_keys_within}

statement_within : (d e : Draft) (text : List ℕ) → AreWithin d → with_statement d text ≡ Ok e → AreWithin e
statement_within d e text w h = by (list_all is_blank text) (parted 61 text) h
  where
    by : (b : Bool) (parts : Option (List ℕ × List ℕ)) → cond b (Ok d) (ok_or parts NoEquals >>= λ p. with_name d (trimmed p.0) (trimmed p.1)) ≡ Ok e → AreWithin e
    by true parts h = subst AreWithin (same_ok d e h) w
    by false None h = absurd (cc)
    by false (Some p) h = name_within d e (trimmed p.0) (trimmed p.1) w h

line_within : (d e : Draft) (line : List ℕ) → AreWithin d → with_line d line ≡ Ok e → AreWithin e
unfolding with_line
line_within d e line w h = by (is_utf8 line) h
  where
    by : (b : Bool) → cond b (with_statement d (uncommented line)) (Err NotText) ≡ Ok e → AreWithin e
    by false h = absurd (cc)
    by true h = statement_within d e (uncommented line) w h

-- what lines make of a draft
abbrev with_lines : Draft → List (ℕ × List ℕ) → Result Draft (LineFault ScenarioWhat)
with_lines d lines = fold_lines (λ d number line. with_line d line) d lines

-- lines keep a draft within its limits
lines_within : (d e : Draft) (lines : List (ℕ × List ℕ)) → AreWithin d → with_lines d lines ≡ Ok e → AreWithin e
unfolding fold_lines
lines_within d e [] w h = subst AreWithin (same_ok d e h) w
lines_within d e ((number, line) ∷ later) w h = by (with_line d line) refl h (λ x v. lines_within x e later v)
  where
    by : (r : Result Draft ScenarioWhat) → with_line d line ≡ r → (in_line number r >>= λ x. with_lines x later) ≡ Ok e → ((x : Draft) → AreWithin x → with_lines x later ≡ Ok e → AreWithin e) → AreWithin e
    by (Err what) is h rest = absurd (cc)
    by (Ok x) is h rest = rest x (line_within d x line w is) h

-- what lines give lies within its limits
pub lines_read_within : (d : Draft) (lines : List (ℕ × List ℕ)) → lines_read lines ≡ Ok d → AreWithin d
lines_read_within d lines h = lines_within no_keys d lines no_keys_within h
