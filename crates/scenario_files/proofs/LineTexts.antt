-- What a line states that is a text, or none.
use Rattle.std.proofs.Common.{ℕ, ◌≡◌, List, Err, ap, sym, ◌∙◌}
use Rattle.std.specs.Str.{IsUtf8}
use Rattle.plain_text.specs.Comments.{uncommented}
use Rattle.plain_text.proofs.LineFoldLemmas.{utf8-then, utf8-else}
use Rattle.scenario_files.specs.declared.draft.Draft.{Draft}
use Rattle.scenario_files.specs.declared.faults.ScenarioWhat.TheVariants.{NotText}
use Rattle.scenario_files.specs.Files.{with_statement, with_line}

-- bytes that are no text
pub no_text : (d : Draft) (line : List ℕ) → (IsUtf8 line → ⊥) → with_line d line ≡ Err NotText
unfolding with_line
no_text d line h = utf8-else line (with_statement d (uncommented line)) (Err NotText) h

-- a text
pub text_line : (d : Draft) (line text before : List ℕ) → text ≡ line → IsUtf8 line → before ≡ uncommented text → with_statement d before ≡ with_line d line
unfolding with_line
text_line d line text before same utf8 cut =
    ap (with_statement d) (cut ∙ ap uncommented same) ∙ sym (utf8-then line (with_statement d (uncommented line)) (Err NotText) utf8)
