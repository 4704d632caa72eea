-- What a line is read as.
use Rattle.std.proofs.Common.{◌≡◌, List, ℕ, Bor, Option, Err, ap, sym, ◌∙◌}
use Rattle.std.specs.Prelude.{ok_or}
use Rattle.std.specs.Str.{IsUtf8}
use Rattle.plain_text.specs.Tokens.{token_texts}
use Rattle.plain_text.proofs.LineFoldLemmas.{utf8-then, utf8-else}
use Rattle.param_files.specs.declared.faults.ParamWhat.TheVariants.{NotText, Form}
use Rattle.param_files.specs.declared.statements.Statement.{Statement}
use Rattle.param_files.specs.Grammar.{statement_of}
use Rattle.param_files.specs.Reading.{line_stated}
use Rattle.param_files.proofs.Fronts.{texts}

-- bytes that are no text
pub no_text : (line : List ℕ) → (IsUtf8 line → ⊥) → line_stated line ≡ Err NotText
unfolding line_stated
no_text line h = utf8-else line (ok_or (statement_of (token_texts line)) Form) (Err NotText) h

-- a text with these tokens
pub text_stated : (line text : List ℕ) (tokens kept : List (Bor (List ℕ))) (s : Option Statement) → text ≡ line → IsUtf8 line → texts kept ≡ token_texts text → tokens ≡ kept → s ≡ statement_of (texts tokens)
    → line_stated line ≡ ok_or s Form
unfolding line_stated
text_stated line text tokens kept s same utf8 split passed read =
    utf8-then line (ok_or (statement_of (token_texts line)) Form) (Err NotText) utf8
    ∙ ap (λ ts. ok_or (statement_of ts) Form) (ap token_texts (sym same) ∙ sym split ∙ ap texts (sym passed))
    ∙ ap (λ o. ok_or o Form) (sym read)
