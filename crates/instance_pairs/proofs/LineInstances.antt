-- What a line makes of the instances before it.
use Rattle.std.specs.Prelude.{ℕ, ◌≡◌, List, Option, Err, IsUtf8}
use Rattle.std.proofs.Common.{sym, ap, ◌∙◌}
use Rattle.plain_text.proofs.LineFoldLemmas.{utf8-then, utf8-else}
use Rattle.instance_pairs.specs.declared.faults.InstanceWhat.TheVariants.{NotText}
use Rattle.instance_pairs.specs.declared.instances.Instance.{Instance}
use Rattle.instance_pairs.specs.Files.{instance_of, with_instance, with_line}

module _ (earlier : List Instance) (number : ℕ) (line : List ℕ) where
  -- a line that is a text
  pub with_line-text : (text : List ℕ) (stated : Option Instance) → text ≡ line → IsUtf8 line → stated ≡ instance_of text → with_instance earlier stated ≡ with_line earlier number line
  unfolding with_line
  with_line-text text stated same utf8 is =
      ap (with_instance earlier) (is ∙ ap instance_of same) ∙ sym (utf8-then line (with_instance earlier (instance_of line)) (Err NotText) utf8)

  -- a line that is no text
  pub with_line-no_text : (IsUtf8 line → ⊥) → with_line earlier number line ≡ Err NotText
  unfolding with_line
  with_line-no_text h = utf8-else line (with_instance earlier (instance_of line)) (Err NotText) h
