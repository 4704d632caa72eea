use Rattle.std.specs.Prelude.{◌==◌, IsCharBoundary}
use Rattle.std.specs.List.{position_or_len}
use Rattle.std.proofs.Common.{◌≡◌, ◌∙◌, ap, sym, subst, arith}
use Rattle.std.proofs.lemmas.Str.{IsCharBoundary-start}
use Rattle.plain_text.proofs.TokenPositionLemmas.{comment_boundary}
use Rattle.plain_text.proofs.comments.uncommented.Goals as goal

pub range-requires : goal.range-requires
range-requires c =
    let line = c.args.line.now in
    let same : c.comment_position.result ≡ position_or_len (λ b. b == 35) line = c.comment_position.ensures.value ∙ ap (position_or_len (λ b. b == 35)) c.as_bytes.ensures.value in
    record {
      start_le_end = omega arith;
      start_boundary = λ _. IsCharBoundary-start line c.utf8.line;
      end_boundary = subst (IsCharBoundary line) (sym same) (comment_boundary line c.utf8.line);
    }
