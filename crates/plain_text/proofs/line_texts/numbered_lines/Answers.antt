use Rattle.std.proofs.Common.{refl}
use Rattle.plain_text.specs.Lines.{numbered_lines}
use Rattle.plain_text.proofs.line_texts.numbered_lines.Goals as goal

pub returns : goal.returns
unfolding numbered_lines
returns c = refl
