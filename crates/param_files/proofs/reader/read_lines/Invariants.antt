use Rattle.std.proofs.Common.{◌≡◌}
use Rattle.plain_text.specs.LineFolds.{fold_lines}
use Rattle.param_files.specs.KeptStatements.{kept_line, kept_lines}
use Rattle.param_files.proofs.reader.read_lines.Given as goal

-- the lines that are left make the whole of what is kept
abbrev pub invariant-loop-line : goal.invariant-loop-line
invariant-loop-line l = kept_lines l.text ≡ fold_lines kept_line l.kept l.line-iterator
