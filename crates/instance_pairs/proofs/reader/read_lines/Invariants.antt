use Rattle.std.specs.Prelude.{[], ◌≡◌}
use Rattle.plain_text.specs.LineFolds.{fold_lines}
use Rattle.plain_text.specs.Lines.{numbered_lines}
use Rattle.instance_pairs.specs.Files.{with_line}
use Rattle.instance_pairs.proofs.reader.read_lines.Given as goal

-- the instances of the lines so far
abbrev pub invariant-loop-line : goal.invariant-loop-line
invariant-loop-line l = fold_lines with_line [] (numbered_lines l.text) ≡ fold_lines with_line l.instances.items l.line-iterator
