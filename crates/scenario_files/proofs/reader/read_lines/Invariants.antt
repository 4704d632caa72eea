use Rattle.std.specs.Prelude.{◌≡◌}
use Rattle.plain_text.specs.LineFolds.{fold_lines}
use Rattle.plain_text.specs.Lines.{numbered_lines}
use Rattle.scenario_files.specs.Files.{with_line, lines_read}
use Rattle.scenario_files.proofs.reader.read_lines.Given as goal

-- the draft of the lines so far
abbrev pub invariant-loop-line : goal.invariant-loop-line
invariant-loop-line l = lines_read (numbered_lines l.text) ≡ fold_lines (λ d number line. with_line d line) l.draft l.line-iterator
