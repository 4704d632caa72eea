use Rattle.std.proofs.Common.{◌≡◌, length}
use Rattle.std.specs.List.{filter_map, last_or}
use Rattle.std.specs.Option.{option_copied}
use Rattle.plain_text.specs.Lines.{lines}
use Rattle.wrapper_lines.specs.ResultLines.{said_in, last_said}
use Rattle.wrapper_lines.proofs.result_lines.last_said.Given as goal

-- the last one so far, and then those of the rest, are those of the output
abbrev pub invariant-loop-rest : goal.invariant-loop-rest
invariant-loop-rest l = last_or (option_copied l.last) (filter_map said_in (lines l.rest)) ≡ last_said l.output

abbrev pub decreases-loop-rest : goal.decreases-loop-rest
decreases-loop-rest l = length l.rest
