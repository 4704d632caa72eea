use Rattle.std.proofs.Common.{◌≡◌, ◌==◌, filter, map, nat_lt, length, take}
use Rattle.std.specs.List.{flat_map, slice_split}
use Rattle.wrapper_lines.proofs.runs.read_program.Given as goal

-- the words are those of the parts so far
abbrev pub invariant-loop-part : goal.invariant-loop-part
invariant-loop-part l = l.words.items ≡ filter (λ word. nat_lt 0 (length word)) (flat_map (slice_split (λ b. b == 9)) (take l.part-index (map (λ x. x.now) l.part-items)))
