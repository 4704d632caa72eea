use Rattle.std.proofs.Common.{◌≡◌, ◌++◌, filter, map, nat_lt, length, take}
use Rattle.wrapper_lines.proofs.runs.push_tab_parted.Given as goal

-- the parts so far that aren't empty are appended
abbrev pub invariant-loop-part : goal.invariant-loop-part
invariant-loop-part l = l.words.items ≡ l.initial.words.items ++ filter (λ word. nat_lt 0 (length word)) (take l.part-index (map (λ x. x.now) l.part-items))
