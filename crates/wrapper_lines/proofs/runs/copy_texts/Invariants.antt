use Rattle.std.proofs.Common.{◌≡◌, take}
use Rattle.wrapper_lines.proofs.runs.copy_texts.Given as goal

-- the copies are the texts so far
abbrev pub invariant-loop-text : goal.invariant-loop-text
invariant-loop-text l = l.copies.items ≡ take l.text-index l.texts
