use Rattle.std.proofs.Common.{◌≡◌, take}
use Rattle.ils_frame.proofs.entries.copied.Given as goal

-- the incumbents so far
abbrev pub invariant-loop-entry : goal.invariant-loop-entry
invariant-loop-entry l = l.copies.items ≡ take l.entry-index l.entries
