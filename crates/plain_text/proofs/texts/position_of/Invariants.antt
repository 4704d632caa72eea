use Rattle.std.proofs.Common.{ℕ, ◌≡◌, ◌<◌, [], false, get_or, bytes_eq}
use Rattle.plain_text.proofs.texts.position_of.Given as goal

-- none of the texts so far is this one
abbrev pub invariant-loop-i : goal.invariant-loop-i
invariant-loop-i l = (k : ℕ) → k < l.i → bytes_eq l.text (get_or l.texts k []) ≡ false
