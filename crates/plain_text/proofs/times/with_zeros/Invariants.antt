use Rattle.std.proofs.Common.{◌≡◌, ◌*◌, ◌^◌, min}
use Rattle.plain_text.proofs.times.with_zeros.Given as goal

-- the number with the zeros so far
abbrev pub invariant-loop-zero : goal.invariant-loop-zero
invariant-loop-zero l = l.value ≡ min (l.start * 10 ^ l._zero) (2 ^ 64)
