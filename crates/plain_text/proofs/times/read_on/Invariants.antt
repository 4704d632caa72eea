use Rattle.std.proofs.Common.{◌≡◌, ◌^◌, take, min}
use Rattle.std.specs.Str.Parse.{digits_value_after}
use Rattle.plain_text.proofs.times.read_on.Given as goal

-- the number of the digits so far
abbrev pub invariant-loop-digit : goal.invariant-loop-digit
invariant-loop-digit l = l.value ≡ min (digits_value_after 10 l.start (take l.digit-index l.digits)) (2 ^ 64)
