use Rattle.std.proofs.Common.{arith}
use Rattle.plain_text.proofs.Positions.{count_small}
use Rattle.plain_text.proofs.times.power_size.Goals as goal

pub returns-in-Some-clause-small : goal.returns-in-Some-clause-small
returns-in-Some-clause-small c = count_small c.without_sign-digits.result.now c.in-Some.size (omega (arith, c)) c.in-Some.ensures
