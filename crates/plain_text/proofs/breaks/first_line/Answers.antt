use Rattle.std.proofs.Common.{arith, ◌+◌}
use Rattle.plain_text.proofs.FirstLine.{lines-open, lines-ended, positions-open, positions-ended}
use Rattle.plain_text.proofs.KeptDigits.{drop_rest}
use Rattle.plain_text.proofs.breaks.first_line.Goals as goal

pub returns-then-position-text-clause-first : goal.returns-then-position-text-clause-first
returns-then-position-text-clause-first c =
    let position = c.first_break-position.result in
    lines-ended c.args.text.now c.without_return.result.now _ position c.first_break-position.ensures.value c.if-position-text.true c.without_return.ensures.line (drop_rest (position + 1) c.args.text.now)

pub returns-then-position-text-clause-position : goal.returns-then-position-text-clause-position
returns-then-position-text-clause-position c =
    let position = c.first_break-position.result in
    positions-ended c.args.text.now c.without_return.result.now _ position c.first_break-position.ensures.value c.if-position-text.true c.without_return.ensures.line (drop_rest (position + 1) c.args.text.now)

pub returns-clause-first : goal.returns-clause-first
returns-clause-first c =
    let position = c.first_break-position.result in
    lines-open c.args.text.now _ position c.requires c.first_break-position.ensures.value (omega arith) (drop_rest position c.args.text.now)

pub returns-clause-position : goal.returns-clause-position
returns-clause-position c =
    let position = c.first_break-position.result in
    positions-open c.args.text.now _ position c.requires c.first_break-position.ensures.value (omega arith) (drop_rest position c.args.text.now)
