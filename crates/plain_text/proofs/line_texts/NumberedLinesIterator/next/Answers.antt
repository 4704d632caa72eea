use Rattle.std.proofs.Common.{sym, ◌∙◌, ◌+◌, ap, length, rules}
use Rattle.plain_text.proofs.FirstLine.{numbered-none_by, numbered-first}
use Rattle.plain_text.proofs.line_texts.NumberedLinesIterator.next.Goals as goal

pub returns-then-is_empty-clause-steps : goal.returns-then-is_empty-clause-steps
returns-then-is_empty-clause-steps c =
    numbered-none_by (c.self.inside.given + 1) c.self.inside.rest.now c.args.self.now (sym c.if-is_empty.true ∙ c.is_empty.ensures) c.self.view_is

pub returns-clause-steps : goal.returns-clause-steps
returns-clause-steps c = sym c.self.view_is ∙ numbered-first (c.self.inside.given + 1) c.self.inside.rest.now c.first_line.result.0.now c.first_line.result.1.now c.first_line.ensures.first

pub returns-clause-goes : goal.returns-clause-goes
returns-clause-goes c =
    let steps = sym c.self.view_is ∙ numbered-first (c.self.inside.given + 1) c.self.inside.rest.now c.first_line.result.0.now c.first_line.result.1.now c.first_line.ensures.first in
    let shorter = ap length steps in search rules
