use Rattle.std.proofs.Common.{sym, ◌∙◌}
use Rattle.plain_text.proofs.FirstLine.{positions-none_by}
use Rattle.plain_text.proofs.line_positions.TextLinesIterator.next.Goals as goal

pub returns-then-is_empty-clause-steps : goal.returns-then-is_empty-clause-steps
returns-then-is_empty-clause-steps c = positions-none_by c.self.inside.given c.self.inside.start c.self.inside.rest.now c.args.self.now (sym c.if-is_empty.true ∙ c.is_empty.ensures) c.self.view_is
