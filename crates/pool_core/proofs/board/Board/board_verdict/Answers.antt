use Rattle.std.proofs.Common.{is_some, ap, sym, ◌∙◌}
use Rattle.board_steps.specs.Boards.{state_of}
use Rattle.pool_core.proofs.PresentVerdicts.{board_verdict-stopped, board_verdict-aborted, board_verdict-open, replies-fit, needs-runnable}
use Rattle.pool_core.proofs.board.Board.board_verdict.Goals as goal

pub returns-then-stopped-clause-value : goal.returns-then-stopped-clause-value
returns-then-stopped-clause-value g c =
    let i = c.self.inside in
    let b = state_of i.problem i.search.replies i.cache i.wishes.items i.aborted i.ledger in
    rw (← c.self.view_is) (board_verdict-stopped g.P.Search.shown b (sym c.stopped.ensures ∙ c.if-stopped.true))

pub returns-then-is_some-clause-value : goal.returns-then-is_some-clause-value
returns-then-is_some-clause-value g c =
    let i = c.self.inside in
    let b = state_of i.problem i.search.replies i.cache i.wishes.items i.aborted i.ledger in
    rw (← c.self.view_is) (board_verdict-aborted g.P.Search.shown b (sym c.stopped.ensures ∙ c.if-stopped.false) (sym c.is_some.ensures ∙ c.if-is_some.true))

pub returns-clause-value : goal.returns-clause-value
returns-clause-value g c =
    let running = sym (ap (λ s. s.stopped) c.self.view_is) ∙ sym c.stopped.ensures ∙ c.if-stopped.false in
    let none = sym (ap (λ s. is_some s.aborted) c.self.view_is) ∙ sym c.is_some.ensures ∙ c.if-is_some.false in
    board_verdict-open g.P.Search.shown c.args.self.now c.verdict.result running none c.verdict.ensures

pub returns-clause-fits : goal.returns-clause-fits
returns-clause-fits g c = replies-fit g.P.Search.shown c.args.self.now c.verdict.result c.verdict.ensures

pub returns-clause-runnable : goal.returns-clause-runnable
returns-clause-runnable g c = needs-runnable g.P.Search.shown c.args.self.now c.verdict.result c.verdict.ensures
