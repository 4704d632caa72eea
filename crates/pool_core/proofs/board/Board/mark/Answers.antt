use Rattle.std.proofs.Common.{ap, sym, ◌∙◌}
use Rattle.board_steps.specs.Boards.{plain_board}
use Rattle.board_steps.specs.declared.answers.BoardVerdict.TheVariants as board_verdict
use Rattle.capping.specs.declared.verdicts.Verdict.TheVariants as verdict
use Rattle.pool_core.proofs.MarkedBoards.{unwanted-as, marked-by, count-by, marked-none, count-none}
use Rattle.pool_core.proofs.board.Board.mark.Goals as goal

pub returns-in-Stopped-clause-answer : goal.returns-in-Stopped-clause-answer
returns-in-Stopped-clause-answer g c = c.mark_all.ensures.answer ∙ count-by g.P.Search.shown c.args.self.now board_verdict.Stopped c.in-Stopped.ensures.value

pub returns-in-Stopped-clause-board : goal.returns-in-Stopped-clause-board
returns-in-Stopped-clause-board g c = c.mark_all.ensures.board ∙ marked-by g.P.Search.shown c.args.self.now board_verdict.Stopped c.in-Stopped.ensures.value

pub returns-in-Aborted-clause-answer : goal.returns-in-Aborted-clause-answer
returns-in-Aborted-clause-answer g c = c.mark_all-in-Aborted.ensures.answer ∙ count-by g.P.Search.shown c.args.self.now board_verdict.Aborted c.in-Aborted.ensures.value

pub returns-in-Aborted-clause-board : goal.returns-in-Aborted-clause-board
returns-in-Aborted-clause-board g c = c.mark_all-in-Aborted.ensures.board ∙ marked-by g.P.Search.shown c.args.self.now board_verdict.Aborted c.in-Aborted.ensures.value

pub returns-in-Open-Ended-clause-answer : goal.returns-in-Open-Ended-clause-answer
returns-in-Open-Ended-clause-answer g c = c.mark_all-in-Open-Ended.ensures.answer ∙ count-by g.P.Search.shown c.args.self.now (board_verdict.Open verdict.Ended) (ap board_verdict.Open (sym c.in-Open-Ended.field-0-is) ∙ c.in-Open-Ended.ensures.value)

pub returns-in-Open-Ended-clause-board : goal.returns-in-Open-Ended-clause-board
returns-in-Open-Ended-clause-board g c = c.mark_all-in-Open-Ended.ensures.board ∙ marked-by g.P.Search.shown c.args.self.now (board_verdict.Open verdict.Ended) (ap board_verdict.Open (sym c.in-Open-Ended.field-0-is) ∙ c.in-Open-Ended.ensures.value)

pub returns-in-Open-Reply-clause-answer : goal.returns-in-Open-Reply-clause-answer
returns-in-Open-Reply-clause-answer g c = count-none g.P.Search.shown c.args.self.now (unwanted-as g.P.Search.shown (plain_board c.args.self.now) (board_verdict.Open (verdict.Reply c.in-Open-Reply.field-0-0)) (ap board_verdict.Open (sym c.in-Open-Reply.field-0-is) ∙ c.in-Open-Reply.ensures.value))

pub returns-in-Open-Reply-clause-board : goal.returns-in-Open-Reply-clause-board
returns-in-Open-Reply-clause-board g c = marked-none g.P.Search.shown (plain_board c.args.self.now) (unwanted-as g.P.Search.shown (plain_board c.args.self.now) (board_verdict.Open (verdict.Reply c.in-Open-Reply.field-0-0)) (ap board_verdict.Open (sym c.in-Open-Reply.field-0-is) ∙ c.in-Open-Reply.ensures.value))

pub returns-in-Open-Aborted-clause-answer : goal.returns-in-Open-Aborted-clause-answer
returns-in-Open-Aborted-clause-answer g c = count-none g.P.Search.shown c.args.self.now (unwanted-as g.P.Search.shown (plain_board c.args.self.now) (board_verdict.Open (verdict.Aborted c.in-Open-Aborted.field-0-0)) (ap board_verdict.Open (sym c.in-Open-Aborted.field-0-is) ∙ c.in-Open-Aborted.ensures.value))

pub returns-in-Open-Aborted-clause-board : goal.returns-in-Open-Aborted-clause-board
returns-in-Open-Aborted-clause-board g c = marked-none g.P.Search.shown (plain_board c.args.self.now) (unwanted-as g.P.Search.shown (plain_board c.args.self.now) (board_verdict.Open (verdict.Aborted c.in-Open-Aborted.field-0-0)) (ap board_verdict.Open (sym c.in-Open-Aborted.field-0-is) ∙ c.in-Open-Aborted.ensures.value))
