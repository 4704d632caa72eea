use Rattle.std.proofs.Common.{ap, sym, ◌∙◌}
use Rattle.std.proofs.lemmas.Result.{IfOk-weaker}
use Rattle.board_steps.specs.Boards.{plain_board}
use Rattle.board_steps.specs.declared.answers.BoardVerdict.TheVariants as board_verdict
use Rattle.capping.specs.declared.verdicts.Verdict.TheVariants as verdict
use Rattle.pool_core.proofs.PresentVerdicts.{advanced-as, after-as}
use Rattle.pool_core.proofs.board.Board.advance.Goals as goal

pub returns-in-Stopped-clause-answer : goal.returns-in-Stopped-clause-answer
returns-in-Stopped-clause-answer g c = advanced-as g.P.Search.shown (plain_board c.args.self.now) board_verdict.Stopped c.in-Stopped.ensures.value

pub returns-in-Stopped-clause-board : goal.returns-in-Stopped-clause-board
returns-in-Stopped-clause-board g c = after-as g.P.Search.shown (plain_board c.args.self.now) board_verdict.Stopped c.in-Stopped.ensures.value

pub returns-in-Aborted-clause-answer : goal.returns-in-Aborted-clause-answer
returns-in-Aborted-clause-answer g c = advanced-as g.P.Search.shown (plain_board c.args.self.now) board_verdict.Aborted c.in-Aborted.ensures.value

pub returns-in-Aborted-clause-board : goal.returns-in-Aborted-clause-board
returns-in-Aborted-clause-board g c = after-as g.P.Search.shown (plain_board c.args.self.now) board_verdict.Aborted c.in-Aborted.ensures.value

pub returns-in-Open-Ended-clause-answer : goal.returns-in-Open-Ended-clause-answer
returns-in-Open-Ended-clause-answer g c = advanced-as g.P.Search.shown (plain_board c.args.self.now) (board_verdict.Open verdict.Ended) (ap board_verdict.Open (sym c.in-Open-Ended.field-0-is) ∙ c.in-Open-Ended.ensures.value)

pub returns-in-Open-Ended-clause-board : goal.returns-in-Open-Ended-clause-board
returns-in-Open-Ended-clause-board g c = after-as g.P.Search.shown (plain_board c.args.self.now) (board_verdict.Open verdict.Ended) (ap board_verdict.Open (sym c.in-Open-Ended.field-0-is) ∙ c.in-Open-Ended.ensures.value)

pub returns-in-Open-Reply-clause-answer : goal.returns-in-Open-Reply-clause-answer
returns-in-Open-Reply-clause-answer g c =
    IfOk-weaker c.answer.result _ _ (λ a is. is ∙ advanced-as g.P.Search.shown (plain_board c.args.self.now) (board_verdict.Open (verdict.Reply c.in-Open-Reply.reply)) (ap board_verdict.Open (sym c.in-Open-Reply.field-0-is) ∙ c.in-Open-Reply.ensures.value)) c.answer.ensures.answer

pub returns-in-Open-Reply-clause-board : goal.returns-in-Open-Reply-clause-board
returns-in-Open-Reply-clause-board g c =
    IfOk-weaker c.answer.result _ _ (λ a is. is ∙ after-as g.P.Search.shown (plain_board c.args.self.now) (board_verdict.Open (verdict.Reply c.in-Open-Reply.reply)) (ap board_verdict.Open (sym c.in-Open-Reply.field-0-is) ∙ c.in-Open-Reply.ensures.value)) c.answer.ensures.board

pub returns-in-Open-Need-clause-answer : goal.returns-in-Open-Need-clause-answer
returns-in-Open-Need-clause-answer g c =
    IfOk-weaker c.wish.result _ _ (λ a is. is ∙ advanced-as g.P.Search.shown (plain_board c.args.self.now) (board_verdict.Open (verdict.Need c.in-Open-Need.place c.in-Open-Need.cutoff)) (ap board_verdict.Open (sym c.in-Open-Need.field-0-is) ∙ c.in-Open-Need.ensures.value)) c.wish.ensures.answer

pub returns-in-Open-Need-clause-board : goal.returns-in-Open-Need-clause-board
returns-in-Open-Need-clause-board g c =
    IfOk-weaker c.wish.result _ _ (λ a is. is ∙ after-as g.P.Search.shown (plain_board c.args.self.now) (board_verdict.Open (verdict.Need c.in-Open-Need.place c.in-Open-Need.cutoff)) (ap board_verdict.Open (sym c.in-Open-Need.field-0-is) ∙ c.in-Open-Need.ensures.value)) c.wish.ensures.board

pub returns-in-Open-Aborted-clause-answer : goal.returns-in-Open-Aborted-clause-answer
returns-in-Open-Aborted-clause-answer g c =
    IfOk-weaker c.abort.result _ _ (λ a is. is ∙ advanced-as g.P.Search.shown (plain_board c.args.self.now) (board_verdict.Open (verdict.Aborted c.in-Open-Aborted.place)) (ap board_verdict.Open (sym c.in-Open-Aborted.field-0-is) ∙ c.in-Open-Aborted.ensures.value)) c.abort.ensures.answer

pub returns-in-Open-Aborted-clause-board : goal.returns-in-Open-Aborted-clause-board
returns-in-Open-Aborted-clause-board g c =
    IfOk-weaker c.abort.result _ _ (λ a is. is ∙ after-as g.P.Search.shown (plain_board c.args.self.now) (board_verdict.Open (verdict.Aborted c.in-Open-Aborted.place)) (ap board_verdict.Open (sym c.in-Open-Aborted.field-0-is) ∙ c.in-Open-Aborted.ensures.value)) c.abort.ensures.board
