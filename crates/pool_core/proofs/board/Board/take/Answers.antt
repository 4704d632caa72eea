use Rattle.std.proofs.Common.{ap, sym, ◌∙◌}
use Rattle.board_steps.specs.Boards.{plain_board}
use Rattle.board_steps.specs.declared.answers.BoardVerdict.TheVariants as board_verdict
use Rattle.board_steps.specs.declared.answers.Taken.TheVariants as taken
use Rattle.capping.specs.declared.verdicts.Verdict.TheVariants as verdict
use Rattle.pool_core.proofs.PresentVerdicts.{taken-as, after-taken}
use Rattle.pool_core.proofs.board.Board.take.Goals as goal

pub returns-in-Stopped-clause-answer : goal.returns-in-Stopped-clause-answer
returns-in-Stopped-clause-answer g c = taken-as g.P.Search.shown (plain_board c.args.self.now) board_verdict.Stopped c.in-Stopped.ensures.value

pub returns-in-Stopped-clause-board : goal.returns-in-Stopped-clause-board
returns-in-Stopped-clause-board g c = after-taken g.P.Search.shown (plain_board c.args.self.now) taken.Stopped (returns-in-Stopped-clause-answer g c)

pub returns-in-Aborted-clause-answer : goal.returns-in-Aborted-clause-answer
returns-in-Aborted-clause-answer g c = taken-as g.P.Search.shown (plain_board c.args.self.now) board_verdict.Aborted c.in-Aborted.ensures.value

pub returns-in-Aborted-clause-board : goal.returns-in-Aborted-clause-board
returns-in-Aborted-clause-board g c = after-taken g.P.Search.shown (plain_board c.args.self.now) taken.Ended (returns-in-Aborted-clause-answer g c)

pub returns-in-Open-Ended-clause-answer : goal.returns-in-Open-Ended-clause-answer
returns-in-Open-Ended-clause-answer g c = taken-as g.P.Search.shown (plain_board c.args.self.now) (board_verdict.Open verdict.Ended) (ap board_verdict.Open (sym c.in-Open-Ended.field-0-is) ∙ c.in-Open-Ended.ensures.value)

pub returns-in-Open-Ended-clause-board : goal.returns-in-Open-Ended-clause-board
returns-in-Open-Ended-clause-board g c = after-taken g.P.Search.shown (plain_board c.args.self.now) taken.Ended (returns-in-Open-Ended-clause-answer g c)

pub returns-in-Open-Reply-clause-answer : goal.returns-in-Open-Reply-clause-answer
returns-in-Open-Reply-clause-answer g c = taken-as g.P.Search.shown (plain_board c.args.self.now) (board_verdict.Open (verdict.Reply c.in-Open-Reply.field-0-0)) (ap board_verdict.Open (sym c.in-Open-Reply.field-0-is) ∙ c.in-Open-Reply.ensures.value)

pub returns-in-Open-Reply-clause-board : goal.returns-in-Open-Reply-clause-board
returns-in-Open-Reply-clause-board g c = after-taken g.P.Search.shown (plain_board c.args.self.now) taken.Decided (returns-in-Open-Reply-clause-answer g c)

pub returns-in-Open-Aborted-clause-answer : goal.returns-in-Open-Aborted-clause-answer
returns-in-Open-Aborted-clause-answer g c = taken-as g.P.Search.shown (plain_board c.args.self.now) (board_verdict.Open (verdict.Aborted c.in-Open-Aborted.field-0-0)) (ap board_verdict.Open (sym c.in-Open-Aborted.field-0-is) ∙ c.in-Open-Aborted.ensures.value)

pub returns-in-Open-Aborted-clause-board : goal.returns-in-Open-Aborted-clause-board
returns-in-Open-Aborted-clause-board g c = after-taken g.P.Search.shown (plain_board c.args.self.now) taken.Decided (returns-in-Open-Aborted-clause-answer g c)
