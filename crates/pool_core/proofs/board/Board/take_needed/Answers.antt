use Rattle.std.proofs.Common.{Some, None, sym, ◌∙◌}
use Rattle.board_steps.specs.Boards.{plain_board}
use Rattle.board_steps.specs.declared.answers.Taken.TheVariants as taken
use Rattle.capping.specs.declared.verdicts.Verdict.TheVariants as verdict
use Rattle.pool_core.proofs.Offers.{running-open, offered-asked, offered-ahead}
use Rattle.pool_core.proofs.PresentVerdicts.{after-taken}
use Rattle.pool_core.proofs.board.Board.take_needed.Goals as goal

pub give-requires-clause-offered : goal.give-requires-clause-offered
give-requires-clause-offered g c =
    offered-asked g.P.Search.shown c.args.self.now c.in_ok-needed.needed c.args.place c.args.cutoff c.requires.stands c.in_ok-needed.ensures
    (sym c.has_ticket.ensures ∙ c.if-not-has_ticket.true)

pub give-requires-clause-running : goal.give-requires-clause-running
give-requires-clause-running g c = running-open g.P.Search.shown c.args.self.now (verdict.Need c.args.place c.args.cutoff) c.requires.stands

pub give-requires-clause-runnable : goal.give-requires-clause-runnable
give-requires-clause-runnable g c = rw c.in_ok-needed.ensures c.requires.runnable

pub returns-in-None-clause-answer : goal.returns-in-None-clause-answer
returns-in-None-clause-answer g c =
    sym (offered-ahead g.P.Search.shown c.args.self.now c.in_ok-needed.needed c.args.place c.args.cutoff None c.requires.stands c.in_ok-needed.ensures
    (sym c.has_ticket.ensures ∙ c.if-not-has_ticket.false) (sym c.in-None.is ∙ c.in_ok-free_wish.ensures.value))

pub returns-in-None-clause-board : goal.returns-in-None-clause-board
returns-in-None-clause-board g c = after-taken g.P.Search.shown (plain_board c.args.self.now) taken.Idle (returns-in-None-clause-answer g c)

pub give-requires-in-Some-clause-offered : goal.give-requires-in-Some-clause-offered
give-requires-in-Some-clause-offered g c =
    offered-ahead g.P.Search.shown c.args.self.now c.in_ok-needed.needed c.args.place c.args.cutoff (Some c.in-Some.wish) c.requires.stands c.in_ok-needed.ensures
    (sym c.has_ticket.ensures ∙ c.if-not-has_ticket.false) (sym c.in-Some.is ∙ c.in_ok-free_wish.ensures.value)

pub give-requires-in-Some-clause-running : goal.give-requires-in-Some-clause-running
give-requires-in-Some-clause-running g c = running-open g.P.Search.shown c.args.self.now (verdict.Need c.args.place c.args.cutoff) c.requires.stands
