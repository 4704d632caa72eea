use Rattle.tuner.proofs.BoardEndings.{faulted_call}
use Rattle.tuner.proofs.RunEndings.{reported_as}
use Rattle.tuner.proofs.finishing.report_fault.Goals as goal

pub returns-clause-ending : goal.returns-clause-ending
returns-clause-ending g c = λ call runs keeps.
    faulted_call call c.args.task.now g.S.Spawner.truth g.P.Search.shown g.P.Search.plain c.args.board.now c.requires.board runs _ _ _
    c.is_board.ensures g.met.P.Search.follows g.met.P.Search.steady c.args.ticket.now c.requires.taken c.args.seat keeps
    (rw (← c.requires.board.problem, c.search.ensures.replies) at c.report_failure.ensures)

pub returns-clause-answer : goal.returns-clause-answer
returns-clause-answer g c = reported_as _ _ _ _ _ c.report_failure.ensures
