use Rattle.tuner.proofs.BoardEndings.{short_call}
use Rattle.tuner.proofs.RunEndings.{reported_no_memory}
use Rattle.tuner.proofs.finishing.report_no_memory.Goals as goal

pub returns-clause-ending : goal.returns-clause-ending
returns-clause-ending g c = λ call runs.
    short_call call c.args.task.now g.S.Spawner.truth g.P.Search.shown g.P.Search.plain c.args.board.now c.requires.board runs _ _ _
    c.is_board.ensures g.met.P.Search.follows g.met.P.Search.steady (rw (← c.requires.board.problem, c.search.ensures.replies) at c.report_short.ensures)

pub returns-clause-answer : goal.returns-clause-answer
returns-clause-answer g c = reported_no_memory _ _ _ _ c.report_short.ensures
