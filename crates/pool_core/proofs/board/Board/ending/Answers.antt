use Rattle.pool_core.proofs.ShownEndings.{ending-aborts, ending-shows}
use Rattle.pool_core.proofs.board.Board.ending.Goals as goal

pub returns-clause-shows : goal.returns-clause-shows
returns-clause-shows g c =
    ending-shows g.P.Search.shown g.P.Search.plain g.S.Spawner.truth g.met.P.Search.follows g.met.P.Search.steady g.met.P.Search.aborts
    c.args.self.now c.present_ending.result c.present_ending.ensures c.is_board.ensures

pub returns-clause-aborts : goal.returns-clause-aborts
returns-clause-aborts g c =
    ending-aborts g.P.Search.shown g.P.Search.plain g.S.Spawner.truth c.args.self.now c.present_ending.result c.present_ending.ensures c.is_board.ensures
