use Rattle.std.proofs.Common.{ap, subst, sym, ◌∙◌}
use Rattle.pool_run.specs.declared.driving.Driven.{Driven}
use Rattle.pool_run.specs.Drives.{HasDriven, has_ended}
use Rattle.pool_run.proofs.DrivenBoards.{has-driven, same-problem, shows-at-end}
use Rattle.pool_run.proofs.driving.drive.Goals as goal

pub returns-clause-driven : goal.returns-clause-driven
returns-clause-driven g c =
    let D : Driven → Type 0 = λ d. HasDriven g.P.Search.plain g.S.Spawner.truth c.args.program.now d
    c.args.board.now c.turn_by_turn-end.new.held c.args.seat.now c.turn_by_turn-end.new.seat in
    subst D (sym c.driven_by.ensures) (has-driven g.P.Search.shown g.P.Search.plain g.S.Spawner.truth c.args.program.now _
    c.args.board.now c.turn_by_turn-end.new.held c.args.seat.now c.turn_by_turn-end.new.seat c.turn_by_turn-end.ensures.board c.is_board.ensures)

pub returns-clause-problem : goal.returns-clause-problem
returns-clause-problem g c =
    same-problem g.P.Search.shown g.P.Search.plain g.S.Spawner.truth c.args.program.now _
    c.args.board.now c.turn_by_turn-end.new.held c.args.seat.now c.turn_by_turn-end.new.seat c.turn_by_turn-end.ensures.board

pub returns-clause-shows : goal.returns-clause-shows
returns-clause-shows g c =
    shows-at-end g.P.Search.shown g.P.Search.plain g.S.Spawner.truth g.met.P.Search.follows g.met.P.Search.steady g.met.P.Search.aborts
    c.turn_by_turn-end.new.held _ (ap has_ended c.driven_by.ensures ∙ c.turn_by_turn-end.ensures.board.over) c.is_board.ensures
