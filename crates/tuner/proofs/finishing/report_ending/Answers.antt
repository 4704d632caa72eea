use Rattle.std.proofs.Common.{◌≡◌, ◌∙◌, List, Some, IsSome, ap, sym, subst}
use Rattle.ils_face.specs.declared.asks.Ask.TheVariants.{End}
use Rattle.ils_face.specs.declared.asks.Reply.{Reply}
use Rattle.ils_face.specs.Rules.{Rules}
use Rattle.ils_face.specs.Steady.{IsAsk}
use Rattle.run_cache.specs.declared.cell.Cell.{Cell}
use Rattle.board_steps.specs.ProblemRuns.{table_of}
use Rattle.pool_core.specs.Endings.{AbortsFirst}
use Rattle.tuner.specs.SearchEnds.{IsSearched}
use Rattle.tuner.proofs.BoardEndings.{by_board, sound_abort, finished_call, aborted_call, short_call}
use Rattle.tuner.proofs.finishing.report_ending.Goals as goal

pub report_abort-requires-clause-sound : goal.report_abort-requires-clause-sound
report_abort-requires-clause-sound g c =
    let shown = g.P.Search.shown in
    let A : Rules → List Reply → Type 0 = λ rules replies. IsAsk rules (shown rules replies).ask in
    let asked = by_board A _ _ _ _ c.search-search.ensures.rules c.search-search.ensures.replies c.keeps_laws.ensures.ask in
    rw (← c.requires.board.problem, c.in-Ok.ensures)
    (sound_abort g.S.Spawner.truth shown g.P.Search.plain c.args.board.now c.is_board.ensures c.in-Aborted.cell.now c.in-Aborted.ensures.ending asked).sound.belongs

pub returns-in-Finished : goal.returns-in-Finished
returns-in-Finished g c = λ call runs starts.
    let shown = g.P.Search.shown in
    let E : Rules → List Reply → Type 0 = λ rules replies.
    (shown rules replies).ask ≡ End → IsSearched rules (shown rules replies).entries (shown rules replies).last in
    let searched = by_board E _ _ _ _ c.search-search.ensures.rules c.search-search.ensures.replies c.keeps_laws.ensures.end in
    finished_call call c.args.task.now g.S.Spawner.truth shown g.P.Search.plain c.args.board.now c.requires.board runs _ _ _ starts
    (searched c.in-Finished.ensures.ending.1) c.in-Finished.ensures.shows
    (rw (← c.requires.board.problem, c.search-search.ensures.replies) at c.report_end.ensures)

pub returns-in-Ok : goal.returns-in-Ok
returns-in-Ok g c = λ call runs starts.
    let shown = g.P.Search.shown in
    let A : Rules → List Reply → Type 0 = λ rules replies. IsAsk rules (shown rules replies).ask in
    let asked = by_board A _ _ _ _ c.search-search.ensures.rules c.search-search.ensures.replies c.keeps_laws.ensures.ask in
    let F : Cell → Type 0 = λ cell. IsSome g.S.Spawner.truth → AbortsFirst shown (table_of g.S.Spawner.truth c.args.board.now.problem) c.args.board.now cell in
    let first = subst F (sym c.in-Ok.ensures) c.in-Aborted.ensures.aborts in
    aborted_call call c.args.task.now g.S.Spawner.truth shown g.P.Search.plain c.args.board.now c.requires.board runs _ _ _
    c.is_board.ensures g.met.P.Search.follows c.in-Ok.cell (c.in-Aborted.ensures.ending ∙ ap Some (sym c.in-Ok.ensures)) asked first c.in-Aborted.ensures.shows
    (rw (← c.requires.board.problem, c.search-search.ensures.replies) at c.report_abort.ensures)

pub returns-in-Err : goal.returns-in-Err
returns-in-Err g c = λ call runs starts.
    short_call call c.args.task.now g.S.Spawner.truth g.P.Search.shown g.P.Search.plain c.args.board.now c.requires.board runs _ _ _
    c.is_board.ensures g.met.P.Search.follows g.met.P.Search.steady (rw (← c.requires.board.problem, c.search-search.ensures.replies) at c.report_short.ensures)
