use Rattle.std.proofs.Common.{◌∙◌}
use Rattle.board_steps.specs.Boards.{plain_board, state_of}
use Rattle.board_steps.specs.UnwantedRuns.{NeededRun, is_unwanted_beside}
use Rattle.board_steps.proofs.KeptBoards.{step-marks}
use Rattle.pool_core.proofs.MarkedBoards.{no-end, unwanted-beside, marked-as, count-as}
use Rattle.pool_core.proofs.board.Board.mark_beside.Goals as goal

pub asked_config-config-requires : goal.asked_config-config-requires
asked_config-config-requires g c =
    let i = c.self.inside in
    let b = state_of i.problem i.search.replies i.cache i.wishes.items i.aborted i.ledger in
    no-end g.P.Search.shown c.args.self.now b i.search.rules c.args.place c.args.cutoff c.self.view_is c.self.invariant.rules_same c.requires

pub invariant_of-self : goal.invariant_of-self
invariant_of-self g c =
    let i = c.self.inside in
    let b = state_of i.problem i.search.replies i.cache i.wishes.items i.aborted i.ledger in
    let needed : NeededRun = record { cell = record { config = c.asked_config-config.result.now; place = c.args.place }; cutoff = c.args.cutoff.0 } in
    let seen = is_unwanted_beside c.as_slice-wishes.result.now needed in
    record {
      rules_same = c.self.invariant.rules_same;
      kept = c.self.invariant.kept;
      board = rw c.mark_beside.ensures.marked (step-marks g.P.Search.shown g.P.Search.plain g.S.Spawner.truth b seen c.self.invariant.board).kept;
    }

pub returns-clause-answer : goal.returns-clause-answer
returns-clause-answer g c =
    let shown = g.P.Search.shown in
    let i = c.self.inside in
    let b = state_of i.problem i.search.replies i.cache i.wishes.items i.aborted i.ledger in
    let wishes = c.as_slice-wishes.result.now in
    let config = c.asked_config-config.result.now in
    let needed : NeededRun = record { cell = record { config = config; place = c.args.place }; cutoff = c.args.cutoff.0 } in
    let seen = is_unwanted_beside wishes needed in
    let unwanted = unwanted-beside shown c.args.self.now b i.search.rules wishes config c.args.place c.args.cutoff c.self.view_is c.self.invariant.rules_same c.requires
    c.as_slice-wishes.ensures.value c.asked_config-config.ensures in
    rw (← c.self.view_is) (c.mark_beside.ensures.count ∙ count-as shown b seen unwanted)

pub returns-clause-board : goal.returns-clause-board
returns-clause-board g c =
    let shown = g.P.Search.shown in
    let i = c.self.inside in
    let b = state_of i.problem i.search.replies i.cache i.wishes.items i.aborted i.ledger in
    let wishes = c.as_slice-wishes.result.now in
    let config = c.asked_config-config.result.now in
    let needed : NeededRun = record { cell = record { config = config; place = c.args.place }; cutoff = c.args.cutoff.0 } in
    let seen = is_unwanted_beside wishes needed in
    let unwanted = unwanted-beside shown c.args.self.now b i.search.rules wishes config c.args.place c.args.cutoff c.self.view_is c.self.invariant.rules_same c.requires
    c.as_slice-wishes.ensures.value c.asked_config-config.ensures in
    rw (c.mark_beside.ensures.marked, ← c.self.view_is) ((step-marks shown g.P.Search.plain g.S.Spawner.truth b seen c.self.invariant.board).plain_is ∙ marked-as shown (plain_board b) seen unwanted)
