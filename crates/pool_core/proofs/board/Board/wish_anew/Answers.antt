use Rattle.std.proofs.Common.{ap, sym, ◌∙◌}
use Rattle.std.specs.Cmp.Lexicographic.{pointwise}
use Rattle.board_steps.specs.Boards.{plain_board, state_of}
use Rattle.board_steps.specs.BoardVerdicts.{board_verdict_of}
use Rattle.board_steps.specs.Steps.{same_wish}
use Rattle.board_steps.proofs.KeptBoards.{step-wishes}
use Rattle.board_steps.proofs.SameItself.{same_wishes-itself}
use Rattle.pool_core.proofs.DecidedAsks.{decided-need}
use Rattle.pool_core.proofs.PresentVerdicts.{wished-same, wishes-runnable, wishes-stay}
use Rattle.pool_core.proofs.board.Board.wish_anew.Goals as goal

pub returns-then-same_wishes-clause-board : goal.returns-then-same_wishes-clause-board
returns-then-same_wishes-clause-board g c =
    let i = c.self.inside in
    let b = state_of i.problem i.search.replies i.cache i.wishes.items i.aborted i.ledger in
    let rules = i.search.rules in
    let items = c.in_ok-wishes.wishes.items in
    let wished = wished-same g.P.Search.shown b rules items c.others-others.result c.self.invariant.rules_same c.self.invariant.board.limits c.others-others.ensures c.in_ok-wishes.ensures.value in
    let compared = c.same_wishes.ensures ∙ (λ j. pointwise same_wish (c.deref.ensures.value j) (c.deref-2.ensures.value j)) in
    rw (c.in_ok-wishes.ensures.same, ← c.self.view_is) (wishes-stay g.P.Search.shown b items wished (sym compared ∙ c.if-same_wishes.true))

pub invariant_of-self-then-same_wishes : goal.invariant_of-self-then-same_wishes
invariant_of-self-then-same_wishes g c =
    let i = c.self.inside in
    let b = state_of i.problem i.search.replies i.cache i.wishes.items i.aborted i.ledger in
    let rules = i.search.rules in
    let items = c.in_ok-wishes.wishes.items in
    let wished = wished-same g.P.Search.shown b rules items c.others-others.result c.self.invariant.rules_same c.self.invariant.board.limits c.others-others.ensures c.in_ok-wishes.ensures.value in
    let compared = c.same_wishes.ensures ∙ (λ j. pointwise same_wish (c.deref.ensures.value j) (c.deref-2.ensures.value j)) in
    rw c.in_ok-wishes.ensures.same (record {
      rules_same = c.self.invariant.rules_same;
      board = c.self.invariant.board;
      kept = decided-need g.P.Search.shown c.args.self.now b items b.wishes c.args.place c.args.cutoff c.self.view_is c.requires.stands c.requires.runnable wished (sym compared ∙ c.if-same_wishes.true);
    })

pub invariant_of-self-2 : goal.invariant_of-self-2
invariant_of-self-2 g c =
    let i = c.self.inside in
    let b = state_of i.problem i.search.replies i.cache i.wishes.items i.aborted i.ledger in
    let rules = i.search.rules in
    let items = c.in_ok-wishes.wishes.items in
    let wished = wished-same g.P.Search.shown b rules items c.others-others.result c.self.invariant.rules_same c.self.invariant.board.limits c.others-others.ensures c.in_ok-wishes.ensures.value in
    let compared = c.same_wishes.ensures ∙ (λ j. pointwise same_wish (c.deref.ensures.value j) (c.deref-2.ensures.value j)) in
    let stands = ap (λ x. board_verdict_of g.P.Search.shown (plain_board x)) c.self.view_is ∙ c.requires.stands in
    let runnable = wishes-runnable rules i.problem.rules items c.self.invariant.rules_same c.in_ok-wishes.ensures.runnable in
    let step = step-wishes g.P.Search.shown g.P.Search.plain g.S.Spawner.truth b c.args.place c.args.cutoff items stands wished (sym compared ∙ c.if-same_wishes.false) runnable c.self.invariant.board in
    rw c.in_ok-wishes.ensures.same (record {
      rules_same = c.self.invariant.rules_same;
      kept = decided-need g.P.Search.shown c.args.self.now b items items c.args.place c.args.cutoff c.self.view_is c.requires.stands c.requires.runnable wished (same_wishes-itself items);
      board = rw (c.advance.ensures, c.make_room.ensures.same) step.kept;
    })

pub returns-clause-board : goal.returns-clause-board
returns-clause-board g c =
    let i = c.self.inside in
    let b = state_of i.problem i.search.replies i.cache i.wishes.items i.aborted i.ledger in
    let rules = i.search.rules in
    let items = c.in_ok-wishes.wishes.items in
    let wished = wished-same g.P.Search.shown b rules items c.others-others.result c.self.invariant.rules_same c.self.invariant.board.limits c.others-others.ensures c.in_ok-wishes.ensures.value in
    let compared = c.same_wishes.ensures ∙ (λ j. pointwise same_wish (c.deref.ensures.value j) (c.deref-2.ensures.value j)) in
    let stands = ap (λ x. board_verdict_of g.P.Search.shown (plain_board x)) c.self.view_is ∙ c.requires.stands in
    let runnable = wishes-runnable rules i.problem.rules items c.self.invariant.rules_same c.in_ok-wishes.ensures.runnable in
    let step = step-wishes g.P.Search.shown g.P.Search.plain g.S.Spawner.truth b c.args.place c.args.cutoff items stands wished (sym compared ∙ c.if-same_wishes.false) runnable c.self.invariant.board in
    rw (c.advance.ensures, c.make_room.ensures.same, c.in_ok-wishes.ensures.same, ← c.self.view_is) step.plain_is
