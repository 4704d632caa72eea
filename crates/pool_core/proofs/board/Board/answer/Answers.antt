use Rattle.std.proofs.Common.{[], ◌∷◌, ◌++◌, ap, sym, ◌∙◌}
use Rattle.board_steps.specs.Boards.{plain_board, state_of}
use Rattle.board_steps.specs.BoardVerdicts.{board_verdict_of}
use Rattle.board_steps.proofs.KeptBoards.{step-reply}
use Rattle.pool_core.proofs.DecidedAsks.{verdict-made, wished-after}
use Rattle.pool_core.proofs.PresentVerdicts.{fits-now, wished-now, wishes-runnable}
use Rattle.pool_core.proofs.board.Board.answer.Goals as goal

pub answer_search-requires-clause-fits : goal.answer_search-requires-clause-fits
answer_search-requires-clause-fits g c =
    let i = c.self.inside in
    let b = state_of i.problem i.search.replies i.cache i.wishes.items i.aborted i.ledger in
    fits-now g.P.Search.shown c.args.self.now b i.search.rules c.args.reply c.self.view_is c.self.invariant.rules_same c.requires.fits

pub verdict_by-requires : goal.verdict_by-requires
verdict_by-requires g c = c.self.invariant.board.limits ∙ ap (λ r. r.limits) (sym (c.in_ok-wishes.ensures.rules ∙ c.self.invariant.rules_same))

pub invariant_of-self-2 : goal.invariant_of-self-2
invariant_of-self-2 g c =
    let i = c.self.inside in
    let b = state_of i.problem i.search.replies i.cache i.wishes.items i.aborted i.ledger in
    let rules = i.search.rules in
    let r = c.args.reply in
    let after = i.search.replies ++ r ∷ [] in
    let items = c.in_ok-wishes.wishes.items in
    let stands = ap (λ x. board_verdict_of g.P.Search.shown (plain_board x)) c.self.view_is ∙ c.requires.stands in
    let wished = wished-now g.P.Search.shown b rules after items c.others-others.result c.self.invariant.rules_same c.self.invariant.board.limits c.others-others.ensures c.in_ok-wishes.ensures.value in
    let runnable = wishes-runnable rules i.problem.rules items c.self.invariant.rules_same c.in_ok-wishes.ensures.runnable in
    let step = step-reply g.P.Search.shown g.P.Search.plain g.S.Spawner.truth g.met.P.Search.follows b r items stands wished runnable c.self.invariant.board in
    let searched = c.answer_search.new.search in
    let same = c.in_ok-wishes.ensures.rules ∙ c.self.invariant.rules_same in
    let e = c.verdict_by.ensures in
    record {
      rules_same = same;
      kept = record {
        verdict = verdict-made g.P.Search.shown b searched.rules searched.replies c.verdict_by.result same c.self.invariant.board.limits e.value e.fits e.runnable;
        wished = rw c.in_ok-wishes.ensures.taken (wished-after g.P.Search.shown b after items wished);
      };
      board = rw (c.advance.ensures, c.make_room.ensures.same, c.in_ok-wishes.ensures.taken) step.kept;
    }

pub returns-clause-board : goal.returns-clause-board
returns-clause-board g c =
    let i = c.self.inside in
    let b = state_of i.problem i.search.replies i.cache i.wishes.items i.aborted i.ledger in
    let rules = i.search.rules in
    let r = c.args.reply in
    let after = i.search.replies ++ r ∷ [] in
    let items = c.in_ok-wishes.wishes.items in
    let stands = ap (λ x. board_verdict_of g.P.Search.shown (plain_board x)) c.self.view_is ∙ c.requires.stands in
    let wished = wished-now g.P.Search.shown b rules after items c.others-others.result c.self.invariant.rules_same c.self.invariant.board.limits c.others-others.ensures c.in_ok-wishes.ensures.value in
    let runnable = wishes-runnable rules i.problem.rules items c.self.invariant.rules_same c.in_ok-wishes.ensures.runnable in
    let step = step-reply g.P.Search.shown g.P.Search.plain g.S.Spawner.truth g.met.P.Search.follows b r items stands wished runnable c.self.invariant.board in
    rw (c.advance.ensures, c.make_room.ensures.same, c.in_ok-wishes.ensures.taken, ← c.self.view_is) step.plain_is
