use Rattle.std.proofs.Common.{sym, ◌∙◌, subst}
use Rattle.board_steps.specs.Boards.{state_of}
use Rattle.board_steps.proofs.KeptBoards.{step-resume}
use Rattle.pool_core.proofs.Halts.{IsHalted, resume-halted, resume-going}
use Rattle.pool_core.proofs.board.Board.resume.Goals as goal

pub returns-then-not-is_halted-clause-board : goal.returns-then-not-is_halted-clause-board
returns-then-not-is_halted-clause-board g c = resume-going c.args.self.now (sym c.is_halted.ensures ∙ c.if-not-is_halted.true)

pub invariant_of-self-2 : goal.invariant_of-self-2
invariant_of-self-2 g c =
    let i = c.self.inside in
    let b = state_of i.problem i.search.replies i.cache i.wishes.items i.aborted i.ledger in
    let halted = subst IsHalted (sym c.self.view_is) (sym c.is_halted.ensures ∙ c.if-not-is_halted.false) in
    record {
      rules_same = c.self.invariant.rules_same;
      kept = c.self.invariant.kept;
      board = rw c.in_ok-resume.ensures.ok (step-resume g.P.Search.shown g.P.Search.plain g.S.Spawner.truth b halted c.self.invariant.board).kept;
    }

pub returns-clause-board : goal.returns-clause-board
returns-clause-board g c =
    let i = c.self.inside in
    let b = state_of i.problem i.search.replies i.cache i.wishes.items i.aborted i.ledger in
    let halted = subst IsHalted (sym c.self.view_is) (sym c.is_halted.ensures ∙ c.if-not-is_halted.false) in
    rw (c.in_ok-resume.ensures.ok, ← c.self.view_is) ((step-resume g.P.Search.shown g.P.Search.plain g.S.Spawner.truth b halted c.self.invariant.board).plain_is ∙ resume-halted b halted)
