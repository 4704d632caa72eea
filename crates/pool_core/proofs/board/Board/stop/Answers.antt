use Rattle.std.proofs.Common.{◌≡◌, false, sym, ◌∙◌}
use Rattle.board_steps.specs.Boards.{state_of}
use Rattle.board_steps.proofs.KeptBoards.{step-stop}
use Rattle.pool_core.proofs.Halts.{stop-running, stop-stopped}
use Rattle.pool_core.proofs.board.Board.stop.Goals as goal

pub invariant_of-self : goal.invariant_of-self
invariant_of-self g c =
    let i = c.self.inside in
    let b = state_of i.problem i.search.replies i.cache i.wishes.items i.aborted i.ledger in
    let running : i.ledger.stopped ≡ false = sym c.stopped.ensures ∙ c.if-not-stopped.true in
    record {
      rules_same = c.self.invariant.rules_same;
      kept = c.self.invariant.kept;
      board = rw c.stop.ensures (step-stop g.P.Search.shown g.P.Search.plain g.S.Spawner.truth b running c.self.invariant.board).kept;
    }

pub returns-then-not-stopped : goal.returns-then-not-stopped
returns-then-not-stopped g c =
    let i = c.self.inside in
    let b = state_of i.problem i.search.replies i.cache i.wishes.items i.aborted i.ledger in
    let running : i.ledger.stopped ≡ false = sym c.stopped.ensures ∙ c.if-not-stopped.true in
    rw (c.stop.ensures, ← c.self.view_is) ((step-stop g.P.Search.shown g.P.Search.plain g.S.Spawner.truth b running c.self.invariant.board).plain_is ∙ stop-running b running)

pub returns-else-not-stopped : goal.returns-else-not-stopped
returns-else-not-stopped g c =
    let i = c.self.inside in
    let b = state_of i.problem i.search.replies i.cache i.wishes.items i.aborted i.ledger in
    rw (← c.self.view_is) (stop-stopped b (sym c.stopped.ensures ∙ c.if-not-stopped.false))
