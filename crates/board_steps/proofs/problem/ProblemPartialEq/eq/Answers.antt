use Rattle.board_steps.specs.Problem.{Problem}
use Rattle.board_steps.proofs.SameProblems.{by_pairs, by_rules}
use Rattle.board_steps.proofs.problem.ProblemPartialEq.eq.Goals as goal

pub returns-then-eq-clause-same : goal.returns-then-eq-clause-same
returns-then-eq-clause-same c =
    let a : Problem = record { rules = c.self.inside.rules; pairs = c.self.inside.pairs } in
    let b : Problem = record { rules = c.other.inside.rules; pairs = c.other.inside.pairs } in
    rw (← c.self.view_is, ← c.other.view_is) (by_pairs a b c.eq.result c.eq-then-eq.result c.eq.ensures c.if-eq.true c.eq-then-eq.ensures)

pub returns-else-eq-clause-same : goal.returns-else-eq-clause-same
returns-else-eq-clause-same c =
    let a : Problem = record { rules = c.self.inside.rules; pairs = c.self.inside.pairs } in
    let b : Problem = record { rules = c.other.inside.rules; pairs = c.other.inside.pairs } in
    rw (← c.self.view_is, ← c.other.view_is) (by_rules a b c.eq.result c.eq.ensures c.if-eq.false)
