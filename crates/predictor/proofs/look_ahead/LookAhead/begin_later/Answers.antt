use Rattle.std.proofs.Common.{rules}
use Rattle.predictor.proofs.KeptSteps.{begins-later}
use Rattle.predictor.proofs.look_ahead.LookAhead.begin_later.Goals as goal

pub invariant_of-self : goal.invariant_of-self
invariant_of-self g c =
    let i = c.self.inside in
    rw c.remove.ensures.items (begins-later g.P.Search.shown (g.P.Search.rules_of i.ahead) (g.P.Search.replies_of i.ahead) i.steps.items (search rules) c.self.invariant)
