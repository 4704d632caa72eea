use Rattle.std.proofs.Common.{rules}
use Rattle.predictor.specs.LookAheads.{LookAheadState}
use Rattle.predictor.proofs.KeptSteps.{with-step}
use Rattle.predictor.proofs.look_ahead.LookAhead.go_on.Goals as goal

pub invariant_of-self-2 : goal.invariant_of-self-2
invariant_of-self-2 g c =
    let i = c.self.inside in
    let l : LookAheadState = record { rules = g.P.Search.rules_of i.ahead; replies = g.P.Search.replies_of i.ahead; steps = i.steps.items } in
    rw (c.push_reserved.ensures.items, c.in_ok-reserve.ensures.items, c.in_ok-answer.ensures.taken, c.answer.ensures.rules, c.in_ok-ask.ensures, c.ask.ensures.value)
    (with-step g.P.Search.shown l c.self.invariant c.args.reply (search rules))
