use Rattle.std.proofs.Common.{ℕ, ◌+◌, ◌∙◌, ap}
use Rattle.std.proofs.lemmas.Result.{IfOk-weaker}
use Rattle.uncapped.specs.Setup.{Setup}
use Rattle.ils_face.specs.Setups.{setup_of}
use Rattle.ils_frame.specs.declared.moment.Moment.{Moment}
use Rattle.ils_frame.specs.NextComparison.{next_improving}
use Rattle.ils_frame.proofs.upcoming.next_won.Goals as goal

pub returns : goal.returns
returns c = λ purpose e.
    let setup : Setup = setup_of c.args.rules.now in
    let m : ℕ = c.args.moment.compared in
    let event : ℕ = c.args.moment.event + 1 in
    IfOk-weaker c.improving.result _ _
    (λ u h. h
    ∙ ap (λ (t : Moment). next_improving setup t.compared c.in_ok-after.after c.args.left c.in_ok-current.current c.in_ok-around.around.items t.event) c.after.ensures
    ∙ ap (λ a. next_improving setup m a c.args.left c.in_ok-current.current c.in_ok-around.around.items event) c.in_ok-after.ensures
    ∙ ap (λ θ. next_improving setup m c.args.after.now c.args.left θ c.in_ok-around.around.items event) c.in_ok-current.ensures
    ∙ ap (λ xs. next_improving setup m c.args.after.now c.args.left c.args.winner.now xs event) c.in_ok-around.ensures)
    (c.improving.ensures purpose e)
