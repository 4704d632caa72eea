use Rattle.std.proofs.Common.{ℕ, ◌+◌, ◌∙◌, Bool, if◌then◌else◌, ap, sym, arith}
use Rattle.std.proofs.lemmas.Result.{IfOk-weaker}
use Rattle.uncapped.specs.Setup.{Setup}
use Rattle.ils_face.specs.Setups.{setup_of}
use Rattle.ils_frame.specs.declared.moment.Moment.{Moment}
use Rattle.ils_frame.specs.NextComparison.{Next, next_turn}
use Rattle.ils_frame.proofs.upcoming.next_restarted.Goals as goal

pub returns-then-restarts : goal.returns-then-restarts
returns-then-restarts c = λ purpose e.
    let setup : Setup = setup_of c.args.rules.now in
    let m : ℕ = c.args.moment.compared in
    let event : ℕ = c.args.moment.event in
    let either : Bool → Next = λ b. if b then next_turn setup m c.args.more (setup.random (event + 1)) (event + 1 + 1) else next_turn setup m c.args.more c.args.best.now (event + 1) in
    IfOk-weaker c.next_turn.result _ _
    (λ u h. h
    ∙ ap (λ (t : Moment). next_turn setup t.compared c.args.more c.in_ok-anew.anew t.event) c.after.ensures
    ∙ ap (λ θ. next_turn setup m c.args.more θ (event + 2)) c.in_ok-anew.ensures.value
    ∙ ap (λ n. next_turn setup m c.args.more (setup.random (event + 1)) n) (omega arith)
    ∙ sym (ap either (sym c.restarts.ensures ∙ c.if-restarts.true)))
    (c.next_turn.ensures purpose e)
