use Rattle.std.proofs.Common.{◌∙◌, ap, sym}
use Rattle.std.proofs.lemmas.Result.{IfOk-weaker}
use Rattle.uncapped.specs.Setup.{Setup}
use Rattle.param_space.specs.Space.{defaults}
use Rattle.ils_face.specs.Rules.{Rules}
use Rattle.ils_face.proofs.Setups.{SetupOf, setup_of-numbers}
use Rattle.ils_face.specs.Setups.{setup_of}
use Rattle.ils_frame.specs.declared.purpose.Purpose.{Purpose}
use Rattle.ils_frame.specs.declared.purpose.Purpose.TheVariants.{Improving}
use Rattle.ils_frame.specs.NextComparison.{next, next_won, next_tried}
use Rattle.ils_frame.specs.UpcomingComparison.{upcoming_seen}
use Rattle.ils_frame.proofs.upcoming.next.Goals as goal

pub returns-in_ok-start-in-Opening : goal.returns-in_ok-start-in-Opening
returns-in_ok-start-in-Opening c =
    let now : Rules = c.args.rules.now in
    let setup : Setup = setup_of now in
    let same : SetupOf now setup = setup_of-numbers now in
    IfOk-weaker c.next_tried.result _ _
    (λ u h. h
    ∙ ap (λ n. next_tried setup c.args.moment.compared n c.in_ok-start-in-Opening.start c.args.moment.event) (ap (λ (r : Rules). r.initial) c.rules.view_is ∙ sym same.initial)
    ∙ ap (λ θ. next_tried setup c.args.moment.compared setup.initial θ c.args.moment.event) (c.in_ok-start-in-Opening.ensures.value ∙ ap (λ (r : Rules). defaults r.space.params) c.rules.view_is ∙ sym same.start)
    ∙ sym (ap (λ p. next setup c.args.moment.compared p c.args.won c.args.moment.event) c.in-Opening.is))
    (c.next_tried.ensures c.args.purpose.now c.args.moment.event)

pub returns-then-won : goal.returns-then-won
returns-then-won c =
    let setup : Setup = setup_of c.args.rules.now in
    let present : Purpose = Improving c.in-Improving.after c.in-Improving.left c.in-Improving.current c.in-Improving.around in
    IfOk-weaker c.next_won.result _ _
    (λ u h. h
    ∙ ap (λ θ. next_won setup c.args.moment.compared c.in-Improving.after c.in-Improving.left θ c.args.moment.event) c.tried-winner.ensures
    ∙ sym (ap (λ p. next setup c.args.moment.compared p c.args.won c.args.moment.event) c.in-Improving.is
    ∙ ap (λ b. next setup c.args.moment.compared present b c.args.moment.event) c.if-won.true))
    (c.next_won.ensures c.args.purpose.now c.args.moment.event)

pub returns-else-won : goal.returns-else-won
returns-else-won c =
    let setup : Setup = setup_of c.args.rules.now in
    let present : Purpose = Improving c.in-Improving.after c.in-Improving.left c.in-Improving.current c.in-Improving.around in
    IfOk-weaker c.next_along.result _ _
    (λ u h. ap (λ p. upcoming_seen p c.args.moment.event u) c.in-Improving.is ∙ h
    ∙ sym (ap (λ p. next setup c.args.moment.compared p c.args.won c.args.moment.event) c.in-Improving.is
    ∙ ap (λ b. next setup c.args.moment.compared present b c.args.moment.event) c.if-won.false))
    c.next_along.ensures
