use Rattle.std.proofs.Common.{ℕ, suc, ◌≡◌, ◌+◌, ◌-◌, ◌∙◌, arith, ap, sym}
use Rattle.std.proofs.lemmas.Result.{IfOk-weaker}
use Rattle.uncapped.specs.Procedure.{Settings}
use Rattle.ils_face.specs.Rules.{Rules}
use Rattle.ils_face.proofs.Setups.{SetupOf, setup_of-numbers}
use Rattle.ils_face.specs.Setups.{setup_of}
use Rattle.ils_frame.specs.declared.moment.Moment.{Moment}
use Rattle.ils_frame.specs.declared.purpose.After.TheVariants.{First}
use Rattle.ils_frame.specs.declared.purpose.Purpose.TheVariants.{Trying}
use Rattle.ils_frame.specs.NextComparison.{Compare, next_improving, next_tried}
use Rattle.ils_frame.proofs.upcoming.next_tried.Goals as goal

pub returns-then-more-eq0 : goal.returns-then-more-eq0
returns-then-more-eq0 c = λ purpose e.
    let now : Rules = c.args.rules.now in
    let same : SetupOf now (setup_of now) = setup_of-numbers now in
    let left : c.rules.inside.budget - c.args.moment.compared ≡ (setup_of now).budget - c.args.moment.compared = omega (arith, same.budget, ap (λ (r : Rules). r.budget) c.rules.view_is) in
    IfOk-weaker c.improving.result _ _
    (λ u h. h
    ∙ ap (λ (t : Moment). next_improving (setup_of now) t.compared First (c.rules.inside.budget - c.args.moment.compared) c.args.current c.in_ok-around.around.items t.event) c.after.ensures
    ∙ ap (λ n. next_improving (setup_of now) c.args.moment.compared First n c.args.current c.in_ok-around.around.items (c.args.moment.event + 1)) left
    ∙ ap (λ a. next_improving (setup_of now) c.args.moment.compared First ((setup_of now).budget - c.args.moment.compared) c.args.current a (c.args.moment.event + 1)) c.in_ok-around.ensures
    ∙ sym (ap (λ n. next_tried (setup_of now) c.args.moment.compared n c.args.current c.args.moment.event) c.if-more-eq0.true))
    (c.improving.ensures purpose e)

-- the next random configuration
drawn : (rules : Rules) (m more : ℕ) (current challenger first second : Settings) (e : ℕ) → challenger ≡ (setup_of rules).random e → first ≡ challenger → second ≡ current
    → Compare (Trying more challenger current) first second (e + 1) ≡ next_tried (setup_of rules) m (suc more) current e
drawn rules m more current challenger first second e d f s =
    ap (λ θ. Compare (Trying more challenger current) θ second (e + 1)) f
    ∙ ap (λ θ. Compare (Trying more challenger current) challenger θ (e + 1)) s
    ∙ ap (λ θ. Compare (Trying more θ current) θ current (e + 1)) d

pub returns : goal.returns
returns c = λ purpose e.
    let now : Rules = c.args.rules.now in
    let more : c.args.more ≡ suc (c.args.more - 1) = omega (arith, c.if-more-eq0.false) in
    drawn now c.args.moment.compared (c.args.more - 1) c.args.current c.in_ok-challenger.challenger c.in_ok-first.first c.in_ok-second.second c.args.moment.event c.in_ok-challenger.ensures.value c.in_ok-first.ensures c.in_ok-second.ensures
    ∙ sym (ap (λ n. next_tried (setup_of now) c.args.moment.compared n c.args.current c.args.moment.event) more)
