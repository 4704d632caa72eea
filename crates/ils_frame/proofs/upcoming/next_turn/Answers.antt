use Rattle.std.proofs.Common.{◌≡◌, ◌+◌, ◌-◌, ◌∙◌, arith, rules, ap, sym, refl}
use Rattle.std.proofs.lemmas.Result.{IfOk-weaker}
use Rattle.ils_face.specs.Rules.{Rules}
use Rattle.ils_face.specs.Setups.{setup_of}
use Rattle.ils_frame.specs.declared.purpose.After.TheVariants.{Turn}
use Rattle.ils_frame.specs.declared.upcoming.Among.TheVariants.{Compared, Spent, Over}
use Rattle.ils_frame.specs.NextComparison.{next_after}
use Rattle.ils_frame.specs.UpcomingComparison.{among_of, upcoming_seen}
use Rattle.ils_frame.proofs.UpcomingLemmas.{turn_made, over_after}
use Rattle.ils_frame.proofs.upcoming.next_turn.Goals as goal

pub returns-in-Compared : goal.returns-in-Compared
returns-in-Compared c = λ purpose e.
    turn_made c.args.rules.now c.args.moment.compared c.args.turns (c.args.turns - 1) c.args.ils c.in_ok-best.best c.in_ok-far.far c.args.moment.event c.from.result (c.args.moment.event + c.from.result) (c.rules.inside.budget - c.args.moment.compared) c.in_ok-around.around.items
    (Compared c.in-Compared.purpose c.in-Compared.first c.in-Compared.second)
    (omega (arith, c.if-turns-eq0.false)) (search rules ∙ ap (λ (r : Rules). r.strength) c.rules.view_is) refl (ap (λ (r : Rules). r.budget - c.args.moment.compared) c.rules.view_is) c.in_ok-far.ensures.value c.in_ok-around.ensures c.in_ok-best.ensures (search rules)

pub returns-in-Spent : goal.returns-in-Spent
returns-in-Spent c = λ purpose e.
    turn_made c.args.rules.now c.args.moment.compared c.args.turns (c.args.turns - 1) c.args.ils c.in_ok-best.best c.in_ok-far.far c.args.moment.event c.from.result (c.args.moment.event + c.from.result) (c.rules.inside.budget - c.args.moment.compared) c.in_ok-around.around.items
    Spent
    (omega (arith, c.if-turns-eq0.false)) (search rules ∙ ap (λ (r : Rules). r.strength) c.rules.view_is) refl (ap (λ (r : Rules). r.budget - c.args.moment.compared) c.rules.view_is) c.in_ok-far.ensures.value c.in_ok-around.ensures c.in_ok-best.ensures (search rules)

pub returns-in-Over : goal.returns-in-Over
returns-in-Over c = λ purpose e.
    let made : Over c.in-Over._after c.in-Over.found ≡ among_of (Turn (c.args.turns - 1) c.in_ok-best.best) (c.rules.inside.budget - c.args.moment.compared) c.in_ok-far.far c.in_ok-around.around.items = search rules in
    let turn = turn_made c.args.rules.now c.args.moment.compared c.args.turns (c.args.turns - 1) c.args.ils c.in_ok-best.best c.in_ok-far.far c.args.moment.event c.from.result (c.args.moment.event + c.from.result) (c.rules.inside.budget - c.args.moment.compared) c.in_ok-around.around.items
    (Over c.in-Over._after c.in-Over.found)
    (omega (arith, c.if-turns-eq0.false)) (search rules ∙ ap (λ (r : Rules). r.strength) c.rules.view_is) refl (ap (λ (r : Rules). r.budget - c.args.moment.compared) c.rules.view_is) c.in_ok-far.ensures.value c.in_ok-around.ensures c.in_ok-best.ensures made in
    IfOk-weaker c.returning.result _ _
    (λ u h. ap (upcoming_seen purpose e) h
    ∙ sym (ap (λ a. next_after (setup_of c.args.rules.now) c.args.moment.compared a c.in-Over.found (c.args.moment.event + c.from.result + 1)) (over_after _ _ _ _ _ _ made))
    ∙ turn)
    c.returning.ensures
