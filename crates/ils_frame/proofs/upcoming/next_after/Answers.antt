use Rattle.std.proofs.Common.{suc, ◌≡◌, ◌+◌, ◌∙◌, arith, ap, sym}
use Rattle.std.proofs.lemmas.Result.{IfOk-weaker}
use Rattle.ils_face.specs.Rules.{Rules}
use Rattle.ils_face.proofs.Setups.{SetupOf, setup_of-numbers}
use Rattle.ils_face.specs.Setups.{setup_of}
use Rattle.ils_frame.specs.NextComparison.{next_after, next_turn}
use Rattle.ils_frame.proofs.upcoming.next_after.Goals as goal

pub returns-in-First : goal.returns-in-First
returns-in-First c = λ purpose e.
    let now : Rules = c.args.rules.now in
    let same : SetupOf now (setup_of now) = setup_of-numbers now in
    let turns : c.rules.inside.budget + 1 ≡ suc (setup_of now).budget = omega (arith, same.budget, ap (λ (r : Rules). r.budget) c.rules.view_is) in
    IfOk-weaker c.next_turn.result _ _
    (λ u h. h ∙ ap (λ n. next_turn (setup_of now) c.args.moment.compared n c.args.found c.args.moment.event) turns
    ∙ sym (ap (λ a. next_after (setup_of now) c.args.moment.compared a c.args.found c.args.moment.event) c.in-First.is))
    (c.next_turn.ensures purpose e)
