use Rattle.std.proofs.Common.{ℕ, ◌≡◌, ◌+◌, ◌<◌, ◌≤◌, ◌∙◌, arith, rules, ap, sym, subst}
use Rattle.param_space.specs.Configurations.{IsConfig}
use Rattle.ils_face.specs.Rules.{Rules, AreRules}
use Rattle.ils_face.specs.Setups.{setup_of}
use Rattle.ils_frame.specs.Laws.AllowedConfigs.{random_step-allowed}
use Rattle.ils_frame.specs.NextComparison.{random_step}
use Rattle.ils_frame.specs.Laws.AllowedDraws.{draws_allowed}
use Rattle.ils_frame.proofs.PerturbationSteps.{perturbation-step, perturbation-done}
use Rattle.ils_frame.proofs.drawing.perturbed.Goals as goal

pub loop-step-preserved : goal.loop-step-preserved
loop-step-preserved c =
    let now : Rules = c.args.rules.now in
    let are : AreRules now = subst AreRules c.rules.view_is c.rules.invariant in
    let step : ℕ = c.loop-step.step in
    let event : ℕ = c.args.event in
    let inside : step < now.strength = omega (arith, ap (λ (r : Rules). r.strength) c.rules.view_is, c.loop-step-test.true) in
    let number : c.from.result ≡ step = search rules in
    let stepped_on : c.in_ok-reached.reached ≡ random_step (setup_of now) c.loop-step.reached (event + step) =
    c.in_ok-reached.ensures ∙ ap (λ k. random_step (setup_of now) c.loop-step.reached (event + k)) number in
    record {
      sound = subst (IsConfig now.space) (sym stepped_on) (random_step-allowed (IsConfig now.space) (setup_of now) (draws_allowed now are) c.loop-step.reached (event + step) c.loop-step.invariant.sound);
      same = perturbation-step (setup_of now) now.strength step c.loop-step.reached c.in_ok-reached.reached event _ inside stepped_on c.loop-step.invariant.same;
    }

pub returns-clause-value : goal.returns-clause-value
returns-clause-value c =
    let now : Rules = c.args.rules.now in
    let step : ℕ = c.loop-step.step in
    let done : now.strength ≤ step = omega (arith, ap (λ (r : Rules). r.strength) c.rules.view_is, c.loop-step-test.false) in
    perturbation-done (setup_of now) now.strength step c.loop-step.reached _ _ done c.loop-step.invariant.same
