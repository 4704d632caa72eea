use Rattle.std.proofs.Common.{◌≡◌, Ok, true, rules, refl, sym, ◌∙◌, arith}
use Rattle.run_cache.specs.Caches.{known_in}
use Rattle.capping.specs.Verdicts.{verdict_of}
use Rattle.predictor.specs.LookAheads.{after}
use Rattle.predictor.proofs.PresentWishes.{without_need, made_with_bound}
use Rattle.predictor.proofs.look_ahead.LookAhead.wishes_with_bound.Goals as goal

pub returns-in_default : goal.returns-in_default
returns-in_default g c = record {
  on = record { rules = refl; longer = omega arith; same = λ n low. refl };
  value =
      c.new.ensures.items
      ∙ sym (without_need (g.P.Search.shown c.args.self.now.rules) c.args.cache.now.limits (known_in c.args.cache.now) (after c.args.self.now 0) c.args.k c.args.ask.now
      (verdict_of c.args.cache.now.limits (known_in c.args.cache.now) c.args.ask.now) (λ place cutoff e. c.in_default.not-Need place cutoff (c.decide.ensures.value ∙ e)));
  further = λ none. absurd cc;
}

pub returns-clause-value : goal.returns-clause-value
returns-clause-value g c =
    let looked : c.look.result ≡ Ok true = search rules in
    c.into_wishes.ensures
    ∙ made_with_bound (g.P.Search.shown c.args.self.now.rules) c.args.cache.now.limits (known_in c.args.cache.now) (after c.args.self.now 0) c.args.k c.args.ask.now
    (verdict_of c.args.cache.now.limits (known_in c.args.cache.now) c.args.ask.now) c.in-Versus.config c.in-Versus.n c.in-Need.place c.in-Need.cutoff
    (sym c.decide.ensures.value ∙ c.in-Need.is) c.in_ok-choice.choice c.add_after.new.self c.in_ok-choice.ensures
    c.in-Versus.bound c.look.new.choice c.in-Versus.is (c.look.ensures.runs looked) c.in_ok-add_after.ensures
