use Rattle.std.proofs.Common.{sym, ◌∙◌}
use Rattle.run_cache.specs.Caches.{known_in}
use Rattle.capping.specs.Verdicts.{verdict_of}
use Rattle.predictor.proofs.PresentWishes.{without_need, made_in_full}
use Rattle.predictor.proofs.prediction.wishes_at_once.Goals as goal

pub returns-in_default : goal.returns-in_default
returns-in_default c = λ shown replies.
    c.new.ensures.items
    ∙ sym (without_need shown c.args.cache.now.limits (known_in c.args.cache.now) replies c.args.k c.args.ask.now
    (verdict_of c.args.cache.now.limits (known_in c.args.cache.now) c.args.ask.now) (λ place cutoff e. c.in_default.not-Need place cutoff (c.decide.ensures.value ∙ e)))

pub returns : goal.returns
returns c = λ shown replies.
    c.into_wishes.ensures
    ∙ made_in_full shown c.args.cache.now.limits (known_in c.args.cache.now) replies c.args.k c.args.ask.now
    (verdict_of c.args.cache.now.limits (known_in c.args.cache.now) c.args.ask.now) c.in-Full.config c.in-Full.n c.in-Need.place c.in-Need.cutoff
    (sym c.decide.ensures.value ∙ c.in-Need.is) c.in_ok-choice.choice c.add_after.new.self c.in_ok-choice.ensures c.in-Full.is c.in_ok-add_after.ensures
