use Rattle.std.proofs.Common.{◌≡◌, List, sym, ap, subst, ◌∙◌, arith}
use Rattle.std.proofs.lemmas.Result.{IfOk-weaker}
use Rattle.objective.specs.Bounds.{AreInRange}
use Rattle.run_cache.specs.Caches.{known_in}
use Rattle.capping.specs.Verdicts.{verdict_of}
use Rattle.predictor.specs.Wishes.{wishes_at}
use Rattle.predictor.specs.declared.wish.Wish.{Wish}
use Rattle.predictor.specs.Promises.{needed_after}
use Rattle.predictor.proofs.PresentWishes.{with_no_room}
use Rattle.predictor.proofs.WishFacts.{AreWishes, wishes-are}
use Rattle.predictor.proofs.prediction.wishes.Given.{Over}
use Rattle.predictor.proofs.prediction.wishes.Goals as goal

pub returns-then-k-eq0-clause-value : goal.returns-then-k-eq0-clause-value
returns-then-k-eq0-clause-value g c =
    let shown = g.P.Search.shown (g.P.Search.rules_of c.args.search.now) in
    let replies = g.P.Search.replies_of c.args.search.now in
    let known = known_in c.args.cache.now in
    let limits = c.args.cache.now.limits in
    let none : c.args.k ≡ 0 = omega arith in
    c.new.ensures.items ∙ sym (ap (wishes_at shown limits known replies (shown replies).ask (verdict_of limits known (shown replies).ask)) none
    ∙ with_no_room shown limits known replies (shown replies).ask (verdict_of limits known (shown replies).ask))

-- what is promised of the wishes that are made
are_wishes : (g : Over) (c : goal.After-wishes_for g) (wishes : List Wish)
    → wishes ≡ wishes_at (g.P.Search.shown (g.P.Search.rules_of c.args.search.now)) c.args.cache.now.limits (known_in c.args.cache.now) (g.P.Search.replies_of c.args.search.now)
    c.ask.result.now (verdict_of c.args.cache.now.limits (known_in c.args.cache.now) c.ask.result.now) c.args.k
    → AreWishes (g.P.Search.rules_of c.args.search.now) c.args.cache.now.limits (known_in c.args.cache.now)
    (needed_after (g.P.Search.shown (g.P.Search.rules_of c.args.search.now)) c.args.cache.now.limits (known_in c.args.cache.now) (g.P.Search.replies_of c.args.search.now)) c.args.k wishes
are_wishes g c wishes made =
    wishes-are (g.P.Search.rules_of c.args.search.now) g.P.Search.shown c.args.cache.now.limits (known_in c.args.cache.now) (g.P.Search.replies_of c.args.search.now) c.ask.result.now c.args.k wishes
    g.met.P.Search.steady (subst (λ b. AreInRange b.cutoff b.floor) (c.behind-cache.view_is ∙ c.limits.ensures) c.behind-cache.invariant)
    c.ask.ensures.ruled c.ask.ensures.fitting c.ask.ensures.value made

pub returns-clause-each : goal.returns-clause-each
returns-clause-each g c = IfOk-weaker c.wishes_for.result _ _ (λ w e. (are_wishes g c w.items e).each) c.wishes_for.ensures

pub returns-clause-more : goal.returns-clause-more
returns-clause-more g c = IfOk-weaker c.wishes_for.result _ _ (λ w e. (are_wishes g c w.items e).more) c.wishes_for.ensures

pub returns-clause-apart : goal.returns-clause-apart
returns-clause-apart g c = IfOk-weaker c.wishes_for.result _ _ (λ w e. (are_wishes g c w.items e).apart) c.wishes_for.ensures

pub returns-clause-few : goal.returns-clause-few
returns-clause-few g c = IfOk-weaker c.wishes_for.result _ _ (λ w e. (are_wishes g c w.items e).few) c.wishes_for.ensures
