use Rattle.std.proofs.Common.{[], ◌∷◌, ◌++◌, refl, ap, ◌∙◌, subst}
use Rattle.std.proofs.lemmas.Result.{IfOk-weaker}
use Rattle.objective.specs.Bounds.{AreInRange}
use Rattle.run_cache.specs.Caches.{known_in}
use Rattle.ils_face.specs.Rules.{AreRules}
use Rattle.ils_face.specs.Views.{AreFitting}
use Rattle.ils_face.proofs.FittingReplies.{fitting-more}
use Rattle.predictor.specs.Foresights.{SearchState}
use Rattle.predictor.proofs.WishFacts.{wishes-are}
use Rattle.predictor.proofs.foresight.Foresight.answer.Goals as goal

pub returns-clause-each : goal.returns-clause-each
returns-clause-each g c =
    let s = c.args.self.now in
    let replies = s.replies ++ c.args.reply ∷ [] in
    let ruled : AreRules s.rules = subst (λ (x : SearchState). AreRules x.rules) c.self.view_is c.ask.ensures.ruled in
    let fitting : AreFitting (g.P.Search.shown s.rules) s.replies =
    subst (λ (x : SearchState). AreFitting (g.P.Search.shown x.rules) x.replies) c.self.view_is c.ask.ensures.fitting in
    let ranged = subst (λ b. AreInRange b.cutoff b.floor) (c.behind-cache.view_is ∙ c.limits.ensures) c.behind-cache.invariant in
    let more = fitting-more (g.P.Search.shown s.rules) s.replies c.args.reply fitting c.requires in
    IfOk-weaker c.go_on.result _ _ (λ w made. (wishes-are s.rules g.P.Search.shown c.args.cache.now.limits (known_in c.args.cache.now) replies
    (g.P.Search.shown s.rules replies).ask c.args.k w.items g.met.P.Search.steady ranged ruled more refl made).each) c.go_on.ensures.value
