use Rattle.std.proofs.Common.{◌≡◌, [], ◌∷◌, ◌++◌, sym, ap, ◌∙◌, arith}
use Rattle.run_cache.specs.Caches.{known_in}
use Rattle.capping.specs.Verdicts.{verdict_of}
use Rattle.predictor.specs.Wishes.{wishes_of}
use Rattle.predictor.proofs.PresentWishes.{with_no_room}
use Rattle.predictor.proofs.foresight.Foresight.go_on.Goals as goal

pub returns-then-k-eq0-clause-value : goal.returns-then-k-eq0-clause-value
returns-then-k-eq0-clause-value g c =
    let shown = g.P.Search.shown c.args.self.now.rules in
    let replies = c.args.self.now.replies ++ c.args.reply ∷ [] in
    let known = known_in c.args.cache.now in
    let limits = c.args.cache.now.limits in
    let none : c.args.k ≡ 0 = omega arith in
    c.new.ensures.items ∙ sym (ap (wishes_of shown limits known replies) none
    ∙ with_no_room shown limits known replies (shown replies).ask (verdict_of limits known (shown replies).ask))
