use Rattle.std.proofs.Common.{arith, ◌≡◌, ◌∙◌, sym, ◌==◌, true, false}
use Rattle.std.proofs.lemmas.Grind.{common_steps}
use Rattle.std.specs.List.{list_any}
use Rattle.param_space.proofs.NameTests.{list_any-map}
use Rattle.param_space.proofs.relations.has_param.Goals as goal

pub returns-then-param-pick : goal.returns-then-param-pick
returns-then-param-pick c =
    let found : list_any (λ k. c.args.param == k.param) c.args.picks.now ≡ true = grind (arith, common_steps) in
    sym (list_any-map (λ p. c.args.param == p) (λ k. k.param) c.args.picks.now ∙ found)

pub returns : goal.returns
returns c =
    let missed : list_any (λ k. c.args.param == k.param) c.args.picks.now ≡ false = grind (arith, common_steps) in
    sym (list_any-map (λ p. c.args.param == p) (λ k. k.param) c.args.picks.now ∙ missed)
