use Rattle.std.proofs.Common.{arith, ◌≡◌, ◌∙◌, sym, bytes_eq, true, false}
use Rattle.std.proofs.lemmas.Grind.{common_steps}
use Rattle.std.specs.List.{list_any}
use Rattle.param_space.proofs.NameTests.{list_any-map}
use Rattle.param_space.proofs.rules.has_name.Goals as goal

pub returns-then-eq : goal.returns-then-eq
returns-then-eq c =
    let found : list_any (λ p. bytes_eq c.args.name.now p.name) c.args.params.now ≡ true = grind (arith, common_steps) in
    sym (list_any-map (bytes_eq c.args.name.now) (λ p. p.name) c.args.params.now ∙ found)

pub returns : goal.returns
returns c =
    let missed : list_any (λ p. bytes_eq c.args.name.now p.name) c.args.params.now ≡ false = grind (arith, common_steps) in
    sym (list_any-map (bytes_eq c.args.name.now) (λ p. p.name) c.args.params.now ∙ missed)
