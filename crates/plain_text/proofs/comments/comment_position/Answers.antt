use Rattle.std.specs.Prelude.{◌==◌}
use Rattle.std.proofs.Common.{rules, tests}
use Rattle.std.proofs.lemmas.Iterator.{YieldsList-from_slice}
use Rattle.std.proofs.lemmas.Iterator.Search.{position_from_yields_List}
use Rattle.plain_text.proofs.Positions.{position_or_length}
use Rattle.plain_text.proofs.comments.comment_position.Goals as goal

pub returns-clause-value : goal.returns-clause-value
returns-clause-value c =
    position_or_length (λ b. b == 35) c.args.line.now c.position.result c.unwrap_or.result
    (position_from_yields_List (λ b. b == 35) _ _ _ c.position.ensures.ran (YieldsList-from_slice c.args.line.now cc) (λ x b q k. search (rules, tests)))
    c.unwrap_or.ensures
