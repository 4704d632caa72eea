use Rattle.std.proofs.Common.{rules, tests}
use Rattle.std.proofs.lemmas.Iterator.{YieldsList-from_slice}
use Rattle.std.proofs.lemmas.Iterator.Search.{position_from_yields_List}
use Rattle.plain_text.specs.Times.{is_point}
use Rattle.plain_text.proofs.Positions.{position_or_length}
use Rattle.plain_text.proofs.times.point_position.Goals as goal

pub returns : goal.returns
returns c =
    position_or_length is_point c.args.text.now c.position.result c.unwrap_or.result
    (position_from_yields_List is_point _ _ _ c.position.ensures.ran (YieldsList-from_slice c.args.text.now cc) (λ x b q k. search (rules, tests)))
    c.unwrap_or.ensures
