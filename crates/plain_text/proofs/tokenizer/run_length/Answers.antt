use Rattle.std.proofs.Common.{rules, tests}
use Rattle.std.proofs.lemmas.Iterator.{YieldsList-from_slice}
use Rattle.std.proofs.lemmas.Iterator.Search.{position_from_yields_List}
use Rattle.plain_text.specs.Tokens.{parts_runs}
use Rattle.plain_text.proofs.Positions.{position_or_length}
use Rattle.plain_text.proofs.tokenizer.run_length.Goals as goal

pub returns-clause-value : goal.returns-clause-value
returns-clause-value c =
    position_or_length parts_runs c.args.text.now c.position.result c.unwrap_or.result
    (position_from_yields_List parts_runs _ _ _ c.position.ensures.ran (YieldsList-from_slice c.args.text.now cc) (λ x b q k. search (rules, tests)))
    c.unwrap_or.ensures
