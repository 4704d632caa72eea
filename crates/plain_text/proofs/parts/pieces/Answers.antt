use Rattle.std.proofs.Common.{Ok}
use Rattle.std.proofs.lemmas.Iterator.Splits.{YieldsList-from_str_split}
use Rattle.std.proofs.lemmas.Iterator.Consumers.{map_from_collect}
use Rattle.plain_text.proofs.parts.pieces.Goals as goal

pub returns : goal.returns
returns c = map_from_collect {E = Unit {0}} (Ok c.in_ok-found.found) c.in_ok-found.ensures.ran (YieldsList-from_str_split {s = c.split.result} c.args.separator c.args.text.now c.requires c.split.ensures.text c.split.ensures.has_more c.split.ensures.pattern)
