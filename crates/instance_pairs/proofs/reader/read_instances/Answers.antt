use Rattle.std.proofs.Common.{◌<◌, [], length, sym, ◌∙◌, arith}
use Rattle.std.proofs.lemmas.Bool.{eqb-false}
use Rattle.plain_text.specs.Lines.{numbered_lines}
use Rattle.instance_pairs.proofs.InstanceCounts.{few_lines}
use Rattle.instance_pairs.proofs.reader.read_instances.Goals as goal

pub returns-clause-count : goal.returns-clause-count
returns-clause-count c =
    let items = c.in_ok-instances.instances.items in
    let some = eqb-false _ 0 (sym c.is_empty.ensures ∙ c.if-is_empty.false) in
    let more : 0 < length items = omega (arith, some, c.in_ok-instances.instances.ok.0) in
    (omega (arith, more), few_lines [] (numbered_lines c.args.text.now) items (omega arith) c.in_ok-instances.ensures.value)
