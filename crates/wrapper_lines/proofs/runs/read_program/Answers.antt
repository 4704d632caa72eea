use Rattle.std.proofs.Common.{[], rules, append_assoc}
use Rattle.std.proofs.lemmas.List.Elements.{filter-append}
use Rattle.std.proofs.lemmas.Grind.{flat_map-append}
use Rattle.wrapper_lines.proofs.Words.{take_more-map}
use Rattle.wrapper_lines.proofs.runs.read_program.Goals as goal

pub loop-part-preserved : goal.loop-part-preserved
loop-part-preserved c =
    rw (take_more-map (λ x. x.now) c.deref-part-items.result.now c.loop-part.part-index (record { ref_ptr = (0, 0); now = [] }) c.loop-part-test.true, flat_map-append, filter-append) (search ([], rules, append_assoc))
