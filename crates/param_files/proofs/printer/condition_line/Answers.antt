use Rattle.std.proofs.Common.{◌∙◌, ap, map}
use Rattle.std.specs.Prelude.{string_bytes}
use Rattle.param_files.specs.PrintedLines.{with_commas, value_of}
use Rattle.param_files.proofs.LineFormats.{condition_text}
use Rattle.param_files.proofs.printer.condition_line.Goals as goal

pub returns : goal.returns
returns c =
    let params = c.args.params.now in
    let k = c.args.condition.now in
    c.in_ok-format.ensures.ok
    ∙ condition_text params k c.name_at-child.result.now c.name_at-parent.result.now (string_bytes c.in_ok-values.values) c.name_at-child.ensures c.name_at-parent.ensures
    (c.in_ok-values.ensures ∙ ap (λ vs. with_commas (map (value_of params k.parent) vs)) c.as_slice.ensures)
