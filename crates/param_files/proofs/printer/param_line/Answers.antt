use Rattle.std.proofs.Common.{◌∙◌, ap}
use Rattle.std.specs.Prelude.{string_bytes, [], slice_index_or}
use Rattle.param_files.specs.PrintedLines.{with_commas}
use Rattle.param_files.proofs.LineFormats.{param_text}
use Rattle.param_files.proofs.printer.param_line.Goals as goal

pub returns : goal.returns
returns c =
    let p = c.args.param.now in
    c.in_ok-format.ensures.ok
    ∙ param_text p c.as_str-name.result.now (string_bytes c.in_ok-values.values) c.text_at-default.result.now c.as_str-name.ensures
    (c.in_ok-values.ensures ∙ ap with_commas c.as_slice.ensures)
    (c.text_at-default.ensures ∙ ap (λ ts. slice_index_or ts p.default []) c.as_slice-2.ensures)
