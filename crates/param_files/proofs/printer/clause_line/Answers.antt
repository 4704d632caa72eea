use Rattle.std.proofs.Common.{◌∙◌, ap, map}
use Rattle.std.specs.Prelude.{string_bytes}
use Rattle.param_files.specs.PrintedLines.{with_commas, pick_text}
use Rattle.param_files.proofs.LineFormats.{clause_text}
use Rattle.param_files.proofs.printer.clause_line.Goals as goal

pub returns : goal.returns
returns c =
    c.in_ok-format.ensures.ok
    ∙ clause_text c.args.params.now c.args.clause.now (string_bytes c.in_ok-picks.picks)
    (c.in_ok-picks.ensures ∙ ap (λ ks. with_commas (map (pick_text c.args.params.now) ks)) c.as_slice.ensures)
