use Rattle.std.proofs.Common.{◌≡◌, Ok}
use Rattle.std.proofs.lemmas.Result.{IfOk-weaker}
use Rattle.plain_text.specs.Lines.{numbered_lines}
use Rattle.scenario_files.specs.Files.{lines_read}
use Rattle.scenario_files.specs.Ranges.{AreWithin}
use Rattle.scenario_files.proofs.FileRanges.{lines_read_within}
use Rattle.scenario_files.proofs.reader.read_scenario.Goals as goal

pub returns-clause-limits : goal.returns-clause-limits
returns-clause-limits c =
    let lines = numbered_lines c.args.text.now in
    IfOk-weaker c.read_lines.result (λ d. lines_read lines ≡ Ok d) AreWithin (λ d h. lines_read_within d lines h) c.read_lines.ensures.value
