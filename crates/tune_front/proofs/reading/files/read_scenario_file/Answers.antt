use Rattle.std.proofs.lemmas.Result.{err_from_is_err_and}
use Rattle.scenario_files.specs.declared.draft.Draft.{Draft}
use Rattle.tune_front.specs.Readings.{bytes_reading, statement_reading}
use Rattle.tune_front.specs.Refusals.{IsFile}
use Rattle.tune_front.specs.ScenarioTask.{whole_scenario}
use Rattle.tune_front.specs.declared.status.FileKind.TheVariants as kind
use Rattle.tune_front.specs.declared.status.What.TheVariants as what
use Rattle.tune_front.proofs.ReadingCauses.{caused_on}
use Rattle.tune_front.proofs.reading.files.read_scenario_file.Goals as goal

pub returns-in_err-bytes-clause-refused : goal.returns-in_err-bytes-clause-refused
returns-in_err-bytes-clause-refused g c =
    let p = err_from_is_err_and c.from_residual.result c.from_residual.ensures.1 in
    let name = c.args.name.now in
    rw (p.1, p.2)
    (caused_on (bytes_reading kind.Scenario name) (λ contents bytes. statement_reading kind.Scenario what.Scenario name (whole_scenario c.args.words bytes))
    (IsFile kind.Scenario name) (g.F.Files.told c.args.files.now) (g.F.Files.told c.read_bytes.new.files) _ c.in_err-bytes.ensures.refused)
