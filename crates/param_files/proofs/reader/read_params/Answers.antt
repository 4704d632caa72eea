use Rattle.std.proofs.Common.{◌≡◌, Ok}
use Rattle.std.proofs.lemmas.Result.{IfOk-weaker, IfErr-weaker}
use Rattle.plain_text.specs.Faults.{IsFound}
use Rattle.param_files.specs.Faults.{fault_of}
use Rattle.param_files.specs.Reading.{params_read}
use Rattle.param_files.specs.StatementTokens.{AreStatements, IsFormless}
use Rattle.param_files.proofs.StatedLines.{text_states, formless}
use Rattle.param_files.proofs.reader.read_params.Goals as goal

pub returns-clause-lines : goal.returns-clause-lines
returns-clause-lines c =
    let text = c.args.text.now in
    IfOk-weaker c.space_in.result (λ s. params_read text ≡ Ok s) (λ _. AreStatements text) (λ s h. text_states text s h) c.space_in.ensures.value

pub returns-clause-form : goal.returns-clause-form
returns-clause-form c =
    let text = c.args.text.now in
    IfErr-weaker c.space_in.result (λ e. IsFound (fault_of e) (params_read text)) (IsFormless text) (λ e h. formless text e h) c.space_in.ensures.fault
