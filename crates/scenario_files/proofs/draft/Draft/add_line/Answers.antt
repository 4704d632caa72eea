use Rattle.std.proofs.Common.{◌≡◌, Ok, subst}
use Rattle.std.specs.Prelude.{OnOk, IfErr}
use Rattle.plain_text.specs.Faults.{IsFound}
use Rattle.scenario_files.specs.Faults.{rule_of}
use Rattle.scenario_files.proofs.LineTexts.{no_text, text_line}
use Rattle.scenario_files.proofs.draft.Draft.add_line.Goals as goal

pub returns-in-Ok-clause-value : goal.returns-in-Ok-clause-value
returns-in-Ok-clause-value c =
    let line = c.args.line in
    subst (λ r. OnOk c.add_statement.result (r ≡ Ok c.add_statement.new.self))
    (text_line c.args.self.now line.now c.in-Ok.text.now c.uncommented.result.now c.in-Ok.ensures.cases.0 c.in-Ok.ensures.cases.1 c.uncommented.ensures)
    c.add_statement.ensures.value

pub returns-in-Ok-clause-fault : goal.returns-in-Ok-clause-fault
returns-in-Ok-clause-fault c =
    let line = c.args.line in
    subst (λ r. IfErr c.add_statement.result (λ e. IsFound (rule_of e) r))
    (text_line c.args.self.now line.now c.in-Ok.text.now c.uncommented.result.now c.in-Ok.ensures.cases.0 c.in-Ok.ensures.cases.1 c.uncommented.ensures)
    c.add_statement.ensures.fault

pub returns-in-Err-clause-fault : goal.returns-in-Err-clause-fault
returns-in-Err-clause-fault c = no_text c.args.self.now c.args.line.now c.in-Err.ensures.cases.0
