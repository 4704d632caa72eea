use Rattle.std.proofs.Common.{ap, ◌∙◌}
use Rattle.param_files.specs.declared.faults.ParamWhat.TheVariants.{Form}
use Rattle.std.specs.Prelude.{ok_or}
use Rattle.plain_text.specs.Faults.{in_line}
use Rattle.param_files.proofs.Readings.{no_text, text_stated}
use Rattle.param_files.proofs.reader.statement_in.Goals as goal

pub returns-in_default-clause-fault : goal.returns-in_default-clause-fault
returns-in_default-clause-fault c = ap (in_line c.args.line) (no_text c.args.bytes.now c.in_default.ensures.cases.0)

pub returns-in-Some-clause-value : goal.returns-in-Some-clause-value
returns-in-Some-clause-value c =
    text_stated c.args.bytes.now c.in-Ok.text.now c.as_slice.result.now c.in_ok-tokens.tokens.items c.in_ok-statement.field-0 c.in-Ok.ensures.cases.0 c.in-Ok.ensures.cases.1 c.in_ok-tokens.ensures c.as_slice.ensures.value c.in_ok-statement.ensures
    ∙ ap (λ o. ok_or o Form) c.in-Some.is

pub returns-clause-fault : goal.returns-clause-fault
returns-clause-fault c =
    ap (in_line c.args.line)
    (text_stated c.args.bytes.now c.in-Ok.text.now c.as_slice.result.now c.in_ok-tokens.tokens.items c.in_ok-statement.field-0 c.in-Ok.ensures.cases.0 c.in-Ok.ensures.cases.1 c.in_ok-tokens.ensures c.as_slice.ensures.value c.in_ok-statement.ensures
    ∙ ap (λ o. ok_or o Form) c.in-None.is)
