use Rattle.std.proofs.Common.{◌∙◌, sym}
use Rattle.plain_text.proofs.Digits.{count_of-parse, IsUtf8-digits}
use Rattle.plain_text.proofs.decimals.read_count.Goals as goal

pub returns-in-Ok : goal.returns-in-Ok
returns-in-Ok c =
    let parsed = rw c.in-Ok.ensures.cases.0 at c.parse.ensures.value.0 in
    c.ok.ensures.value ∙ count_of-parse c.args.text.now c.parse.result (sym c.if-not-all_digits.ensures) parsed

pub returns-in-Err : goal.returns-in-Err
returns-in-Err c = absurd (c.in-Err.ensures.cases.0 (IsUtf8-digits c.args.text.now (sym c.if-not-all_digits.ensures)))
