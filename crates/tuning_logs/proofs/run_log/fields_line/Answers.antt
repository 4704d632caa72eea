use Rattle.std.proofs.Common.{◌∙◌}
use Rattle.std.proofs.lemmas.Result.{IfOk-weaker}
use Rattle.tuning_logs.proofs.FieldTexts.{record_is}
use Rattle.tuning_logs.proofs.run_log.fields_line.Goals as goal

pub returns : goal.returns
returns c =
    let fields = record_is c.args.number.now c.args.place.now c.args.cutoff.now c.args.word.now c.args.time.now c.args.settings.now
    c.requires.number c.requires.place c.requires.cutoff c.requires.word c.requires.time c.requires.settings in
    IfOk-weaker c.record_text.result _ _ (λ line e. rw (c.as_bytes.ensures.value, c.as_bytes-2.ensures.value, c.as_bytes-3.ensures.value, c.as_bytes-4.ensures.value, c.as_bytes-5.ensures.value) at e ∙ fields)
    c.record_text.ensures
