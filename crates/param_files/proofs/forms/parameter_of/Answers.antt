use Rattle.std.proofs.Common.{sym, ap, ◌∙◌, drop, Some}
use Rattle.std.specs.Option.{option_map}
use Rattle.std.proofs.lemmas.Bool.{not-false}
use Rattle.param_files.specs.Grammar.{default_of}
use Rattle.param_files.proofs.Fronts.{texts, left}
use Rattle.param_files.proofs.Ends.{texts-left, parameter_without, parameter_with}
use Rattle.param_files.proofs.forms.parameter_of.Goals as goal

pub returns-in_default-default_of : goal.returns-in_default-default_of
returns-in_default-default_of c =
    let list = c.in-Some.list in
    let rest = left c.args.tokens.now 2 in
    parameter_without c.args.tokens.now list.values.items (drop list.taken (texts rest))
    (ap (option_map (λ l. (l.values.items, drop l.taken (texts rest)))) (sym c.in-Some.is) ∙ c.in_ok-list.ensures.value)
    (c.in_default-default_of.ensures ∙ ap default_of (texts-left rest list.taken))

pub returns : goal.returns
returns c =
    let list = c.in-Some.list in
    let rest = left c.args.tokens.now 2 in
    parameter_with c.args.tokens.now list.values.items (drop list.taken (texts rest)) c.in_ok-new.field-0 c.in_ok-of.field-0 c.in_ok-of-2.field-0 c.in-len2-up.len_at_least
    (sym c.if-not-is_word.false ∙ c.is_word.ensures)
    (sym (not-false _ (sym c.ne.ensures ∙ c.if-ne.false)))
    (ap (option_map (λ l. (l.values.items, drop l.taken (texts rest)))) (sym c.in-Some.is) ∙ c.in_ok-list.ensures.value)
    (ap Some c.in_ok-of-2.ensures ∙ c.in-Some-default_of.ensures ∙ ap default_of (texts-left rest list.taken))
    c.in_ok-of.ensures c.in_ok-new.ensures
