use Rattle.std.proofs.Common.{sym, ap, ◌∙◌, drop}
use Rattle.std.specs.Option.{option_map}
use Rattle.param_files.proofs.Fronts.{texts, left, first}
use Rattle.param_files.proofs.Ends.{clause_goes_on}
use Rattle.param_files.proofs.forms.clause_of.Goals as goal

pub returns-in-len1-up-2 : goal.returns-in-len1-up-2
returns-in-len1-up-2 c =
    let list = c.in-Some.list in
    let rest = left c.args.tokens.now 1 in
    clause_goes_on c.args.tokens.now list.picks.items (drop list.taken (texts rest)) _ _
    (ap (option_map (λ l. (l.picks.items, drop l.taken (texts rest)))) (sym c.in-Some.is) ∙ c.in_ok-list.ensures.value)
    (first rest list.taken c.in-len1-up-2.len_at_least)
