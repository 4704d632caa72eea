use Rattle.param_files.proofs.Commas.{three_parts}
use Rattle.param_files.proofs.printer.space_text.Goals as goal

pub returns-clause-value : goal.returns-clause-value
returns-clause-value c =
    three_parts c.args.space.now _ _ _ _ _ _ _
    c.new-text.ensures.bytes c.in_ok-push_params.ensures c.in_ok-push_conditions.ensures c.in_ok-push_clauses.ensures
    c.params-params.ensures.value c.conditions.ensures.value c.forbidden.ensures.value
