use Rattle.std.proofs.Common.{ℕ, ◌-◌, ◌||◌, Bool, cond, length, take, drop, ap, ◌∙◌}
use Rattle.std.specs.List.{list_any}
use Rattle.plain_text.specs.Times.{is_more}
use Rattle.plain_text.proofs.KeptDigits.{digits_taken, drop_rest, kept_bounded}
use Rattle.plain_text.proofs.times.rounded_up.Goals as goal

pub read_on-requires-clause-digits : goal.read_on-requires-clause-digits
read_on-requires-clause-digits c = digits_taken c.min-first.result c.args.before.now c.requires.before_digits

pub read_on-value-requires-clause-digits : goal.read_on-value-requires-clause-digits
read_on-value-requires-clause-digits c = digits_taken c.min-second.result c.args.after.now c.requires.after_digits

pub returns : goal.returns
returns c =
    let before = c.args.before.now in
    let after = c.args.after.now in
    let first = c.min-first.result in
    let second = c.min-second.result in
    let one : Bool → ℕ = λ b. cond b 1 0 in
    let left =
    c.left_over.ensures
    ∙ ap (λ xs. one (list_any is_more xs || list_any is_more (take (length after - second) (drop second after)))) (drop_rest first before)
    ∙ ap (λ xs. one (list_any is_more (drop first before) || list_any is_more xs)) (drop_rest second after) in
    kept_bounded before after c.args.right c.args.left first second c.saturating_sub-kept.result c.read_on.result c.read_on-value.result c.with_zeros-scaled.result c.left_over.result c.min.result c.requires.before_digits c.requires.after_digits
    c.saturating_sub-kept.ensures c.min-first.ensures c.min-second.ensures c.read_on.ensures c.read_on-value.ensures c.with_zeros-scaled.ensures left c.min.ensures
