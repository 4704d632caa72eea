use Rattle.std.proofs.Common.{◌+◌, take, drop, sym, ap, ◌∙◌}
use Rattle.std.specs.List.{position_or_len}
use Rattle.plain_text.specs.Times.{is_letter, is_point}
use Rattle.plain_text.proofs.Positions.{read_done}
use Rattle.plain_text.proofs.times.read_micros.Goals as goal

pub returns : goal.returns
returns c =
    let text = c.args.text.now in
    let letter = c.letter_position.ensures in
    let point = c.point_position-point.ensures in
    let mantissa = ap (λ n. take n text) letter in
    let position = point ∙ ap (λ xs. position_or_len is_point xs) mantissa in
    let before = ap (λ n. take n (take c.letter_position.result text)) position ∙ ap (λ xs. take (position_or_len is_point (take (position_or_len is_letter text) text)) xs) mantissa in
    let after = c.after_position-after.ensures ∙ ap (λ n. drop (n + 1) (take c.letter_position.result text)) position ∙ ap (λ xs. drop (position_or_len is_point (take (position_or_len is_letter text) text) + 1) xs) mantissa in
    c.in_range.ensures
    ∙ read_done text (take c.point_position-point.result (take c.letter_position.result text)) c.after_position-after.result.now c.in-Some.right c.in-Some.left c.rounded_up.result c.in-Some.ensures.value before after (sym c.if-not-are_digits.ensures) c.rounded_up.ensures
