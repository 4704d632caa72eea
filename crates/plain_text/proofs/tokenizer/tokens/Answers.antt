use Rattle.std.proofs.Common.{true, ◌∙◌, ap, sym, refl, get_or, take}
use Rattle.std.specs.List.{position_or_len}
use Rattle.plain_text.specs.Tokens.{parts_runs, tokens_after, tokens}
use Rattle.plain_text.proofs.TokenSteps.{none_yet, rest_taken, mark_more, run_more, none_more, all_found}
use Rattle.plain_text.proofs.tokenizer.tokens.Goals as goal
use Rattle.plain_text.proofs.tokenizer.tokens.Goals.{then-stands_alone+in_ok-push, else-stands_alone+then-begins_run+in_ok-push-2, else-stands_alone+else-begins_run}

pub loop-position-init : goal.loop-position-init
loop-position-init c = none_yet (take c.comment_position.result c.args.line.now) c.new-found.result.items c.new-found.ensures.items

pub loop-position-preserved : goal.loop-position-preserved
loop-position-preserved c =
    let text = take c.comment_position.result c.args.line.now in
    let position = c.loop-position.position in
    let byte = get_or text position 0 in
    let old = c.loop-position.found.items in
    let new = c.if-stands_alone.found.items in
    let next = c.parts_runs-free.result in
    let all = tokens_after true 0 text in
    elim c.if-stands_alone.branch [
      | then-stands_alone+in_ok-push w ↦ mark_more text position byte c.loop-position.free next old new all c.loop-position-test.true refl c.parts_runs-free.ensures c.loop-position.invariant (sym c.stands_alone.ensures ∙ w.if-stands_alone.true) (ap (λ v. v.items) w.found-is ∙ w.in_ok-push.ensures.items)
      | else-stands_alone+then-begins_run+in_ok-push-2 w ↦ run_more text position byte c.loop-position.free next old new all c.loop-position-test.true refl c.parts_runs-free.ensures c.loop-position.invariant w.run_length.result (sym c.stands_alone.ensures ∙ w.if-stands_alone.false) (sym w.begins_run.ensures ∙ w.if-begins_run.true) (w.run_length.ensures.value ∙ ap (position_or_len parts_runs) (rest_taken text position)) (ap (λ v. v.items) w.found-is ∙ w.in_ok-push-2.ensures.items)
      | else-stands_alone+else-begins_run w ↦ none_more text position byte c.loop-position.free next old new all c.loop-position-test.true refl c.parts_runs-free.ensures c.loop-position.invariant (sym c.stands_alone.ensures ∙ w.if-stands_alone.false) (sym w.begins_run.ensures ∙ w.if-begins_run.false) (ap (λ v. v.items) w.found-is)
    ]

pub returns : goal.returns
unfolding tokens
returns c =
    all_found (take c.comment_position.result c.args.line.now) c.loop-position.free c.loop-position.position c.loop-position.found.items _ c.loop-position-test.false c.loop-position.invariant ∙ ap (λ n. tokens_after true 0 (take n c.args.line.now)) c.comment_position.ensures.value
