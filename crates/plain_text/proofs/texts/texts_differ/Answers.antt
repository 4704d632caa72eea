use Rattle.std.proofs.Common.{[], ◌≡◌, ◌∙◌, ap, not, get_or}
use Rattle.std.proofs.lemmas.List.{get_or_read}
use Rattle.plain_text.proofs.TextSets.{seen_before, seen_more, differ_more, differ_stops}
use Rattle.plain_text.proofs.texts.texts_differ.Goals as goal

pub returns-then-not-branch : goal.returns-then-not-branch
returns-then-not-branch c =
    let xs = c.args.texts.now in
    let i = c.loop-text.text-index in
    let same : c.as_str.result.now ≡ get_or xs i [] = c.as_str.ensures ∙ get_or_read xs i c.text-item.result c.loop-text-test.true c.text-item.is [] in
    differ_stops xs i c.loop-text-test.true
    (seen_before c.loop-text.seen xs i c.as_str.result c.in_ok-insert.field-0 c.loop-text.invariant.seen c.in_ok-insert.ensures.added same ∙ ap not c.if-not-branch.true)

pub loop-text-preserved : goal.loop-text-preserved
loop-text-preserved c =
    let xs = c.args.texts.now in
    let i = c.loop-text.text-index in
    let same : c.as_str.result.now ≡ get_or xs i [] = c.as_str.ensures ∙ get_or_read xs i c.text-item.result c.loop-text-test.true c.text-item.is [] in
    record {
      differ = differ_more xs i c.loop-text-test.true c.loop-text.invariant.differ
          (seen_before c.loop-text.seen xs i c.as_str.result c.in_ok-insert.field-0 c.loop-text.invariant.seen c.in_ok-insert.ensures.added same ∙ ap not c.if-not-branch.false);
      seen = λ q. seen_more c.loop-text.seen c.insert.new.self xs i c.as_str.result q c.loop-text-test.true same (c.loop-text.invariant.seen q) (c.in_ok-insert.ensures.updates.0 q);
    }
