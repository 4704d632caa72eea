use Rattle.std.proofs.Common.{[], ◌≡◌, sym, ◌∙◌, ap, get_or, bytes_eq, arith, length}
use Rattle.std.proofs.lemmas.List.{get_or_read}
use Rattle.std.proofs.lemmas.List.Sums.{position_or_len_is}
use Rattle.plain_text.proofs.texts.position_of.Goals as goal

pub returns-then-eq-clause-value : goal.returns-then-eq-clause-value
returns-then-eq-clause-value c =
    let xs = c.args.texts.now in
    let i = c.loop-i.i in
    let same : c.as_str.result.now ≡ get_or xs i [] = c.as_str.ensures ∙ get_or_read xs i c.index-texts-i.result c.loop-i-test.true c.index-texts-i.is [] in
    sym (position_or_len_is (bytes_eq c.args.text.now) xs i [] (omega arith) c.loop-i.invariant (λ _. ap (bytes_eq c.args.text.now) (sym same) ∙ sym c.eq.ensures ∙ c.if-eq.true))

pub returns-clause-value : goal.returns-clause-value
returns-clause-value c =
    let xs = c.args.texts.now in
    let all : c.loop-i.i ≡ length xs = omega arith in
    sym (position_or_len_is (bytes_eq c.args.text.now) xs c.loop-i.i [] (omega arith) c.loop-i.invariant (λ below. absurd (omega (arith, below))) ∙ all)
