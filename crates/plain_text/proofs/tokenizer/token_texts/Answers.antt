use Rattle.std.proofs.Common.{◌≡◌, ◌∙◌, ap, map}
use Rattle.std.proofs.lemmas.List.{take_all}
use Rattle.std.proofs.lemmas.List.Elements.{All-same}
use Rattle.plain_text.specs.Tokens.{tokens}
use Rattle.plain_text.proofs.TokenPositionLemmas.{IsTokenCut, tokens_cut, text_at, texts_of_positions}
use Rattle.plain_text.proofs.tokenizer.token_texts.Goals as goal

pub range-requires : goal.range-requires
range-requires c =
    let line = c.args.line.now in
    let items = c.deref-token-items.result.now in
    let same : items ≡ tokens line = c.deref-token-items.ensures.value ∙ c.in_ok-tokens.ensures ∙ ap tokens c.as_bytes.ensures.value in
    let cut = All-same (IsTokenCut line) items (tokens line) same (tokens_cut line c.utf8.line) c.loop-token.token-index (record { start = 0; end = 0 }) c.loop-token-test.true in
    record { start_le_end = cut.order; start_boundary = λ _. cut.start; end_boundary = cut.end }

pub returns : goal.returns
returns c =
    let line = c.args.line.now in
    let items = c.deref-token-items.result.now in
    c.loop-token.invariant
    ∙ ap (map (text_at line)) (take_all c.loop-token.token-index items c.loop-token-test.false ∙ c.deref-token-items.ensures.value ∙ c.in_ok-tokens.ensures ∙ ap tokens c.as_bytes.ensures.value)
    ∙ texts_of_positions line
