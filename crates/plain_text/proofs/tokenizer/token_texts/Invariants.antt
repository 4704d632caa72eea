use Rattle.std.proofs.Common.{◌≡◌, map, take}
use Rattle.plain_text.proofs.TokenPositionLemmas.{text_at}
use Rattle.plain_text.proofs.tokenizer.token_texts.Given as goal

-- the texts of the tokens so far
abbrev pub invariant-loop-token : goal.invariant-loop-token
invariant-loop-token l = map (λ x. x.now) l.texts.items ≡ map (text_at l.line) (take l.token-index l.token-items)
