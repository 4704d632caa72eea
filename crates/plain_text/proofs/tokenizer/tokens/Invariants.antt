use Rattle.std.proofs.Common.{◌≡◌, ◌++◌, true, drop}
use Rattle.plain_text.specs.Tokens.{tokens_after}
use Rattle.plain_text.proofs.tokenizer.tokens.Given as goal

-- the tokens so far, and those of what is left, are all
abbrev pub invariant-loop-position : goal.invariant-loop-position
invariant-loop-position l = l.found.items ++ tokens_after l.free l.position (drop l.position l.text) ≡ tokens_after true 0 l.text
