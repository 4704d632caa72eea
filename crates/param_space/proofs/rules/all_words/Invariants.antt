use Rattle.std.proofs.Common.{◌≡◌, true, take}
use Rattle.std.specs.List.{list_all}
use Rattle.plain_text.specs.Words.{is_word}
use Rattle.param_space.proofs.rules.all_words.Given as goal

-- the texts so far are words
abbrev pub invariant-loop-text : goal.invariant-loop-text
invariant-loop-text l = list_all is_word (take l.text-index l.texts) ≡ true
