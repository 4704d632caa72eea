use Rattle.std.proofs.Common.{◌≡◌, true, take}
use Rattle.std.specs.List.{list_all}
use Rattle.plain_text.specs.Words.{is_word_byte}
use Rattle.plain_text.proofs.words.is_word.Given as goal

-- the bytes so far are those of a word
abbrev pub invariant-loop-byte : goal.invariant-loop-byte
invariant-loop-byte l = list_all is_word_byte (take l.byte-index l.byte-items) ≡ true
