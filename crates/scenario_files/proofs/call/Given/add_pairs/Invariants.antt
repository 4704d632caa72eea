use Rattle.std.proofs.Common.{◌≡◌, ◌≤◌, ◌-◌, length, drop}
use Rattle.scenario_files.specs.Words.{with_words, words_read}
use Rattle.scenario_files.proofs.KeyCounts.{IsPosition}
use Rattle.scenario_files.proofs.call.Given.add_pairs.Given as goal

-- what the pairs so far give, and then the words that are left
abbrev pub invariant-loop-taken : goal.invariant-loop-taken
invariant-loop-taken l = record {
  within : l.taken ≤ length l.words;
  position : IsPosition l.taken l.self;
  read : words_read l.words ≡ with_words l.taken l.self (drop l.taken l.words);
}

abbrev pub decreases-loop-taken : goal.decreases-loop-taken
decreases-loop-taken l = length l.words - l.taken
