use Rattle.std.proofs.Common.{◌≡◌, ◌∷◌, codes, take}
use Rattle.paramils.proofs.command.words_with_scenario.Given as goal

-- the words so far
abbrev pub invariant-loop-word : goal.invariant-loop-word
invariant-loop-word l = l.all.items ≡ codes "-scenariofile" ∷ codes "toy" ∷ take l.word-index l.later
