use Rattle.std.proofs.Common.{◌≡◌, ◌+◌, ◌∷◌, Ok, drop, ap, sym, ◌∙◌, arith}
use Rattle.std.proofs.lemmas.Result.{err_from_is_err_and}
use Rattle.plain_text.proofs.LineFoldLemmas.{fault-same}
use Rattle.scenario_files.specs.Words.{with_pair, with_words, words_read}
use Rattle.scenario_files.proofs.KeyCounts.{none_taken, two_taken, position_few}
use Rattle.scenario_files.proofs.WordPairs.{pair_left, pair_within, pair_taken, pair_stops, one_left, none_left}
use Rattle.scenario_files.proofs.call.Given.add_pairs.Goals as goal

pub loop-taken-init : goal.loop-taken-init
loop-taken-init c = record {
  within = omega arith;
  position = none_taken c.args.self.now c.requires;
  read = ap (λ g. with_words 0 g c.args.words.now) (sym c.requires);
}

pub overflow_cast-taken : goal.overflow_cast-taken
overflow_cast-taken c = omega (arith, position_few c.loop-taken.taken c.loop-taken.self c.loop-taken.invariant.position)

pub overflow_cast-position : goal.overflow_cast-position
overflow_cast-position c = omega (arith, position_few c.loop-taken.taken c.loop-taken.self c.loop-taken.invariant.position)

pub returns-in_err-add_pair-clause-fault : goal.returns-in_err-add_pair-clause-fault
returns-in_err-add_pair-clause-fault c =
    let words = c.args.words.now in
    let taken = c.loop-taken.taken in
    let g = c.loop-taken.self in
    let w = c.word-item.result in
    let v = c.value-item.result in
    let p = err_from_is_err_and c.from_residual.result c.from_residual.ensures.1 in
    rw (p.1, p.2)
    (fault-same _ (with_words taken g (w ∷ v ∷ drop (taken + 2) words)) (words_read words)
    (sym (c.loop-taken.invariant.read ∙ ap (with_words taken g) (pair_left words taken w v c.in-len2-up.len_at_least c.word-item.is c.value-item.is)))
    (pair_stops _ taken g w v (drop (taken + 2) words)
    (rw (c.as_str.ensures, c.as_str-in-len2-up.ensures) at c.in_err-add_pair.ensures.fault)))

pub loop-taken-preserved : goal.loop-taken-preserved
loop-taken-preserved c =
    let words = c.args.words.now in
    let taken = c.loop-taken.taken in
    let g = c.loop-taken.self in
    let h = c.add_pair.new.self in
    let w = c.word-item.result in
    let v = c.value-item.result in
    let is : with_pair g w v ≡ Ok h = rw (c.as_str.ensures, c.as_str-in-len2-up.ensures) at c.in_ok-add_pair.ensures.value in
    record {
      within = pair_within words taken c.loop-taken.invariant.within c.in-len2-up.len_at_least;
      position = two_taken taken g h w v c.loop-taken.invariant.position is;
      read = c.loop-taken.invariant.read ∙ ap (with_words taken g) (pair_left words taken w v c.in-len2-up.len_at_least c.word-item.is c.value-item.is) ∙ pair_taken taken g h w v (drop (taken + 2) words) is;
    }

pub returns-then-taken-words-clause-fault : goal.returns-then-taken-words-clause-fault
returns-then-taken-words-clause-fault c =
    c.loop-taken.invariant.read ∙ one_left c.args.words.now c.loop-taken.taken c.loop-taken.self c.in_default.len_below c.if-taken-words.true

pub returns-clause-value : goal.returns-clause-value
returns-clause-value c =
    c.loop-taken.invariant.read ∙ none_left c.args.words.now c.loop-taken.taken c.loop-taken.self c.if-taken-words.false
