-- One more position of a line that is split into tokens.
use Rattle.std.proofs.Common.{ℕ, ◌≡◌, ◌<◌, ◌≤◌, ◌+◌, ◌-◌, Bool, true, false, ◌&&◌, ◌||◌, not, cond, List, [], ◌∷◌, ◌++◌, length, take, drop, get_or, refl, sym, ap, ◌∙◌, arith}
use Rattle.std.specs.List.{position_or_len}
use Rattle.std.proofs.lemmas.Bool.Decides.{nat_tests}
use Rattle.std.proofs.lemmas.Bool.{and_parts, or_right, not-true, false≢true}
use Rattle.std.proofs.lemmas.List.{drop_more, append_assoc, append-nil, drop_all, take_all, length-drop}
use Rattle.plain_text.specs.declared.tokenizer.Token.{Token}
use Rattle.plain_text.specs.Words.{is_blank}
use Rattle.plain_text.specs.Tokens.{stands_alone, parts_runs, tokens_after}

-- the tokens of a text, by what is known of its first byte
abbrev tokens_by : Bool → Bool → Bool → ℕ → List ℕ → List Token
tokens_by blank alone free position rest =
    cond blank (tokens_after true (position + 1) rest)
    (cond alone (record { start = position; end = position + 1 } ∷ tokens_after true (position + 1) rest)
    (cond free (record { start = position; end = position + 1 + position_or_len parts_runs rest } ∷ tokens_after false (position + 1) rest) (tokens_after false (position + 1) rest)))

module _ (position b : ℕ) (rest : List ℕ) where
  by_tests : (blank alone free : Bool) → is_blank b ≡ blank → stands_alone b ≡ alone → tokens_after free position (b ∷ rest) ≡ tokens_by blank alone free position rest
  unfolding tokens_after
  by_tests blank alone free e a = ap (λ t. tokens_by t (stands_alone b) free position rest) e ∙ ap (λ t. tokens_by blank t free position rest) a

-- nothing is found yet
pub none_yet : (text : List ℕ) (found : List Token) → found ≡ [] → found ++ tokens_after true 0 (drop 0 text) ≡ tokens_after true 0 text
none_yet text found e = ap (λ v. v ++ tokens_after true 0 text) e

-- what follows a position, as `&text[position + 1..]` reads
pub rest_taken : (text : List ℕ) (position : ℕ) → take (length text - (position + 1)) (drop (position + 1) text) ≡ drop (position + 1) text
rest_taken text position =
    let size : length (drop (position + 1) text) ≡ length text - (position + 1) = length-drop (position + 1) text in
    take_all (length text - (position + 1)) (drop (position + 1) text) (omega (arith, size))

-- all is found
pub all_found : (text : List ℕ) (free : Bool) (position : ℕ) (found all : List Token) → length text ≤ position → found ++ tokens_after free position (drop position text) ≡ all → found ≡ all
unfolding tokens_after
all_found text free position found all ended h =
    sym (append-nil found) ∙ ap (λ rest. found ++ tokens_after free position rest) (sym (drop_all position text ended)) ∙ h

module _ (text : List ℕ) (position b : ℕ) (free next : Bool) (old new all : List Token) (inside : position < length text) (byte : b ≡ get_or text position 0) (parted : next ≡ parts_runs b) (before : old ++ tokens_after free position (drop position text) ≡ all) where
  one_more : (found : List Token) → tokens_after free position (b ∷ drop (position + 1) text) ≡ found ++ tokens_after (parts_runs b) (position + 1) (drop (position + 1) text) → new ≡ old ++ found → new ++ tokens_after next (position + 1) (drop (position + 1) text) ≡ all
  one_more found first e =
      let rest = drop (position + 1) text in
      let here : drop position text ≡ b ∷ rest = drop_more text position 0 inside ∙ ap (λ c. c ∷ rest) (sym byte) in
      let later = tokens_after (parts_runs b) (position + 1) rest in
      ap (λ v. v ++ tokens_after next (position + 1) rest) e
      ∙ ap (λ t. (old ++ found) ++ tokens_after t (position + 1) rest) parted
      ∙ append_assoc old found later
      ∙ ap (λ ts. old ++ ts) (sym (ap (tokens_after free position) here ∙ first))
      ∙ before

  -- a mark
  pub mark_more : stands_alone b ≡ true → new ≡ old ++ record { start = position; end = position + 1 } ∷ [] → new ++ tokens_after next (position + 1) (drop (position + 1) text) ≡ all
  mark_more a =
      let rest = drop (position + 1) text in
      let parts : parts_runs b ≡ true = or_right (is_blank b) (stands_alone b) a in
      let mark : Token = record { start = position; end = position + 1 } in
      one_more (mark ∷ []) (by_tests position b rest false true free (grind (arith, nat_tests, a)) a ∙ ap (λ t. mark ∷ tokens_after t (position + 1) rest) (sym parts))

  -- a run
  pub run_more : (size : ℕ) → stands_alone b ≡ false → (free && not (is_blank b)) ≡ true → size ≡ position_or_len parts_runs (drop (position + 1) text) → new ≡ old ++ record { start = position; end = position + 1 + size } ∷ [] → new ++ tokens_after next (position + 1) (drop (position + 1) text) ≡ all
  run_more size a begun same e =
      let rest = drop (position + 1) text in
      let run : Token = record { start = position; end = position + 1 + position_or_len parts_runs rest } in
      let both = and_parts free (not (is_blank b)) begun in
      let blank : is_blank b ≡ false = not-true (is_blank b) both.1 in
      let parts : parts_runs b ≡ false = ap (λ t. t || stands_alone b) blank ∙ a in
      one_more (run ∷ [])
      (ap (λ t. tokens_after t position (b ∷ rest)) both.0 ∙ by_tests position b rest false false true blank a ∙ ap (λ t. run ∷ tokens_after t (position + 1) rest) (sym parts))
      (e ∙ ap (λ n. old ++ record { start = position; end = position + 1 + n } ∷ []) same)

  -- a blank, or a further byte of a run
  pub none_more : stands_alone b ≡ false → (free && not (is_blank b)) ≡ false → new ≡ old → new ++ tokens_after next (position + 1) (drop (position + 1) text) ≡ all
  none_more a none e =
      let rest = drop (position + 1) text in
      one_more [] (by (is_blank b) free refl refl none) (e ∙ sym (append-nil old))
    where
      by : (blank f : Bool) → is_blank b ≡ blank → free ≡ f → (f && not blank) ≡ false → tokens_after free position (b ∷ drop (position + 1) text) ≡ tokens_after (parts_runs b) (position + 1) (drop (position + 1) text)
      by true f e same h = by_tests position b (drop (position + 1) text) true false free e a ∙ ap (λ t. tokens_after (t || stands_alone b) (position + 1) (drop (position + 1) text)) (sym e)
      by false true e same h = absurd (false≢true (sym h))
      by false false e same h =
          let parts : parts_runs b ≡ false = ap (λ t. t || stands_alone b) e ∙ a in
          ap (λ t. tokens_after t position (b ∷ drop (position + 1) text)) same ∙ by_tests position b (drop (position + 1) text) false false false e a ∙ ap (λ t. tokens_after t (position + 1) (drop (position + 1) text)) (sym parts)
