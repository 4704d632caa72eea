-- The texts of the tokens of a line that begins with a blank, a mark, a word or a comment.
use Rattle.std.specs.Prelude.{ℕ, ◌≡◌, Bool, true, false, ◌||◌, not, nat_lt, List, [], ◌∷◌, ◌++◌, length, ◌==◌, refl}
use Rattle.std.specs.List.{list_all, before_first}
use Rattle.std.proofs.Common.{ap, sym, ◌∙◌, arith, cond, inl, inr}
use Rattle.std.proofs.lemmas.Bool.{and_parts, or_parts, or_cases, both_ways, false≢true}
use Rattle.std.proofs.lemmas.Bool.Decides.{nat_tests}
use Rattle.std.proofs.lemmas.List.Sums.{take_while-cons}
use Rattle.plain_text.specs.Words.{is_blank, is_word_byte, is_word}
use Rattle.plain_text.specs.Comments.{uncommented}
use Rattle.plain_text.specs.Tokens.{stands_alone, parts_runs, texts_after, token_texts}

-- a word ends before this text: there is nothing more, or a blank, a mark or a comment
abbrev pub ends_word : List ℕ → Bool
ends_word [] = true
ends_word (b ∷ xs) = parts_runs b || (b == 35)

-- the texts of the tokens of a text, by what is known of its first byte
abbrev texts_by : Bool → Bool → Bool → ℕ → List ℕ → List (List ℕ)
texts_by blank alone free b rest =
    cond blank (texts_after true rest)
    (cond alone ((b ∷ []) ∷ texts_after true rest) (cond free ((b ∷ before_first parts_runs rest) ∷ texts_after false rest) (texts_after false rest)))

module _ (b : ℕ) (rest : List ℕ) where
  by_tests : (blank alone free : Bool) → is_blank b ≡ blank → stands_alone b ≡ alone → texts_after free (b ∷ rest) ≡ texts_by blank alone free b rest
  unfolding texts_after
  by_tests blank alone free e a = ap (λ t. texts_by t (stands_alone b) free b rest) e ∙ ap (λ t. texts_by blank t free b rest) a

  blank_next : is_blank b ≡ true → texts_after true (b ∷ rest) ≡ texts_after true rest
  blank_next e = by_tests true (stands_alone b) true e refl

  alone_next : stands_alone b ≡ true → texts_after true (b ∷ rest) ≡ (b ∷ []) ∷ texts_after true rest
  alone_next a = by_tests false true true (grind (arith, nat_tests, a)) a

  word_next : parts_runs b ≡ false → texts_after true (b ∷ rest) ≡ (b ∷ before_first parts_runs rest) ∷ texts_after false rest
  word_next e = let parts = or_parts (is_blank b) (stands_alone b) e in by_tests false false true parts.0 parts.1

  inside_next : parts_runs b ≡ false → texts_after false (b ∷ rest) ≡ texts_after false rest
  inside_next e = let parts = or_parts (is_blank b) (stands_alone b) e in by_tests false false false parts.0 parts.1

  -- a byte in no run ends a run, so that none need stand before it
  parted_next : parts_runs b ≡ true → texts_after false (b ∷ rest) ≡ texts_after true (b ∷ rest)
  parted_next e = by (is_blank b) (stands_alone b) refl refl e
    where
      by : (blank alone : Bool) → is_blank b ≡ blank → stands_alone b ≡ alone → (blank || alone) ≡ true → texts_after false (b ∷ rest) ≡ texts_after true (b ∷ rest)
      by true alone e a h = by_tests true alone false e a ∙ sym (by_tests true alone true e a)
      by false true e a h = by_tests false true false e a ∙ sym (by_tests false true true e a)
      by false false e a h = absurd (false≢true h)

-- what is no comment stays
uncommented-more : (b : ℕ) (xs : List ℕ) → (b == 35) ≡ false → uncommented (b ∷ xs) ≡ b ∷ uncommented xs
uncommented-more b xs e = take_while-cons (λ c. not (c == 35)) b xs ∙ ap (λ t. cond (not t) (b ∷ uncommented xs) []) e

uncommented-none : (b : ℕ) (xs : List ℕ) → (b == 35) ≡ true → uncommented (b ∷ xs) ≡ []
uncommented-none b xs e = take_while-cons (λ c. not (c == 35)) b xs ∙ ap (λ t. cond (not t) (b ∷ uncommented xs) []) e

texts_more : (b : ℕ) (xs : List ℕ) → (b == 35) ≡ false → token_texts (b ∷ xs) ≡ texts_after true (b ∷ uncommented xs)
unfolding token_texts
texts_more b xs e = ap (texts_after true) (uncommented-more b xs e)

-- an empty line has no tokens
pub token_texts-nil : token_texts [] ≡ []
unfolding token_texts texts_after
token_texts-nil = refl

-- a comment has no tokens
pub token_texts-comment : (xs : List ℕ) → token_texts (35 ∷ xs) ≡ []
unfolding token_texts texts_after
token_texts-comment xs = ap (texts_after true) (uncommented-none 35 xs refl)

-- a blank before other tokens
pub token_texts-blank : (b : ℕ) (xs : List ℕ) → is_blank b ≡ true → token_texts (b ∷ xs) ≡ token_texts xs
unfolding token_texts
token_texts-blank b xs e = texts_more b xs (grind (arith, nat_tests, e)) ∙ blank_next b (uncommented xs) e

-- a mark before other tokens
pub token_texts-mark : (m : ℕ) (xs : List ℕ) → stands_alone m ≡ true → token_texts (m ∷ xs) ≡ (m ∷ []) ∷ token_texts xs
unfolding token_texts
token_texts-mark m xs e = texts_more m xs (grind (arith, nat_tests, e)) ∙ alone_next m (uncommented xs) e

word_byte : (b : ℕ) → is_word_byte b ≡ true → (parts_runs b ≡ false) × ((b == 35) ≡ false)
word_byte b h = (grind (arith, nat_tests, h), grind (arith, nat_tests, h))

module _ (rest : List ℕ) where
  uncommented-word : (w : List ℕ) → list_all is_word_byte w ≡ true → uncommented (w ++ rest) ≡ w ++ uncommented rest
  uncommented-word [] h = refl
  uncommented-word (b ∷ w) h =
      let parts = and_parts (is_word_byte b) (list_all is_word_byte w) h in
      uncommented-more b (w ++ rest) (word_byte b parts.0).1 ∙ ap (λ xs. b ∷ xs) (uncommented-word w parts.1)

  inside_word : (w : List ℕ) → list_all is_word_byte w ≡ true → texts_after false (w ++ rest) ≡ texts_after false rest
  inside_word [] h = refl
  inside_word (b ∷ w) h =
      let parts = and_parts (is_word_byte b) (list_all is_word_byte w) h in
      inside_next b (w ++ rest) (word_byte b parts.0).0 ∙ inside_word w parts.1

  whole_word : (w : List ℕ) → list_all is_word_byte w ≡ true → before_first parts_runs rest ≡ [] → before_first parts_runs (w ++ rest) ≡ w
  whole_word [] h e = e
  whole_word (b ∷ w) h e =
      let parts = and_parts (is_word_byte b) (list_all is_word_byte w) h in
      take_while-cons (λ c. not (parts_runs c)) b (w ++ rest)
      ∙ ap (λ t. cond (not t) (b ∷ before_first parts_runs (w ++ rest)) []) (word_byte b parts.0).0
      ∙ ap (λ xs. b ∷ xs) (whole_word w parts.1 e)

after_word : (xs : List ℕ) → ends_word xs ≡ true → (before_first parts_runs (uncommented xs) ≡ []) × (texts_after false (uncommented xs) ≡ texts_after true (uncommented xs))
unfolding texts_after
after_word [] h = (refl, refl)
after_word (b ∷ xs) h = by (b == 35) refl
  where
    by : (t : Bool) → (b == 35) ≡ t → (before_first parts_runs (uncommented (b ∷ xs)) ≡ []) × (texts_after false (uncommented (b ∷ xs)) ≡ texts_after true (uncommented (b ∷ xs)))
    by true e = rw (uncommented-none b xs e) (refl, refl)
    by false e =
        let parted : parts_runs b ≡ true = elim (or_cases (parts_runs b) (b == 35) h) [ inl p ↦ p | inr c ↦ absurd (both_ways (b == 35) e c) ] in
        let none : before_first parts_runs (b ∷ uncommented xs) ≡ [] = take_while-cons (λ c. not (parts_runs c)) b (uncommented xs) ∙ ap (λ t. cond (not t) (b ∷ before_first parts_runs (uncommented xs)) []) parted in
        rw (uncommented-more b xs e) (none, parted_next b (uncommented xs) parted)

-- a word before other tokens
pub token_texts-word : (w xs : List ℕ) → is_word w ≡ true → ends_word xs ≡ true → token_texts (w ++ xs) ≡ w ∷ token_texts xs
unfolding token_texts
token_texts-word [] xs h ends = absurd (false≢true h)
token_texts-word (b ∷ w) xs h ends =
    let parts = and_parts (is_word_byte b) (list_all is_word_byte w) (and_parts (nat_lt 0 (length (b ∷ w))) (list_all is_word_byte (b ∷ w)) h).1 in
    let byte = word_byte b parts.0 in
    let after = after_word xs ends in
    texts_more b (w ++ xs) byte.1
    ∙ ap (λ ys. texts_after true (b ∷ ys)) (uncommented-word xs w parts.1)
    ∙ word_next b (w ++ uncommented xs) byte.0
    ∙ ap (λ ys. (b ∷ ys) ∷ texts_after false (w ++ uncommented xs)) (whole_word (uncommented xs) w parts.1 after.0)
    ∙ ap (λ ts. (b ∷ w) ∷ ts) (inside_word (uncommented xs) w parts.1 ∙ after.1)
