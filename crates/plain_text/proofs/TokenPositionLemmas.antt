-- The positions of tokens: they cut a line between characters, and their texts are those of its tokens.
use Rattle.std.specs.Prelude.{ℕ, suc, ◌≡◌, ◌≤◌, ◌<◌, ◌+◌, ◌-◌, Bool, true, false, ◌==◌, not, List, [], ◌∷◌, ◌++◌, length, map, take, drop, get_or, All, IsUtf8, IsCharBoundary, refl}
use Rattle.std.specs.List.{position_or_len, before_first}
use Rattle.std.proofs.Common.{ap, sym, ◌∙◌, subst, arith, cond, inl, inr, add-zero}
use Rattle.std.proofs.lemmas.Bool.{cases_lt, false≢true}
use Rattle.std.proofs.lemmas.Bool.Decides.{nat_tests}
use Rattle.std.proofs.lemmas.List.{length-take, length-drop, length-append, get_or_append_left, get_or-drop, drop-drop, take-append-drop, take-append-le}
use Rattle.std.proofs.lemmas.List.Elements.{All-nil, All-cons, All-map, All-weaker}
use Rattle.std.proofs.lemmas.List.Sums.{prefix_len-le-length, passes_at_first}
use Rattle.std.proofs.lemmas.Str.{IsCharBoundary-start, IsCharBoundary-end, IsCharBoundary-before_ascii, IsCharBoundary-after_ascii, IsUtf8-between}
use Rattle.plain_text.specs.declared.tokenizer.Token.{Token}
use Rattle.plain_text.specs.Words.{is_blank}
use Rattle.plain_text.specs.Comments.{uncommented}
use Rattle.plain_text.specs.Tokens.{stands_alone, parts_runs, texts_after, token_texts, tokens_after, tokens}

-- the bytes at a position of a line
abbrev pub text_at : List ℕ → Token → List ℕ
text_at line token = take (token.end - token.start) (drop token.start line)

-- a token of a line begins and ends between characters
pub record IsTokenCut (line : List ℕ) (token : Token) : Type 0 where
  pub order : token.start ≤ token.end
  pub start : IsCharBoundary line token.start
  pub end : IsCharBoundary line token.end

blank_ascii : (b : ℕ) → is_blank b ≡ true → b < 128
blank_ascii b h = grind (arith, nat_tests, h)

alone_ascii : (b : ℕ) → stands_alone b ≡ true → b < 128
alone_ascii b h = grind (arith, nat_tests, h)

parting_ascii : (b : ℕ) → parts_runs b ≡ true → b < 128
parting_ascii b h = grind (arith, nat_tests, h)

comment_ascii : (b : ℕ) → (b == 35) ≡ true → b < 128
comment_ascii b h = grind (arith, nat_tests, h)

module _ (line : List ℕ) where
  -- what stands at a position, and after it
  rest_at : (position b : ℕ) (rest : List ℕ) → drop position line ≡ b ∷ rest → drop (position + 1) line ≡ rest
  rest_at position b rest e = sym (drop-drop 1 position line) ∙ ap (drop 1) e

  byte_at : (position : ℕ) (rest : List ℕ) (i : ℕ) → drop position line ≡ rest → get_or line (position + i) 0 ≡ get_or rest i 0
  byte_at position rest i e = sym (get_or-drop position line i 0) ∙ ap (λ xs. get_or xs i 0) e

  run_text : (position b : ℕ) (rest more : List ℕ) → drop position line ≡ b ∷ (rest ++ more) → take (position + 1 + position_or_len parts_runs rest - position) (drop position line) ≡ b ∷ before_first parts_runs rest
  run_text position b rest more e =
      let m = position_or_len parts_runs rest in
      let most : m ≤ length rest = prefix_len-le-length (λ c. not (parts_runs c)) rest in
      let size : position + 1 + m - position ≡ suc m = omega arith in
      rw (size, e) (ap (λ xs. b ∷ xs) (take-append-le m rest more most))

  mark_text : (position b : ℕ) (more : List ℕ) → drop position line ≡ b ∷ more → take (position + 1 - position) (drop position line) ≡ b ∷ []
  mark_text position b more e = let one : position + 1 - position ≡ 1 = omega arith in rw (one, e) refl

  texts_at : (free : Bool) (position : ℕ) (rest more : List ℕ) → drop position line ≡ rest ++ more → map (text_at line) (tokens_after free position rest) ≡ texts_after free rest
  unfolding tokens_after texts_after
  texts_at free position [] more e = refl
  texts_at free position (b ∷ rest) more e = by (is_blank b) (stands_alone b) free (λ t. texts_at t (position + 1) rest more (rest_at position b (rest ++ more) e))
    where
      by : (blank alone free : Bool) → ((t : Bool) → map (text_at line) (tokens_after t (position + 1) rest) ≡ texts_after t rest)
          → map (text_at line) (cond blank (tokens_after true (position + 1) rest) (cond alone (record { start = position; end = position + 1 } ∷ tokens_after true (position + 1) rest) (cond free (record { start = position; end = position + 1 + position_or_len parts_runs rest } ∷ tokens_after false (position + 1) rest) (tokens_after false (position + 1) rest))))
          ≡ cond blank (texts_after true rest) (cond alone ((b ∷ []) ∷ texts_after true rest) (cond free ((b ∷ before_first parts_runs rest) ∷ texts_after false rest) (texts_after false rest)))
      by true alone free later = later true
      by false true free later = let first = mark_text position b (rest ++ more) e in λ i. first i ∷ later true i
      by false false true later = let first = run_text position b rest more e in λ i. first i ∷ later false i
      by false false false later = later false

-- the texts at the positions of a line's tokens
pub texts_of_positions : (line : List ℕ) → map (text_at line) (tokens line) ≡ token_texts line
unfolding tokens token_texts
texts_of_positions line =
    let n = position_or_len (λ b. b == 35) line in
    texts_at line true 0 (uncommented line) (drop n line) (sym (take-append-drop n line))

module _ (line : List ℕ) (utf8 : IsUtf8 line) where
  before : (position b : ℕ) (rest : List ℕ) → drop position line ≡ b ∷ rest → b < 128 → IsCharBoundary line position
  before position b rest e ascii =
      let size : length (drop position line) ≡ length line - position = length-drop position line in
      let more : length (drop position line) ≡ suc (length rest) = ap length e in
      let there : get_or line (position + 0) 0 ≡ b = byte_at line position (b ∷ rest) 0 e in
      IsCharBoundary-before_ascii line position (omega (arith, size, more)) (subst (λ k. get_or line k 0 < 128) (add-zero position) (omega (arith, there, ascii)))

  after : (position b : ℕ) (rest : List ℕ) → drop position line ≡ b ∷ rest → b < 128 → IsCharBoundary line (position + 1)
  after position b rest e ascii =
      let size : length (drop position line) ≡ length line - position = length-drop position line in
      let more : length (drop position line) ≡ suc (length rest) = ap length e in
      let there : get_or line (position + 0) 0 ≡ b = byte_at line position (b ∷ rest) 0 e in
      IsCharBoundary-after_ascii line position utf8 (omega (arith, size, more)) (subst (λ k. get_or line k 0 < 128) (add-zero position) (omega (arith, there, ascii)))

  cuts_after : (free : Bool) (position : ℕ) (rest more : List ℕ) → drop position line ≡ rest ++ more → (free ≡ true → IsCharBoundary line position) → IsCharBoundary line (position + length rest) → All (IsTokenCut line) (tokens_after free position rest)
  unfolding tokens_after
  cuts_after free position [] more e start end = All-nil (IsTokenCut line)
  cuts_after free position (b ∷ rest) more e start end = by (is_blank b) (stands_alone b) free refl refl start (λ t s. cuts_after t (position + 1) rest more (rest_at line position b (rest ++ more) e) s ended)
    where
      same : position + length (b ∷ rest) ≡ position + 1 + length rest
      same = omega arith

      ended : IsCharBoundary line (position + 1 + length rest)
      ended = subst (IsCharBoundary line) same end

      run_end : IsCharBoundary line (position + 1 + position_or_len parts_runs rest)
      run_end =
          let m = position_or_len parts_runs rest in
          let most : m ≤ length rest = prefix_len-le-length (λ c. not (parts_runs c)) rest in
          elim (cases_lt m (length rest)) [
            | inl less ↦ (let ascii : get_or rest m 0 < 128 = parting_ascii (get_or rest m 0) (passes_at_first parts_runs rest 0 less) in
                run_before m less ascii)
            | inr all ↦ subst (λ n. IsCharBoundary line (position + 1 + n)) (omega (arith, most, all)) ended
          ]
        where
          run_before : (m : ℕ) → m < length rest → get_or rest m 0 < 128 → IsCharBoundary line (position + 1 + m)
          run_before m less ascii =
              let there : get_or line (position + 1 + m) 0 ≡ get_or (rest ++ more) m 0 = byte_at line (position + 1) (rest ++ more) m (rest_at line position b (rest ++ more) e) in
              let front : get_or (rest ++ more) m 0 ≡ get_or rest m 0 = get_or_append_left rest more 0 m less in
              let size : length (drop position line) ≡ length line - position = length-drop position line in
              let whole : length (drop position line) ≡ suc (length rest + length more) = ap length e ∙ ap suc (length-append rest more) in
              IsCharBoundary-before_ascii line (position + 1 + m) (omega (arith, size, whole, less)) (omega (arith, there, front, ascii))

      by : (blank alone f : Bool) → is_blank b ≡ blank → stands_alone b ≡ alone → (f ≡ true → IsCharBoundary line position) → ((t : Bool) → (t ≡ true → IsCharBoundary line (position + 1)) → All (IsTokenCut line) (tokens_after t (position + 1) rest))
          → All (IsTokenCut line) (cond blank (tokens_after true (position + 1) rest) (cond alone (record { start = position; end = position + 1 } ∷ tokens_after true (position + 1) rest) (cond f (record { start = position; end = position + 1 + position_or_len parts_runs rest } ∷ tokens_after false (position + 1) rest) (tokens_after false (position + 1) rest))))
      by true alone f k a s later = later true (λ _. after position b (rest ++ more) e (blank_ascii b k))
      by false true f k a s later =
          let behind = after position b (rest ++ more) e (alone_ascii b a) in
          All-cons (IsTokenCut line) (record { start = position; end = position + 1 }) _ (record { order = omega arith; start = before position b (rest ++ more) e (alone_ascii b a); end = behind }) (later true (λ _. behind))
      by false false true k a s later =
          All-cons (IsTokenCut line) (record { start = position; end = position + 1 + position_or_len parts_runs rest }) _ (record { order = omega arith; start = s refl; end = run_end }) (later false (λ h. absurd (false≢true h)))
      by false false false k a s later = later false (λ h. absurd (false≢true h))

  -- a comment begins between characters, or the line ends
  pub comment_boundary : IsCharBoundary line (position_or_len (λ b. b == 35) line)
  comment_boundary =
      let n = position_or_len (λ b. b == 35) line in
      let most : n ≤ length line = prefix_len-le-length (λ b. not (b == 35)) line in
      elim (cases_lt n (length line)) [
        | inl less ↦ IsCharBoundary-before_ascii line n less (comment_ascii (get_or line n 0) (passes_at_first (λ b. b == 35) line 0 less))
        | inr all ↦ subst (IsCharBoundary line) (omega (arith, most, all)) (IsCharBoundary-end line)
      ]

  at_end : IsCharBoundary line (length (uncommented line))
  at_end =
      let n = position_or_len (λ b. b == 35) line in
      let most : n ≤ length line = prefix_len-le-length (λ b. not (b == 35)) line in
      let size : n ≡ length (uncommented line) = omega (arith, most, length-take n line) in
      subst (IsCharBoundary line) size comment_boundary

  -- the tokens of a line cut it between characters
  pub tokens_cut : All (IsTokenCut line) (tokens line)
  unfolding tokens
  tokens_cut =
      let n = position_or_len (λ b. b == 35) line in
      cuts_after true 0 (uncommented line) (drop n line) (sym (take-append-drop n line)) (λ _. IsCharBoundary-start line utf8) (subst (IsCharBoundary line) (omega arith) at_end)

-- the texts of the tokens of a UTF-8 line are UTF-8
pub token_texts-utf8 : (line : List ℕ) → IsUtf8 line → All IsUtf8 (token_texts line)
token_texts-utf8 line u =
    subst (All IsUtf8) (texts_of_positions line) (All-map IsUtf8 (text_at line) (tokens line)
    (All-weaker (IsTokenCut line) (λ t. IsUtf8 (text_at line t)) (λ t cut. IsUtf8-between line t.start t.end u cut.order cut.start cut.end) (tokens line) (tokens_cut line u)))
