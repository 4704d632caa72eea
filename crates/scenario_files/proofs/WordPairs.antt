-- Pairs of words one after another.
use Rattle.std.proofs.Common.{ℕ, ◌≡◌, ◌<◌, ◌≤◌, ◌+◌, ◌-◌, List, [], ◌∷◌, Option, Ok, Err, length, get_or, take, drop, ap, sym, ◌∙◌, arith}
use Rattle.std.proofs.lemmas.List.{drop_more, drop_all, take_rest, get_or-drop, length-drop}
use Rattle.plain_text.specs.Faults.{IsFound}
use Rattle.plain_text.specs.Results.{◌>>=◌}
use Rattle.plain_text.proofs.LineFoldLemmas.{fault_moves}
use Rattle.scenario_files.specs.declared.call.Given.{Given}
use Rattle.scenario_files.specs.Words.{with_pair, at_position, words_before, with_words}

-- what is left from a position on
abbrev pub left : List (List ℕ) → ℕ → List (List ℕ)
left ws n = take (length ws - n) (drop n ws)

-- the word at a position of what is left
word_at : (ws : List (List ℕ)) (n i : ℕ) (w : List ℕ) → w ≡ get_or (left ws n) i w → w ≡ get_or ws (n + i) w
word_at ws n i w is = is ∙ ap (λ xs. get_or xs i w) (take_rest ws n) ∙ get_or-drop n ws i w

-- a pair at the head of what is left
pub pair_left : (ws : List (List ℕ)) (n : ℕ) (w v : List ℕ) → 2 ≤ length (left ws n) → w ≡ get_or (left ws n) 0 w → v ≡ get_or (left ws n) 1 v → drop n ws ≡ w ∷ v ∷ drop (n + 2) ws
pair_left ws n w v some first second =
    let many : n + 2 ≤ length ws = omega (arith, some, ap length (take_rest ws n), length-drop n ws) in
    let one : n + 0 ≡ n = omega arith in
    let two : n + 1 + 1 ≡ n + 2 = omega arith in
    drop_more ws n w (omega (arith, many))
    ∙ ap (λ x. x ∷ drop (n + 1) ws) (sym (word_at ws n 0 w first ∙ ap (λ m. get_or ws m w) one))
    ∙ ap (λ xs. w ∷ xs) (drop_more ws (n + 1) v (omega (arith, many)) ∙ ap (λ x. x ∷ drop (n + 1 + 1) ws) (sym (word_at ws n 1 v second)) ∙ ap (λ m. v ∷ drop m ws) two)

-- a pair that is left stands in the whole
pub pair_within : (ws : List (List ℕ)) (n : ℕ) → n ≤ length ws → 2 ≤ length (left ws n) → n + 2 ≤ length ws
pair_within ws n within some = omega (arith, some, within, ap length (take_rest ws n), length-drop n ws)

-- a pair that is taken
pub pair_taken : (n : ℕ) (g h : Given) (w v : List ℕ) (later : List (List ℕ)) → with_pair g w v ≡ Ok h → with_words n g (w ∷ v ∷ later) ≡ with_words (n + 2) h later
unfolding with_words
pair_taken n g h w v later is = ap (λ r. at_position n r >>= λ x. with_words (n + 2) x later) is

-- a pair that is wrong
pub pair_stops : (o : Option ℕ) (n : ℕ) (g : Given) (w v : List ℕ) (later : List (List ℕ)) → IsFound o (at_position n (with_pair g w v)) → IsFound o (with_words n g (w ∷ v ∷ later))
unfolding with_words
pair_stops o n g w v later h = fault_moves o (at_position n (with_pair g w v)) (with_words n g (w ∷ v ∷ later)) (λ f is. ap (λ r. r >>= λ x. with_words (n + 2) x later) is) h

-- a word without a value
pub one_left : (ws : List (List ℕ)) (n : ℕ) (g : Given) → length (left ws n) < 2 → n < length ws → with_words n g (drop n ws) ≡ Err n
unfolding with_words
one_left ws n g few some =
    let last : length ws ≤ n + 1 = omega (arith, few, ap length (take_rest ws n), length-drop n ws) in
    ap (with_words n g) (drop_more ws n [] some ∙ ap (λ xs. get_or ws n [] ∷ xs) (drop_all (n + 1) ws last))

-- no word
pub none_left : (ws : List (List ℕ)) (n : ℕ) (g : Given) → length ws ≤ n → with_words n g (drop n ws) ≡ words_before n g
unfolding with_words
none_left ws n g past = ap (with_words n g) (drop_all n ws past)
