-- The tokens at the head of what is left of a list of references.
use Rattle.std.proofs.Common.{ℕ, ◌≡◌, ◌≤◌, ◌<◌, ◌+◌, ◌-◌, false, List, [], ◌∷◌, Bor, length, get_or, map, take, drop, refl, ap, ◌∙◌, arith}
use Rattle.std.specs.Prelude.{bytes_eq}
use Rattle.std.proofs.lemmas.Bool.{false_from_ne_true}
use Rattle.std.proofs.lemmas.List.{drop_more, drop-map, take_rest, get_or-drop, length-drop, length-map}
use Rattle.std.proofs.lemmas.Slice.Eq.{bytes_eq-Decides}

-- what the references point to
abbrev pub texts : List (Bor (List ℕ)) → List (List ℕ)
texts ts = map (λ t. t.now) ts

-- what is left from a place on
abbrev pub left : List (Bor (List ℕ)) → ℕ → List (Bor (List ℕ))
left ts n = take (length ts - n) (drop n ts)

-- the text at a place of what is left
abbrev pub text_at : List (Bor (List ℕ)) → ℕ → ℕ → List ℕ
text_at ts n i = (get_or (left ts n) i (record { ref_ptr = (0, 0); now = [] })).now

-- one token of what is left, and those after it
pub front : (ts : List (Bor (List ℕ))) (n i m : ℕ) → i < length (left ts n) → n + i ≡ m → drop m (texts ts) ≡ text_at ts n i ∷ drop (m + 1) (texts ts)
front ts n i m inside place =
    let d : Bor (List ℕ) = record { ref_ptr = (0, 0); now = [] } in
    let rest : left ts n ≡ drop n ts = take_rest ts n in
    let here : i < length (drop n ts) = omega (arith, inside, ap length rest) in
    let bound : m < length ts = omega (arith, here, place, length-drop n ts) in
    let same : get_or (left ts n) i d ≡ get_or ts m d = ap (λ xs. get_or xs i d) rest ∙ get_or-drop n ts i d ∙ ap (λ k. get_or ts k d) place in
    drop-map (λ t. t.now) m ts
    ∙ ap texts (drop_more ts m d bound)
    ∙ rw (← same, ← drop-map (λ t. t.now) (m + 1) ts) refl

-- two tokens
pub two : (ts : List (Bor (List ℕ))) (n : ℕ) → 2 ≤ length (left ts n) → drop n (texts ts) ≡ text_at ts n 0 ∷ text_at ts n 1 ∷ drop (n + 2) (texts ts)
two ts n h =
    let more : n + 1 + 1 ≡ n + 2 = omega arith in
    front ts n 0 n (omega (arith, h)) (omega arith)
    ∙ ap (λ xs. text_at ts n 0 ∷ xs) (front ts n 1 (n + 1) (omega (arith, h)) refl ∙ ap (λ m. text_at ts n 1 ∷ drop m (texts ts)) more)

-- four tokens
pub four : (ts : List (Bor (List ℕ))) (n : ℕ) → 4 ≤ length (left ts n) → drop n (texts ts) ≡ text_at ts n 0 ∷ text_at ts n 1 ∷ text_at ts n 2 ∷ text_at ts n 3 ∷ drop (n + 4) (texts ts)
four ts n h =
    two ts n (omega (arith, h))
    ∙ ap (λ xs. text_at ts n 0 ∷ text_at ts n 1 ∷ xs) (
    front ts n 2 (n + 2) (omega (arith, h)) refl
    ∙ ap (λ xs. text_at ts n 2 ∷ xs) (front ts n 3 (n + 2 + 1) (omega (arith, h)) (omega arith) ∙ ap (λ m. text_at ts n 3 ∷ drop m (texts ts)) (omega arith)))

-- tokens that are left stand in the whole
pub inside : (ts : List (Bor (List ℕ))) (n k : ℕ) → n ≤ length ts → k ≤ length (left ts n) → n + k ≤ length ts
inside ts n k le h = omega (arith, h, le, ap length (take_rest ts n), length-drop n ts)

-- few tokens
pub short : (ts : List (Bor (List ℕ))) (n k : ℕ) → length (left ts n) < k → length (drop n (texts ts)) < k
short ts n k h =
    let rest : left ts n ≡ drop n ts = take_rest ts n in
    let same : drop n (texts ts) ≡ texts (drop n ts) = drop-map (λ t. t.now) n ts in
    omega (arith, h, ap length rest, ap length same, length-map (drop n ts) (λ t. t.now))

-- texts that differ
pub different : (x y : List ℕ) → (x ≡ y → ⊥) → bytes_eq x y ≡ false
different x y h = false_from_ne_true (bytes_eq x y) (λ t. h ((bytes_eq-Decides x y).0 t))

-- the first token
pub first : (ts : List (Bor (List ℕ))) (n : ℕ) → 1 ≤ length (left ts n) → drop n (texts ts) ≡ text_at ts n 0 ∷ drop (n + 1) (texts ts)
first ts n h = front ts n 0 n h (omega arith)
