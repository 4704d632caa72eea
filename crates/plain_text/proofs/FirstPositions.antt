-- Bytes that all pass a test, and what stands before and after the first that does.
use Rattle.std.proofs.Common.{ℕ, ◌≡◌, ◌+◌, Bool, true, not, List, [], ◌∷◌, ◌++◌, length, refl, sym, arith, append_assoc, length-append}
use Rattle.std.specs.List.{list_all, position_or_len, before_first, after_first}
use Rattle.std.proofs.lemmas.Bool.{and_parts, and_from, not-true}
use Rattle.std.proofs.lemmas.List.{take_all}
use Rattle.std.proofs.lemmas.List.Prefix.{front_rest}
use Rattle.std.proofs.Math.Seq.{take-append_seam}

-- a test that all elements pass
pub list_all-weaker : (p q : ℕ → Bool) → ((b : ℕ) → p b ≡ true → q b ≡ true) → (xs : List ℕ) → list_all p xs ≡ true → list_all q xs ≡ true
list_all-weaker p q so [] h = refl
list_all-weaker p q so (x ∷ xs) h =
    let both = and_parts (p x) (list_all p xs) h in
    and_from (q x) (list_all q xs) (so x both.0) (list_all-weaker p q so xs both.1)

-- two lists of them
pub list_all-joined : (p : ℕ → Bool) (xs ys : List ℕ) → list_all p xs ≡ true → list_all p ys ≡ true → list_all p (xs ++ ys) ≡ true
list_all-joined p [] ys h k = k
list_all-joined p (x ∷ xs) ys h k =
    let both = and_parts (p x) (list_all p xs) h in
    and_from (p x) (list_all p (xs ++ ys)) both.0 (list_all-joined p xs ys both.1 k)

-- where none passes
pub position_none : (p : ℕ → Bool) (xs : List ℕ) → list_all (λ b. not (p b)) xs ≡ true → position_or_len p xs ≡ length xs
position_none p [] h = refl
position_none p (x ∷ xs) h =
    let both = and_parts (not (p x)) (list_all (λ b. not (p b)) xs) h in
    rw (not-true (p x) both.0) (omega (arith, position_none p xs both.1))

-- the first that passes
position_first : (p : ℕ → Bool) (xs : List ℕ) (c : ℕ) (ys : List ℕ) → list_all (λ b. not (p b)) xs ≡ true → p c ≡ true → position_or_len p (xs ++ c ∷ ys) ≡ length xs
position_first p [] c ys h e = rw e refl
position_first p (x ∷ xs) c ys h e =
    let both = and_parts (not (p x)) (list_all (λ b. not (p b)) xs) h in
    rw (not-true (p x) both.0) (omega (arith, position_first p xs c ys both.1 e))

-- what stands before and after it
pub before_first-found : (p : ℕ → Bool) (xs : List ℕ) (c : ℕ) (ys : List ℕ) → list_all (λ b. not (p b)) xs ≡ true → p c ≡ true → before_first p (xs ++ c ∷ ys) ≡ xs
before_first-found p xs c ys h e = rw (position_first p xs c ys h e) (take-append_seam xs (c ∷ ys))

pub after_first-found : (p : ℕ → Bool) (xs : List ℕ) (c : ℕ) (ys : List ℕ) → list_all (λ b. not (p b)) xs ≡ true → p c ≡ true → after_first p (xs ++ c ∷ ys) ≡ ys
after_first-found p xs c ys h e =
    let longer : length (xs ++ c ∷ []) ≡ length xs + 1 = omega (arith, length-append xs (c ∷ [])) in
    rw (position_first p xs c ys h e, ← longer) (front_rest (xs ++ c ∷ ys) (xs ++ c ∷ []) ys (sym (append_assoc xs (c ∷ []) ys)))

-- all of a list in which none passes
pub before_first-none : (p : ℕ → Bool) (xs : List ℕ) → list_all (λ b. not (p b)) xs ≡ true → before_first p xs ≡ xs
before_first-none p xs h = rw (position_none p xs h) (take_all (length xs) xs (omega arith))
