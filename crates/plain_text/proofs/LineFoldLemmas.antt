-- What a loop over numbered lines knows of the whole reading, and faults that move from one reading to another.
use Rattle.std.specs.Prelude.{ℕ, ◌≡◌, cond, List, [], ◌∷◌, Option, Some, None, Result, Ok, Err}
use Rattle.std.specs.Str.{IsUtf8, is_utf8}
use Rattle.std.proofs.Common.{ap, sym, ◌∙◌}
use Rattle.std.proofs.lemmas.Bool.{false_from_ne_true}
use Rattle.std.proofs.lemmas.Str.{IsUtf8-from_is_utf8, is_utf8-from_IsUtf8}
use Rattle.plain_text.specs.Faults.{LineFault, in_line, IsFound}
use Rattle.plain_text.specs.LineFolds.{fold_lines}
use Rattle.plain_text.specs.Results.{◌>>=◌}

-- ---- faults

-- a fault that is found in one reading is found in another
pub fault_moves : {A B F : Type 0} (o : Option F) (r : Result A F) (q : Result B F) → ((f : F) → r ≡ Err f → q ≡ Err f) → IsFound o r → IsFound o q
fault_moves None r q moves h = tt
fault_moves (Some f) r q moves h = moves f h

-- a fault of the first of two readings
pub fault-first : {A B F : Type 0} (o : Option F) (r : Result A F) (q : A → Result B F) → IsFound o r → IsFound o (r >>= q)
fault-first o r q h = fault_moves o r (r >>= q) (λ f e. ap (λ x. x >>= q) e) h

-- a fault of the second of two readings
pub fault-second : {A B F : Type 0} (o : Option F) (r : Result A F) (q : A → Result B F) (x : A) → r ≡ Ok x → IsFound o (q x) → IsFound o (r >>= q)
fault-second o r q x e h = fault_moves o (q x) (r >>= q) (λ f is. ap (λ y. y >>= q) e ∙ is) h

-- a fault that is found in a reading is found in an equal one
pub fault-same : {A F : Type 0} (o : Option F) (r q : Result A F) → r ≡ q → IsFound o r → IsFound o q
fault-same o r q e h = fault_moves o r q (λ f is. sym e ∙ is) h

-- a fault of the first of two readings of a line
pub in_line-first : {A B What : Type 0} (o : Option (LineFault What)) (line : ℕ) (r : Result A What) (q : A → Result B What) → IsFound o (in_line line r) → IsFound o (in_line line (r >>= q))
in_line-first o line (Ok x) q h = fault_moves o (Ok x) (in_line line (q x)) (λ f e. absurd (cc)) h
in_line-first o line (Err what) q h = fault_moves o (Err (record { line = line; what = what })) (Err (record { line = line; what = what })) (λ f e. same_err (record { line = line; what = what }) f e) h
  where
    same_err : {A B F : Type 0} (x y : F) → ◌≡◌ {A = Result A F} (Err x) (Err y) → ◌≡◌ {A = Result B F} (Err x) (Err y)
    same_err x y e = let same : x ≡ y = cc in ap Err same

-- a fault of the second of two readings of a line
pub in_line-second : {A B What : Type 0} (o : Option (LineFault What)) (line : ℕ) (r : Result A What) (q : A → Result B What) (x : A) → r ≡ Ok x → IsFound o (in_line line (q x)) → IsFound o (in_line line (r >>= q))
in_line-second o line r q x e h = fault-same o (in_line line (q x)) (in_line line (r >>= q)) (sym (ap (λ y. in_line line (y >>= q)) e)) h

-- ---- lines one after another

module _ {A What : Type 0} (step : A → ℕ → List ℕ → Result A What) where
  -- nothing is read yet
  pub fold-none : (start a : A) (all left : List (ℕ × List ℕ)) → a ≡ start → left ≡ all → fold_lines step start all ≡ fold_lines step a left
  fold-none start a all left value lines = λ i. fold_lines step (sym value i) (sym lines i)

  -- all lines are read
  pub fold-all : (whole : Result A (LineFault What)) (a : A) (left : List (ℕ × List ℕ)) → whole ≡ fold_lines step a left → left ≡ [] → whole ≡ Ok a
  unfolding fold_lines
  fold-all whole a left so none = so ∙ ap (fold_lines step a) none

  -- one more line is read
  pub fold-more : (whole : Result A (LineFault What)) (a b : A) (number : ℕ) (line : List ℕ) (left rest : List (ℕ × List ℕ)) → whole ≡ fold_lines step a left → left ≡ (number, line) ∷ rest → step a number line ≡ Ok b
      → whole ≡ fold_lines step b rest
  unfolding fold_lines
  fold-more whole a b number line left rest so first is = so ∙ ap (fold_lines step a) first ∙ ap (λ r. in_line number r >>= λ c. fold_lines step c rest) is

  -- a line has a fault
  pub fold-stops : (o : Option (LineFault What)) (whole : Result A (LineFault What)) (a : A) (number : ℕ) (line : List ℕ) (left rest : List (ℕ × List ℕ)) → whole ≡ fold_lines step a left → left ≡ (number, line) ∷ rest
      → IsFound o (in_line number (step a number line)) → IsFound o whole
  unfolding fold_lines
  fold-stops o whole a number line left rest so first h =
      fault_moves o (in_line number (step a number line)) whole (λ f is. so ∙ ap (fold_lines step a) first ∙ ap (λ r. r >>= λ c. fold_lines step c rest) is) h

-- ---- bytes that are a text, or none

-- where bytes are a text
pub utf8-then : {A : Type 0} (bytes : List ℕ) (x y : A) → IsUtf8 bytes → cond (is_utf8 bytes) x y ≡ x
utf8-then bytes x y h = ap (λ b. cond b x y) (is_utf8-from_IsUtf8 bytes h)

-- where bytes are no text
pub utf8-else : {A : Type 0} (bytes : List ℕ) (x y : A) → (IsUtf8 bytes → ⊥) → cond (is_utf8 bytes) x y ≡ y
utf8-else bytes x y h = ap (λ b. cond b x y) (false_from_ne_true (is_utf8 bytes) (λ t. h (IsUtf8-from_is_utf8 bytes t)))
