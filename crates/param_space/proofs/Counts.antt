-- How many of the numbers below a bound pass a test.
use Rattle.std.proofs.Common.{ℕ, zero, suc, ◌+◌, ◌≡◌, ◌<◌, ◌≤◌, ◌⊎◌, inl, inr, eq-or-lt_of_le, Bool, true, false, cond, refl, sym, ap, ◌∙◌, subst, arith, add-one}
use Rattle.std.proofs.lemmas.Bool.{cases_lt}
use Rattle.param_space.specs.Ancestors.{count}

-- wherever the first test passes, the second does
abbrev pub IsWithin : (ℕ → Bool) → (ℕ → Bool) → Type 0
IsWithin f g = (a : ℕ) → f a ≡ true → g a ≡ true

-- 1 where a test passes
abbrev one : Bool → ℕ
one b = cond b 1 0

one_within : (a b : Bool) → (a ≡ true → b ≡ true) → one a ≤ one b
one_within true true h = omega arith
one_within true false h = absurd (let e : false ≡ true = h refl in cc)
one_within false b h = omega arith

one_small : (a : Bool) → one a ≤ 1
one_small true = omega arith
one_small false = omega arith

one_passes : (b : Bool) → 1 ≤ one b → b ≡ true
one_passes true h = refl
one_passes false h = absurd (omega (arith, h))

one_of : (b : Bool) → b ≡ true → one b ≡ 1
one_of true h = refl
one_of false h = absurd (cc)

pub count-le : (f : ℕ → Bool) (n : ℕ) → count f n ≤ n
unfolding count
count-le f zero = omega arith
count-le f (suc n) = omega (arith, count-le f n, one_small (f n))

-- no more numbers pass than where the second test is taken
pub count-within : (f g : ℕ → Bool) (n : ℕ) → IsWithin f g → count f n ≤ count g n
unfolding count
count-within f g zero h = omega arith
count-within f g (suc n) h = omega (arith, count-within f g n h, one_within (f n) (g n) (h n))

-- where no fewer pass, the same ones do
pub count-same : (f g : ℕ → Bool) (n a : ℕ) → IsWithin f g → count g n ≤ count f n → a < n → g a ≡ true → f a ≡ true
unfolding count
count-same f g zero a h le lt passes = absurd (omega arith)
count-same f g (suc n) a h le lt passes =
    let fewer = count-within f g n h in
    let last = one_within (f n) (g n) (h n) in
    at_place (eq-or-lt_of_le (omega (arith, lt)))
    (omega (arith, le, fewer, last, one_small (f n)))
    (λ less. count-same f g n a h (omega (arith, le, fewer, last)) less passes)
  where
    at_place : (a ≡ n) ⊎ (a < n) → one (g n) ≤ one (f n) → (a < n → f a ≡ true) → f a ≡ true
    at_place (inl e) here below =
        let last : g n ≡ true = subst (λ k. g k ≡ true) e passes in
        subst (λ k. f k ≡ true) (sym e) (one_passes (f n) (omega (arith, here, one_of (g n) last)))
    at_place (inr less) here below = below less

-- fewer numbers pass where one doesn't that passes the second test
pub count-less : (f g : ℕ → Bool) (n a : ℕ) → IsWithin f g → a < n → g a ≡ true → f a ≡ false → count f n < count g n
count-less f g n a h lt passes fails = by (cases_lt (count f n) (count g n))
  where
    by : (count f n < count g n) ⊎ (count g n ≤ count f n) → count f n < count g n
    by (inl less) = less
    by (inr le) = absurd (let same : f a ≡ true = count-same f g n a h le lt passes in cc)

-- where all numbers that pass are below m, there are no more of them
pub count-bounded : (f : ℕ → Bool) (n m : ℕ) → ((a : ℕ) → f a ≡ true → a < m) → count f n ≤ m
unfolding count
count-bounded f zero m h = omega arith
count-bounded f (suc n) m h = by (cases_lt n m) (count-bounded f n m h)
  where
    none : (b : Bool) → (b ≡ true → n < m) → m ≤ n → one b ≡ 0
    none true k le = absurd (omega (arith, k refl, le))
    none false k le = refl

    by : (n < m) ⊎ (m ≤ n) → count f n ≤ m → count f n + one (f n) ≤ m
    by (inl less) earlier = omega (arith, count-le f n, one_small (f n), less)
    by (inr le) earlier = omega (arith, earlier, none (f n) (h n) le)

-- one more number is counted where it passes
pub count_one : (f : ℕ → Bool) (n : ℕ) → f n ≡ true → count f (n + 1) ≡ count f n + 1
unfolding count
count_one f n h = ap (count f) (add-one n) ∙ ap (λ b. count f n + cond b 1 0) h

pub count_none : (f : ℕ → Bool) (n : ℕ) → f n ≡ false → count f (n + 1) ≡ count f n
unfolding count
count_none f n h = ap (count f) (add-one n) ∙ ap (λ b. count f n + cond b 1 0) h ∙ (let e : count f n + 0 ≡ count f n = omega arith in e)

pub count_start : (f : ℕ → Bool) → count f 0 ≡ 0
unfolding count
count_start f = refl

-- tests that agree below n count the same
pub count_alike : (f g : ℕ → Bool) (n : ℕ) → ((a : ℕ) → a < n → f a ≡ g a) → count f n ≡ count g n
unfolding count
count_alike f g zero h = refl
count_alike f g (suc n) h = ap (λ k. k + cond (f n) 1 0) (count_alike f g n (λ a lt. h a (omega (arith, lt)))) ∙ ap (λ b. count g n + cond b 1 0) (h n (omega arith))
