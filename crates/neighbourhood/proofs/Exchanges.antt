-- What the loops over values and parameters have found so far.
use Rattle.std.proofs.Common.{◌≡◌, ◌≢◌, ◌+◌, ◌++◌, ◌∙◌, ℕ, zero, suc, Bool, true, false, not, cond, List, [], ◌∷◌, map, refl, ap, arith, add-one, add-zero}
use Rattle.std.specs.Prelude.{◌==◌, slice_index}
use Rattle.std.specs.List.{filter, flat_map, range_with_len}
use Rattle.std.proofs.lemmas.Bool.Decides.{nat_tests}
use Rattle.std.proofs.lemmas.Grind.{flat_map-append}
use Rattle.std.proofs.lemmas.List.{map-append, append-nil}
use Rattle.std.proofs.lemmas.List.Elements.{filter-append}
use Rattle.param_space.specs.Space.{Lists}
use Rattle.param_space.specs.Configurations.{is_active, is_allowed}
use Rattle.neighbourhood.specs.Neighbours.{exchange_of, exchanges}

range_more : (a n : ℕ) → range_with_len a (suc n) ≡ range_with_len a n ++ (a + n) ∷ []
range_more a zero = rw add-zero refl
range_more a (suc n) =
    let same : (a + 1) + n ≡ a + suc n = omega arith in
    ap (λ rest. a ∷ rest) (range_more (a + 1) n ∙ ap (λ k. range_with_len (a + 1) n ++ k ∷ []) same)

-- the numbers below n + 1
up_to : (n : ℕ) → range_with_len 0 (n + 1) ≡ range_with_len 0 n ++ n ∷ []
up_to n =
    let same : 0 + n ≡ n = omega arith in
    rw add-one (range_more 0 n ∙ ap (λ k. range_with_len 0 n ++ k ∷ []) same)

-- the allowed exchanges of the parameter p to values below n
abbrev pub by_value : Lists → List ℕ → ℕ → ℕ → List (List ℕ)
by_value lists θ p n = filter (is_allowed lists) (map (exchange_of lists θ p) (filter (λ v. not (v == slice_index θ p)) (range_with_len 0 n)))

-- what the value n adds
by_value-step : (lists : Lists) (θ : List ℕ) (p n : ℕ) (b : Bool) → not (n == slice_index θ p) ≡ b
    → by_value lists θ p (n + 1) ≡ by_value lists θ p n ++ filter (is_allowed lists) (map (exchange_of lists θ p) (cond b (n ∷ []) []))
by_value-step lists θ p n b is =
    let other : ℕ → Bool = λ v. not (v == slice_index θ p) in
    let more = ap (filter other) (up_to n) ∙ filter-append other (range_with_len 0 n) (n ∷ []) ∙ ap (λ t. filter other (range_with_len 0 n) ++ cond t (n ∷ []) []) is in
    let mapped = ap (map (exchange_of lists θ p)) more ∙ map-append (exchange_of lists θ p) (filter other (range_with_len 0 n)) (cond b (n ∷ []) []) in
    ap (filter (is_allowed lists)) mapped ∙ filter-append (is_allowed lists) (map (exchange_of lists θ p) (filter other (range_with_len 0 n))) (map (exchange_of lists θ p) (cond b (n ∷ []) []))

pub by_value-other : (lists : Lists) (θ : List ℕ) (p n : ℕ) → n ≢ slice_index θ p
    → by_value lists θ p (n + 1) ≡ by_value lists θ p n ++ filter (is_allowed lists) (exchange_of lists θ p n ∷ [])
by_value-other lists θ p n other = by_value-step lists θ p n true (grind (arith, nat_tests))

pub by_value-present : (lists : Lists) (θ : List ℕ) (p n : ℕ) → n ≡ slice_index θ p → by_value lists θ p (n + 1) ≡ by_value lists θ p n
by_value-present lists θ p n same = by_value-step lists θ p n false (grind (arith, nat_tests)) ∙ append-nil (by_value lists θ p n)

-- the allowed exchanges of the active parameters below n
abbrev pub by_param : Lists → List ℕ → ℕ → List (List ℕ)
by_param lists θ n = filter (is_allowed lists) (flat_map (exchanges lists θ) (filter (is_active lists θ) (range_with_len 0 n)))

-- what the parameter n adds
by_param-step : (lists : Lists) (θ : List ℕ) (n : ℕ) (b : Bool) → is_active lists θ n ≡ b
    → by_param lists θ (n + 1) ≡ by_param lists θ n ++ filter (is_allowed lists) (flat_map (exchanges lists θ) (cond b (n ∷ []) []))
by_param-step lists θ n b is =
    let more = ap (filter (is_active lists θ)) (up_to n) ∙ filter-append (is_active lists θ) (range_with_len 0 n) (n ∷ []) ∙ ap (λ t. filter (is_active lists θ) (range_with_len 0 n) ++ cond t (n ∷ []) []) is in
    let joined = ap (flat_map (exchanges lists θ)) more ∙ flat_map-append (exchanges lists θ) (filter (is_active lists θ) (range_with_len 0 n)) (cond b (n ∷ []) []) in
    ap (filter (is_allowed lists)) joined ∙ filter-append (is_allowed lists) (flat_map (exchanges lists θ) (filter (is_active lists θ) (range_with_len 0 n))) (flat_map (exchanges lists θ) (cond b (n ∷ []) []))

pub by_param-active : (lists : Lists) (θ : List ℕ) (n : ℕ) → is_active lists θ n ≡ true
    → by_param lists θ (n + 1) ≡ by_param lists θ n ++ filter (is_allowed lists) (exchanges lists θ n)
by_param-active lists θ n active =
    by_param-step lists θ n true active ∙ ap (λ xs. by_param lists θ n ++ filter (is_allowed lists) xs) (append-nil (exchanges lists θ n))

pub by_param-inactive : (lists : Lists) (θ : List ℕ) (n : ℕ) → is_active lists θ n ≡ false → by_param lists θ (n + 1) ≡ by_param lists θ n
by_param-inactive lists θ n inactive = by_param-step lists θ n false inactive ∙ append-nil (by_param lists θ n)
