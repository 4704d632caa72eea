-- The sums over the leading exact places of a row: how they are made, and what a write leaves of them.
use Rattle.std.proofs.Common.{ℕ, zero, suc, ◌≡◌, ◌+◌, ◌-◌, ◌*◌, ◌<◌, ◌≤◌, List, [], ◌∷◌, ◌++◌, length, take, drop, drop_of_length-le, refl, sym, ap, subst, ◌∙◌, arith}
use Rattle.std.specs.Prelude.{All, slice_index_or, slice_set, replicate}
use Rattle.std.proofs.lemmas.List.{drop_more, append-nil, append_assoc, length-append, length-set, length-replicate, get_or_at}
use Rattle.std.proofs.lemmas.List.Elements.{All-head, All-tail, All-set, All-append, All-replicate}
use Rattle.objective.specs.Bounds.{Bounds, AreInRange}
use Rattle.objective.specs.Limits.{max_cutoff, max_runs}
use Rattle.objective.specs.declared.Sum.{Sum}
use Rattle.run_cache.specs.declared.known.Known.{Known}
use Rattle.run_cache.specs.declared.known.Known.TheVariants.{Nothing, Over, Exact, Abort}
use Rattle.run_cache.specs.Caches.{known_at, grown}
use Rattle.run_cache.specs.Fronts.{front_of, sums_from, sums_of, spent_over, max_cost, IsLow, IsSummable, IsBegun, IsSummed}

-- there is a sum of each place before the front
pub length-sums_from : (spent : ℕ) (row : List Known) → length (sums_from spent row) + 1 ≡ front_of row
length-sums_from spent [] = refl
length-sums_from spent (Exact cost ∷ row) = let rest = length-sums_from (spent + cost.0) row in omega (arith, rest)
length-sums_from spent (Nothing ∷ row) = refl
length-sums_from spent (Over time ∷ row) = refl
length-sums_from spent (Abort ∷ row) = refl

-- there are no more sums than places
pub sums_from-few : (spent : ℕ) (row : List Known) → length (sums_from spent row) ≤ length row
sums_from-few spent [] = omega arith
sums_from-few spent (Exact cost ∷ row) = let rest = sums_from-few (spent + cost.0) row in omega (arith, rest)
sums_from-few spent (Nothing ∷ row) = omega arith
sums_from-few spent (Over time ∷ row) = omega arith
sums_from-few spent (Abort ∷ row) = omega arith

-- what the first places cost, after so much was spent before
abbrev pub spent_from : ℕ → List Sum → ℕ → ℕ
spent_from spent sums zero = spent
spent_from spent [] (suc n) = spent
spent_from spent (sum ∷ sums) (suc n) = spent_from sum.0 sums n

-- the last of some first sums
pub spent_from-at : (spent : ℕ) (sums : List Sum) (before : ℕ) → before < length sums
    → spent_from spent sums (suc before) ≡ (slice_index_or sums before (record { 0 = 0 })).0
spent_from-at spent [] before inside = absurd (omega (arith, inside))
spent_from-at spent (sum ∷ sums) zero inside = refl
spent_from-at spent (sum ∷ sums) (suc before) inside = spent_from-at sum.0 sums before (omega (arith, inside))

-- the same from the start of a row
pub spent_from-over : (sums : List Sum) (n : ℕ) → n ≤ length sums → spent_from 0 sums n ≡ spent_over sums n
spent_from-over sums zero inside = refl
spent_from-over sums (suc before) inside = spent_from-at 0 sums before (omega (arith, inside))

-- ---- sums in the making

-- a further sum is the one that comes next
pub begun-more : (row : List Known) (sums : List Sum) (cost sum : Sum) → IsBegun row sums → length sums < length row
    → slice_index_or row (length sums) Nothing ≡ Exact cost → cost.0 ≤ max_cost → sum.0 ≡ spent_over sums (length sums) + cost.0
    → IsBegun row (sums ++ sum ∷ [])
begun-more row sums cost sum begun inside here low added =
    let n = length sums in
    let more : length (sums ++ sum ∷ []) ≡ suc n = length-append sums (sum ∷ []) ∙ (omega arith) in
    let next : n + 1 ≡ suc n = omega arith in
    let last : spent_over (sums ++ sum ∷ []) (suc n) ≡ sum.0 = ap (λ s. s.0) (get_or_at sums sum [] (record { 0 = 0 }) n refl) in
    let split : drop n row ≡ Exact cost ∷ drop (suc n) row = drop_more row n Nothing inside ∙ ap (λ k. k ∷ drop (n + 1) row) here ∙ ap (λ m. Exact cost ∷ drop m row) next in
    let at : sums_from (spent_over sums n) (drop n row) ≡ sum ∷ sums_from sum.0 (drop (suc n) row) =
    ap (sums_from (spent_over sums n)) split ∙ ap (λ s. record { 0 = s } ∷ sums_from s (drop (suc n) row)) (sym added) in
    record {
      rest = rw more (rw last (append_assoc sums (sum ∷ []) (sums_from sum.0 (drop (suc n) row)) ∙ ap (λ l. sums ++ l) (sym at) ∙ begun.rest));
      most = rw more (rw last (let most = begun.most in omega (arith, most, low, added)));
    }

-- where no sum comes next, all are made
pub begun-all : (row : List Known) (sums : List Sum) → IsBegun row sums → length row ≤ length sums → sums ≡ sums_of row
begun-all row sums begun past =
    let none : drop (length sums) row ≡ [] = drop_of_length-le row past in
    sym (append-nil sums) ∙ ap (λ rest. sums ++ sums_from (spent_over sums (length sums)) rest) (sym none) ∙ begun.rest

-- a place that isn't exact has no sum
abbrev pub IsInexact : Known → Type 0
IsInexact Nothing = Unit {0}
IsInexact (Over time) = Unit {0}
IsInexact (Exact cost) = ⊥
IsInexact Abort = Unit {0}

no_sums : (spent : ℕ) (known : Known) (row : List Known) → IsInexact known → sums_from spent (known ∷ row) ≡ []
no_sums spent Nothing row inexact = refl
no_sums spent (Over time) row inexact = refl
no_sums spent (Exact cost) row inexact = absurd inexact
no_sums spent Abort row inexact = refl

pub begun-ends : (row : List Known) (sums : List Sum) → IsBegun row sums → length sums < length row
    → IsInexact (slice_index_or row (length sums) Nothing) → sums ≡ sums_of row
begun-ends row sums begun inside inexact =
    let n = length sums in
    let none : sums_from (spent_over sums n) (drop n row) ≡ [] =
    ap (sums_from (spent_over sums n)) (drop_more row n Nothing inside)
    ∙ no_sums (spent_over sums n) (slice_index_or row n Nothing) (drop (n + 1) row) inexact in
    sym (append-nil sums) ∙ ap (λ rest. sums ++ rest) (sym none) ∙ begun.rest

-- ---- a place is written

-- the sums up to the place stay
kept-rest : (spent : ℕ) (row : List Known) (done : ℕ) (known : Known)
    → (take done (sums_from spent row)) ++ sums_from (spent_from spent (take done (sums_from spent row)) (length (take done (sums_from spent row))))
    (drop (length (take done (sums_from spent row))) (slice_set row done known)) ≡ sums_from spent (slice_set row done known)
kept-rest spent [] zero known = refl
kept-rest spent [] (suc done) known = refl
kept-rest spent (Exact cost ∷ row) zero known = refl
kept-rest spent (Exact cost ∷ row) (suc done) known = ap (λ l. record { 0 = spent + cost.0 } ∷ l) (kept-rest (spent + cost.0) row done known)
kept-rest spent (Nothing ∷ row) zero known = refl
kept-rest spent (Nothing ∷ row) (suc done) known = refl
kept-rest spent (Over time ∷ row) zero known = refl
kept-rest spent (Over time ∷ row) (suc done) known = refl
kept-rest spent (Abort ∷ row) zero known = refl
kept-rest spent (Abort ∷ row) (suc done) known = refl

-- each sum is within its range
kept-most : (spent : ℕ) (row : List Known) (done : ℕ) → All IsLow row
    → spent_from spent (take done (sums_from spent row)) (length (take done (sums_from spent row)))
    ≤ spent + length (take done (sums_from spent row)) * max_cost
kept-most spent [] zero low = omega arith
kept-most spent [] (suc done) low = omega arith
kept-most spent (Exact cost ∷ row) zero low = omega arith
kept-most spent (Exact cost ∷ row) (suc done) low =
    let here : cost.0 ≤ max_cost = All-head IsLow (Exact cost) row low in
    let rest = kept-most (spent + cost.0) row done (All-tail IsLow (Exact cost) row low) in
    omega (arith, here, rest)
kept-most spent (Nothing ∷ row) zero low = omega arith
kept-most spent (Nothing ∷ row) (suc done) low = omega arith
kept-most spent (Over time ∷ row) zero low = omega arith
kept-most spent (Over time ∷ row) (suc done) low = omega arith
kept-most spent (Abort ∷ row) zero low = omega arith
kept-most spent (Abort ∷ row) (suc done) low = omega arith

-- the sums before a place that was written are first sums of the row then
pub begun-set : (row new : List Known) (sums kept : List Sum) (done : ℕ) (known : Known) → All IsLow row → sums ≡ sums_of row
    → new ≡ slice_set row done known → kept ≡ take done sums → IsBegun new kept
begun-set row new sums kept done known low same written cut =
    let first = take done (sums_of row) in
    let all : first ≡ kept = sym (cut ∙ ap (take done) same) in
    let last = spent_from-over first (length first) (omega arith) in
    let most : spent_from 0 first (length first) ≤ length first * max_cost = let bound = kept-most 0 row done low in omega (arith, bound) in
    subst (λ r. IsBegun r kept) (sym written) (subst (IsBegun (slice_set row done known)) all (record {
      rest = subst (λ s. first ++ sums_from s (drop (length first) (slice_set row done known)) ≡ sums_of (slice_set row done known)) last (kept-rest 0 row done known);
      most = subst (λ s. s ≤ length first * max_cost) last most;
    }))

-- a row that may be summed is so after a low value was written
pub summable-set : (row new : List Known) (done : ℕ) (known : Known) → IsSummable row → IsLow known → new ≡ slice_set row done known → IsSummable new
summable-set row new done known h low written = subst IsSummable (sym written) (record {
  few = let same = length-set row done known in let few = h.few in omega (arith, same, few);
  low = All-set IsLow row done known low h.low;
})

-- ---- a row is read and grown

-- there are few sums
pub summed-few : (row : List Known) (sums : List Sum) (room : ℕ) → IsSummed row sums room → length (sums_of row) ≤ max_runs
summed-few row sums room h = let fewer = sums_from-few 0 row in let few = h.summable.few in omega (arith, fewer, few)

-- what is known at the front
pub front_known : (row : List Known) → known_at row (suc (length (sums_of row))) ≡ known_at row (front_of row)
front_known row =
    let same : suc (length (sums_of row)) ≡ front_of row = let all = length-sums_from 0 row in omega (arith, all) in
    ap (known_at row) same

-- places that were only made have no sums
sums_from-made : (spent n : ℕ) → sums_from spent (replicate n Nothing) ≡ []
sums_from-made spent zero = refl
sums_from-made spent (suc n) = refl

sums_from-grown : (spent : ℕ) (row : List Known) (n : ℕ) → sums_from spent (row ++ replicate n Nothing) ≡ sums_from spent row
sums_from-grown spent [] n = sums_from-made spent n
sums_from-grown spent (Exact cost ∷ row) n = ap (λ l. record { 0 = spent + cost.0 } ∷ l) (sums_from-grown (spent + cost.0) row n)
sums_from-grown spent (Nothing ∷ row) n = refl
sums_from-grown spent (Over time ∷ row) n = refl
sums_from-grown spent (Abort ∷ row) n = refl

-- a grown row with room for its sums
pub summed-grown : (row new : List Known) (sums made : List Sum) (before room place : ℕ) → IsSummed row sums before → place ≤ max_runs
    → length row < place → new ≡ grown place row → made ≡ sums → place ≤ room → IsSummed new made room
summed-grown row new sums made before room place h most longer same kept fits =
    let n = place - length row in
    let long : length (grown place row) ≡ place =
    let sum = length-append row (replicate n Nothing) in let more = length-replicate n Nothing in omega (arith, sum, more, longer) in
    subst (λ r. IsSummed r made room) (sym same) (record {
      summable = record {
        few = omega (arith, long, most);
        low = All-append IsLow row (replicate n Nothing) h.summable.low (All-replicate IsLow n Nothing tt);
      };
      are = kept ∙ h.are ∙ sym (sums_from-grown 0 row n);
      fits = omega (arith, long, fits);
    })
