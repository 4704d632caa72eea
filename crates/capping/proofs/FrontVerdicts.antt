-- What is read off of a row at its front is what a walk over its places comes to.
use Rattle.std.specs.Prelude.{ℕ, zero, suc, ◌+◌, ◌<◌, ◌≤◌, ◌≡◌, ◌⊎◌, Bool, true, false, List, [], ◌∷◌, length, Option, Some, None, nat_le, nat_lt, slice_index_or, refl, if◌then◌else◌}
use Rattle.std.proofs.Common.{sym, ap, ◌∙◌, subst, arith}
use Rattle.std.proofs.lemmas.Bool.{leb-true, leb-false, ltb-true, lt-ltb}
use Rattle.objective.specs.Bounds.{Bounds}
use Rattle.objective.specs.declared.Sum.{Sum}
use Rattle.ils_face.specs.declared.asks.Reply.TheVariants as reply
use Rattle.run_cache.specs.declared.known.Known.{Known}
use Rattle.run_cache.specs.declared.known.Known.TheVariants.{Nothing, Over, Exact, Abort}
use Rattle.run_cache.specs.Caches.{known_at}
use Rattle.run_cache.specs.Fronts.{front_of, sums_from, sums_of, spent_over}
use Rattle.run_cache.proofs.RowSums.{spent_from, spent_from-over, front_known}
use Rattle.capping.specs.declared.verdicts.Verdict.{Verdict}
use Rattle.capping.specs.declared.verdicts.Verdict.TheVariants.{Reply}
use Rattle.capping.specs.Verdicts.{is_past, need, verdict_at, verdict_from, verdict_on_sum, verdict_next, verdict_at_front}

-- what is past the bound stays so with more
past-more : (bound : Option ℕ) (low high : ℕ) → low ≤ high → is_past bound low ≡ true → is_past bound high ≡ true
past-more None low high rise past = past
past-more (Some bound) low high rise past = lt-ltb bound high (let less = ltb-true bound low past in omega (arith, less, rise))

-- what a row knows at its first place that isn't exact
abbrev at_front : List Known → Known
at_front [] = Nothing
at_front (Exact cost ∷ row) = at_front row
at_front (Nothing ∷ row) = Nothing
at_front (Over time ∷ row) = Over time
at_front (Abort ∷ row) = Abort

at_front-is : (spent : ℕ) (row : List Known) → at_front row ≡ slice_index_or row (length (sums_from spent row)) Nothing
at_front-is spent [] = refl
at_front-is spent (Exact cost ∷ row) = at_front-is (spent + cost.0) row
at_front-is spent (Nothing ∷ row) = refl
at_front-is spent (Over time ∷ row) = refl
at_front-is spent (Abort ∷ row) = refl

module _ (limits : Bounds) (bound : Option ℕ) where
  -- a walk over so many places by the sums up to each of them, and what is known at the place after these
  abbrev walk_sums : ℕ → ℕ → ℕ → List Sum → Known → Verdict
  walk_sums zero place spent sums known = verdict_on_sum bound spent
  walk_sums (suc left) place spent [] known = verdict_next limits bound place spent known
  walk_sums (suc left) place spent (sum ∷ sums) known = walk_sums left (suc place) sum.0 sums known

  -- it ends at the sum over the last place
  at_sum : (left place spent : ℕ) (sums : List Sum) (known : Known) → left ≤ length sums
      → walk_sums left place spent sums known ≡ verdict_on_sum bound (spent_from spent sums left)
  at_sum zero place spent sums known inside = refl
  at_sum (suc left) place spent [] known inside = absurd (omega (arith, inside))
  at_sum (suc left) place spent (sum ∷ sums) known inside = at_sum left (suc place) sum.0 sums known (omega (arith, inside))

  -- or after all sums
  after_sums : (left place spent : ℕ) (sums : List Sum) (known : Known) → length sums < left
      → walk_sums left place spent sums known ≡ verdict_next limits bound (place + length sums) (spent_from spent sums (length sums)) known
  after_sums zero place spent sums known past = absurd (omega (arith, past))
  after_sums (suc left) place spent [] known past =
      let here : place ≡ place + 0 = omega arith in
      ap (λ p. verdict_next limits bound p spent known) here
  after_sums (suc left) place spent (sum ∷ sums) known past =
      let there : suc place + length sums ≡ place + suc (length sums) = omega arith in
      after_sums left (suc place) sum.0 sums known (omega (arith, past))
      ∙ ap (λ p. verdict_next limits bound p (spent_from sum.0 sums (length sums)) known) there

  -- sums grow, so one past the bound tells
  past_sums : (left place spent : ℕ) (row : List Known) (known : Known) → is_past bound spent ≡ true
      → walk_sums left place spent (sums_from spent row) known ≡ Reply reply.Exceeds
  past_sums zero place spent row known past = rw past refl
  past_sums (suc left) place spent [] known past = rw past refl
  past_sums (suc left) place spent (Exact cost ∷ row) known past =
      past_sums left (suc place) (spent + cost.0) row known (past-more bound spent (spent + cost.0) (omega arith) past)
  past_sums (suc left) place spent (Nothing ∷ row) known past = rw past refl
  past_sums (suc left) place spent (Over time ∷ row) known past = rw past refl
  past_sums (suc left) place spent (Abort ∷ row) known past = rw past refl

  -- at a place whose cost isn't known
  next : (known : ℕ → Known) (left place spent : ℕ) (k : Known) → known (place + 0) ≡ k
      → verdict_at limits bound place spent (verdict_from limits known bound left (suc place)) k
      ≡ verdict_at limits bound place spent (λ sum. need limits bound place spent) k
      → verdict_from limits known bound (suc left) place spent ≡ verdict_next limits bound place spent k
  next known left place spent k here same =
      let at : place ≡ place + 0 = omega arith in
      ap (λ q. if is_past bound spent then Reply reply.Exceeds else verdict_at limits bound place spent (verdict_from limits known bound left (suc place)) q) (ap known at ∙ here)
      ∙ ap (λ v. if is_past bound spent then Reply reply.Exceeds else v) same

  -- the walk over a row's places by the sums that it keeps
  walk : (known : ℕ → Known) (row : List Known) (left place spent : ℕ) → ((i : ℕ) → known (place + i) ≡ slice_index_or row i Nothing)
      → verdict_from limits known bound left place spent ≡ walk_sums left place spent (sums_from spent row) (at_front row)
  walk known row zero place spent h = refl
  walk known [] (suc left) place spent h = next known left place spent Nothing (h 0) refl
  walk known (Exact cost ∷ row) (suc left) place spent h = by (is_past bound spent) refl (walk known row left (suc place) (spent + cost.0) rest)
    where
      rest : (i : ℕ) → known (suc place + i) ≡ slice_index_or row i Nothing
      rest i = let there : suc place + i ≡ place + suc i = omega arith in ap known there ∙ h (suc i)

      here : known place ≡ Exact cost
      here = let at : place ≡ place + 0 = omega arith in ap known at ∙ h 0

      by : (b : Bool) → is_past bound spent ≡ b
          → verdict_from limits known bound left (suc place) (spent + cost.0)
          ≡ walk_sums left (suc place) (spent + cost.0) (sums_from (spent + cost.0) row) (at_front row)
          → (if b then Reply reply.Exceeds else verdict_at limits bound place spent (verdict_from limits known bound left (suc place)) (known place))
          ≡ walk_sums left (suc place) (spent + cost.0) (sums_from (spent + cost.0) row) (at_front row)
      by true past later = sym (past_sums left (suc place) (spent + cost.0) row (at_front row) (past-more bound spent (spent + cost.0) (omega arith) past))
      by false low later =
          ap (verdict_at limits bound place spent (verdict_from limits known bound left (suc place))) here
          ∙ later
  walk known (Nothing ∷ row) (suc left) place spent h = next known left place spent Nothing (h 0) refl
  walk known (Over time ∷ row) (suc left) place spent h = next known left place spent (Over time) (h 0) refl
  walk known (Abort ∷ row) (suc left) place spent h = next known left place spent Abort (h 0) refl

  -- what is read off at the front of a row is what the walk over its places comes to
  pub front_verdict : (row : List Known) (n : ℕ)
      → verdict_at_front limits bound n (sums_of row) (known_at row (front_of row)) ≡ verdict_from limits (known_at row) bound n 1 0
  front_verdict row n = by (nat_le n (length (sums_of row))) refl ∙ sym whole
    where
      front : at_front row ≡ known_at row (front_of row)
      front = at_front-is 0 row ∙ front_known row

      whole : verdict_from limits (known_at row) bound n 1 0 ≡ walk_sums n 1 0 (sums_of row) (known_at row (front_of row))
      whole =
          walk (known_at row) row n 1 0 (λ i. let at : 1 + i ≡ suc i = omega arith in ap (known_at row) at)
          ∙ ap (walk_sums n 1 0 (sums_of row)) front

      by : (b : Bool) → nat_le n (length (sums_of row)) ≡ b
          → (if b then verdict_on_sum bound (spent_over (sums_of row) n)
          else verdict_next limits bound (suc (length (sums_of row))) (spent_over (sums_of row) (length (sums_of row))) (known_at row (front_of row)))
          ≡ walk_sums n 1 0 (sums_of row) (known_at row (front_of row))
      by true within =
          let inside = leb-true n (length (sums_of row)) within in
          ap (verdict_on_sum bound) (sym (spent_from-over (sums_of row) n inside))
          ∙ sym (at_sum n 1 0 (sums_of row) (known_at row (front_of row)) inside)
      by false past =
          let count = length (sums_of row) in
          let next : suc count ≡ 1 + count = omega arith in
          ap (λ p. verdict_next limits bound p (spent_over (sums_of row) count) (known_at row (front_of row))) next
          ∙ ap (λ s. verdict_next limits bound (1 + count) s (known_at row (front_of row))) (sym (spent_from-over (sums_of row) count (omega arith)))
          ∙ sym (after_sums n 1 0 (sums_of row) (known_at row (front_of row)) (leb-false n count past))
