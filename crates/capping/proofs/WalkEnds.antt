-- How a walk over the places of an ask ends, and what is known there.
use Rattle.std.specs.Prelude.{ℕ, zero, suc, ◌+◌, ◌<◌, ◌≤◌, ◌≡◌, ◌⊎◌, Bool, true, false, Option, Some, refl, if◌then◌else◌}
use Rattle.std.proofs.Common.{sym, ap, ◌∙◌, inl, inr, arith}
use Rattle.objective.specs.Bounds.{Bounds}
use Rattle.objective.specs.declared.Micros.{Micros}
use Rattle.ils_face.specs.declared.asks.Reply.TheVariants as reply
use Rattle.run_cache.specs.declared.known.Known.{Known}
use Rattle.run_cache.specs.declared.known.Known.TheVariants.{Nothing, Over, Exact, Abort}
use Rattle.capping.specs.declared.verdicts.Verdict.{Verdict}
use Rattle.capping.specs.declared.verdicts.Verdict.TheVariants.{Reply, Need, Aborted, Ended}
use Rattle.capping.specs.Verdicts.{is_past, leads_past, cutoff_left, verdict_at, verdict_from}
use Rattle.capping.specs.ExactSums.{exact_cost, exact_sum}
use Rattle.capping.proofs.ExactSums.{exact_sum-more}

-- the costs at the first places are known, and their sum isn't past the bound
pub record IsPassed (known : ℕ → Known) (bound : Option ℕ) (done spent : ℕ) : Type 0 where
  pub sum : exact_sum known done ≡ Some spent
  pub low : is_past bound spent ≡ false

-- the costs at the first places are known, and their sum is past the bound
pub record IsPast (known : ℕ → Known) (bound : Option ℕ) (n : ℕ) : Type 0 where
  pub done : ℕ
  pub spent : ℕ
  pub within : done ≤ n
  pub sum : exact_sum known done ≡ Some spent
  pub past : is_past bound spent ≡ true

-- the first places are passed, and the cost at the next one leads past the bound
pub record IsLedPast (known : ℕ → Known) (bound : Option ℕ) (n : ℕ) : Type 0 where
  pub done : ℕ
  pub spent : ℕ
  pub time : Micros
  pub inside : done < n
  pub passed : IsPassed known bound done spent
  pub over : known (suc done) ≡ Over time
  pub past : leads_past bound spent time.0 ≡ true

-- what is known of a place decides nothing
abbrev pub IsUndecided : Option ℕ → ℕ → Known → Type 0
IsUndecided bound spent Nothing = Unit {0}
IsUndecided bound spent (Over time) = leads_past bound spent time.0 ≡ false
IsUndecided bound spent (Exact cost) = ⊥
IsUndecided bound spent Abort = ⊥

-- the first places are passed, and a run is needed at the next one
pub record IsOpen (limits : Bounds) (known : ℕ → Known) (bound : Option ℕ) (n place : ℕ) (cutoff : Micros) : Type 0 where
  pub done : ℕ
  pub spent : ℕ
  pub inside : done < n
  pub passed : IsPassed known bound done spent
  pub undecided : IsUndecided bound spent (known (suc done))
  pub place_is : place ≡ suc done
  pub cutoff_is : cutoff.0 ≡ cutoff_left limits bound spent

-- the first places are passed, and the run at the next one aborts
pub record IsAborting (known : ℕ → Known) (bound : Option ℕ) (n place : ℕ) : Type 0 where
  pub done : ℕ
  pub spent : ℕ
  pub inside : done < n
  pub passed : IsPassed known bound done spent
  pub abort : known (suc done) ≡ Abort
  pub place_is : place ≡ suc done

-- what is known where a walk ends with a verdict
abbrev pub IsEnd : Bounds → (ℕ → Known) → Option ℕ → ℕ → Verdict → Type 0
IsEnd limits known bound n (Reply (reply.Exact sum)) = IsPassed known bound n sum.0
IsEnd limits known bound n (Reply reply.Exceeds) = IsPast known bound n ⊎ IsLedPast known bound n
IsEnd limits known bound n (Need place cutoff) = IsOpen limits known bound n place cutoff
IsEnd limits known bound n (Aborted place) = IsAborting known bound n place
IsEnd limits known bound n Ended = ⊥

module _ (limits : Bounds) (known : ℕ → Known) (bound : Option ℕ) (n : ℕ) where
  at_last : (spent : ℕ) → exact_sum known n ≡ Some spent → (b : Bool) → is_past bound spent ≡ b
      → IsEnd limits known bound n (if b then Reply reply.Exceeds else Reply (reply.Exact (record { 0 = spent })))
  at_last spent e true p = inl (record { done = n; spent = spent; within = omega arith; sum = e; past = p })
  at_last spent e false p = record { sum = e; low = p }

  at_over : (done spent : ℕ) (time : Micros) → done < n → IsPassed known bound done spent → known (suc done) ≡ Over time
      → (b : Bool) → leads_past bound spent time.0 ≡ b
      → IsEnd limits known bound n (if b then Reply reply.Exceeds else Need (suc done) (record { 0 = cutoff_left limits bound spent }))
  at_over done spent time inside passed k true p =
      inr (record { done = done; spent = spent; time = time; inside = inside; passed = passed; over = k; past = p })
  at_over done spent time inside passed k false p =
      record { done = done; spent = spent; inside = inside; passed = passed; undecided = rw k p; place_is = refl; cutoff_is = refl }

  at_place : (done spent : ℕ) (after : ℕ → Verdict) → done < n → IsPassed known bound done spent
      → ((sum : ℕ) → exact_sum known (suc done) ≡ Some sum → IsEnd limits known bound n (after sum))
      → (k : Known) → known (suc done) ≡ k → IsEnd limits known bound n (verdict_at limits bound (suc done) spent after k)
  at_place done spent after inside passed rest Nothing k =
      record { done = done; spent = spent; inside = inside; passed = passed; undecided = rw k tt; place_is = refl; cutoff_is = refl }
  at_place done spent after inside passed rest (Over time) k =
      at_over done spent time inside passed k (leads_past bound spent time.0) refl
  at_place done spent after inside passed rest (Exact cost) k =
      rest (spent + cost.0) (exact_sum-more known done spent cost.0 passed.sum (ap exact_cost k))
  at_place done spent after inside passed rest Abort k =
      record { done = done; spent = spent; inside = inside; passed = passed; abort = k; place_is = refl }

  at_next : (done spent : ℕ) (after : ℕ → Verdict) → done < n → exact_sum known done ≡ Some spent
      → ((sum : ℕ) → exact_sum known (suc done) ≡ Some sum → IsEnd limits known bound n (after sum))
      → (b : Bool) → is_past bound spent ≡ b
      → IsEnd limits known bound n (if b then Reply reply.Exceeds else verdict_at limits bound (suc done) spent after (known (suc done)))
  at_next done spent after inside e rest true p =
      inl (record { done = done; spent = spent; within = omega (arith, inside); sum = e; past = p })
  at_next done spent after inside e rest false p =
      at_place done spent after inside (record { sum = e; low = p }) rest (known (suc done)) refl

  -- how a walk ends that has passed the first places
  pub walk_end : (left done spent : ℕ) → done + left ≡ n → exact_sum known done ≡ Some spent
      → IsEnd limits known bound n (verdict_from limits known bound left (suc done) spent)
  walk_end zero done spent whole e =
      let all : done ≡ n = omega (arith, whole) in
      at_last spent (sym (ap (exact_sum known) all) ∙ e) (is_past bound spent) refl
  walk_end (suc left) done spent whole e =
      at_next done spent (verdict_from limits known bound left (suc (suc done))) (omega (arith, whole)) e
      (λ sum f. walk_end left (suc done) sum (omega (arith, whole)) f) (is_past bound spent) refl
