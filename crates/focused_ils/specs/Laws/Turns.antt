-- The end of a turn, and the begin of a comparison, in the procedure.
use Rattle.std.proofs.Common.{◌≡◌, ℕ, zero, suc, ◌≤◌, Bool, true, false, ◌&&◌, Some, nat_le, refl, arith}
use Rattle.std.proofs.lemmas.Bool.{le-leb, leb-true}
use Rattle.uncapped.specs.Procedure.{Settings, Sums, PlainState, goes_on}
use Rattle.uncapped.specs.Setup.{Setup}
use Rattle.uncapped.specs.Evaluation.{is_at_most, dominates, catch_up, better_focused}
use Rattle.focused_ils.specs.Counts.{Counts, count_in}
use Rattle.focused_ils.specs.Comparison.{Turn, High, phase_after_turn, first_turn}
use Rattle.focused_ils.specs.State.{started_at, decision_after, turns_after, coming_at}

-- ---- a turn's end

module _ (setup : Setup) (sums : Sums) (n : ℕ) (m : setup.max_runs ≡ n) (counts : Counts) (bonus : ℕ) (low high : Settings) (i : ℕ) (s : PlainState)
    (same : (φ : Settings) → s.counts φ ≡ count_in counts φ) (b : s.bonus ≡ bonus) (behind : count_in counts low ≡ i) where
  abbrev its_turn : Bool → ℕ → Turn
  its_turn first_is_low more = record { first_is_low = first_is_low; low = low; high = high; places = i; more = more }

  -- by who dominates, the turns end or go on
  over : (first_is_low a d : Bool) (more : ℕ) → dominates sums s low high ≡ a → dominates sums s high low ≡ d
      → goes_on (turns_after setup sums (its_turn first_is_low more) s) (λ u. decision_after setup sums (its_turn first_is_low more))
      ≡ coming_at setup sums (phase_after_turn n counts bonus (its_turn first_is_low more) a d) s
  unfolding catch_up
  over true true d more e f = rw (e, e, same low, b, ← m) refl
  over true false true more e f = rw (e, f, e) refl
  over true false false zero e f = rw (e, f, e) refl
  over true false false (suc more) e f = rw (e, f, same low, behind, ← m) refl
  over false true true more e f = rw (e, f, same high, b, ← m) refl
  over false true false more e f = rw (e, f) refl
  over false false true more e f = rw (e, f, f, same high, b, ← m) refl
  over false false false zero e f = rw (e, f, f) refl
  over false false false (suc more) e f = rw (e, f, same low, behind, ← m) refl

  module _ (x y : ℕ) (ahead : i ≤ count_in counts high) (of_high : sums high i ≡ Some x) (of_low : sums low i ≡ Some y) where
    -- the one with more runs dominates where it costs no more
    high_dominates_so : dominates sums s high low ≡ nat_le x y
    high_dominates_so = rw (same low, same high, behind, le-leb i (count_in counts high) ahead, of_high, of_low) refl

    -- the other one where it has as many runs besides
    low_dominates_so : dominates sums s low high ≡ (nat_le (count_in counts high) i && nat_le y x)
    low_dominates_so = rw (same low, same high, behind) (at_either (nat_le (count_in counts high) i) refl)
      where
        at_either : (t : Bool) → nat_le (count_in counts high) i ≡ t
            → (t && is_at_most (sums low (count_in counts high)) (sums high (count_in counts high))) ≡ (t && nat_le y x)
        at_either false e = refl
        at_either true e =
            let g : count_in counts high ≤ i = leb-true (count_in counts high) i e in
            let h : count_in counts high ≡ i = omega (arith, g, ahead) in
            rw (h, of_high, of_low) refl

    pub turn-ends : (first_is_low : Bool) (more : ℕ)
        → goes_on (turns_after setup sums (its_turn first_is_low more) s) (λ u. decision_after setup sums (its_turn first_is_low more))
        ≡ coming_at setup sums (phase_after_turn n counts bonus (its_turn first_is_low more) (nat_le (count_in counts high) i && nat_le y x) (nat_le x y)) s
    turn-ends first_is_low more = over first_is_low (nat_le (count_in counts high) i && nat_le y x) (nat_le x y) more low_dominates_so high_dominates_so

-- ---- the begin of a comparison

module _ (setup : Setup) (sums : Sums) (n : ℕ) (m : setup.max_runs ≡ n) (counts : Counts) (s : PlainState) (same : (φ : Settings) → s.counts φ ≡ count_in counts φ) where
  -- what is to come of a comparison at its first turn is the comparison
  pub begins-so : (θ φ : Settings) (j : ℕ) → better_focused setup sums θ φ (record s { compared = j })
      ≡ coming_at setup sums (High (first_turn (nat_le (count_in counts θ) (count_in counts φ)) n counts θ φ)) (started_at θ φ j s)
  unfolding better_focused catch_up
  begins-so θ φ j = at_either (nat_le (count_in counts θ) (count_in counts φ)) (rw (same θ, same φ) refl)
    where
      at_either : (t : Bool) → nat_le (s.counts θ) (s.counts φ) ≡ t → better_focused setup sums θ φ (record s { compared = j }) ≡ coming_at setup sums (High (first_turn t n counts θ φ)) (started_at θ φ j s)
      at_either true e = rw (e, ← same θ, ← m) refl
      at_either false e = rw (e, ← same φ, ← m) refl
