-- What a comparison comes to by a reply doesn't wait for the reply's count.
use Rattle.std.proofs.Common.{◌≡◌, ℕ, zero, suc, ◌≤◌, ◌<◌, max, Bool, true, false, ◌||◌, Option, nat_le, bytes_eq, if◌then◌else◌, refl, sym, ◌∙◌, ap, arith}
use Rattle.std.proofs.lemmas.Bool.{le-leb, leb-true, leb-false}
use Rattle.uncapped.specs.Procedure.{Settings, Incumbent}
use Rattle.ils_face.specs.declared.asks.Reply.{Reply}
use Rattle.ils_face.specs.declared.asks.Reply.TheVariants.{Exact, Exceeds}
use Rattle.ils_frame.specs.Comparers.{decision_in}
use Rattle.focused_ils.specs.Counts.{Counts, count_in, raised}
use Rattle.focused_ils.specs.Comparison.{Turn, Phase, Opened, High, Low, Further, Compared, is_overtaken, is_incumbent_first, question_at, stage_at, first_in, first_dominates, low_dominates, high_dominates, phase_by, next_turn, phase_after_turn, phase_next}
use Rattle.focused_ils.specs.State.{Tally, last_after, phase_after}
use Rattle.focused_ils.specs.Laws.Counting.{same_config, raised-itself, raised-other}

-- a count that rises to n was at most n where it is so now
raised-at_most : (counts : Counts) (θ φ : Settings) (n : ℕ) → nat_le (count_in (raised counts θ n) φ) n ≡ nat_le (count_in counts φ) n
raised-at_most counts θ φ n = at_either (bytes_eq φ θ) refl
  where
    greater : (a : ℕ) (t : Bool) → nat_le a n ≡ t → nat_le (max a n) n ≡ t
    greater a true e = let h : a ≤ n = leb-true a n e in le-leb (max a n) n (omega (arith, h))
    greater a false e = let h : n < a = leb-false a n e in let g : max a n ≡ a = omega (arith, h) in ap (λ k. nat_le k n) g ∙ e

    at_either : (t : Bool) → bytes_eq φ θ ≡ t → nat_le (count_in (raised counts θ n) φ) n ≡ nat_le (count_in counts φ) n
    at_either true e = rw (same_config φ θ e, raised-itself counts θ n) (greater (count_in counts θ) (nat_le (count_in counts θ) n) refl)
    at_either false e = ap (λ k. nat_le k n) (raised-other counts θ n φ e)

-- it doesn't depend on the incumbent
decision-last : (phase : Phase) (last other : Incumbent) → decision_in (stage_at last phase) ≡ decision_in (stage_at other phase)
decision-last Opened last other = refl
decision-last (High turn) last other = refl
decision-last (Low turn bound) last other = refl
decision-last (Further θ n) last other = refl
decision-last (Compared won) last other = refl

-- nor on the winner's runs
decision-turn : (n : ℕ) (counts later : Counts) (bonus : ℕ) (turn : Turn) (low high : Bool) (last other : Incumbent)
    → decision_in (stage_at last (phase_after_turn n counts bonus turn low high)) ≡ decision_in (stage_at other (phase_after_turn n later bonus turn low high))
decision-turn n counts later bonus turn low high last other = at_either (low || high) turn.more
  where
    at_end : (won : Bool) → decision_in (stage_at last (phase_by won n counts bonus (first_in turn))) ≡ decision_in (stage_at other (phase_by won n later bonus (first_in turn)))
    at_end true = refl
    at_end false = refl

    at_either : (over : Bool) (more : ℕ) → decision_in (stage_at last (if over then phase_by (first_dominates turn low high) n counts bonus (first_in turn) else next_turn n turn more))
        ≡ decision_in (stage_at other (if over then phase_by (first_dominates turn low high) n later bonus (first_in turn) else next_turn n turn more))
    at_either true more = at_end (first_dominates turn low high)
    at_either false zero = refl
    at_either false (suc more) = refl

low_dominates-raised : (counts : Counts) (turn : Turn) (r : Reply) → low_dominates counts turn.high turn.places r ≡ low_dominates (raised counts turn.low turn.places) turn.high turn.places r
low_dominates-raised counts turn (Exact x) = sym (raised-at_most counts turn.low turn.high turn.places)
low_dominates-raised counts turn Exceeds = refl

module _ (n : ℕ) (t : Tally) (r : Reply) where
  -- what it comes to with the counts before the reply is what it comes to after it
  same_decision : (phase : Phase) → decision_in (stage_at t.last (if is_incumbent_first t.last phase then phase else phase_next n t.counts t.bonus phase r))
      ≡ decision_in (stage_at (last_after t.last (question_at t.last phase) r) (phase_after n t phase r))
  same_decision Opened = refl
  same_decision (High turn) = high r
    where
      high : (r : Reply) → decision_in (stage_at t.last (if is_overtaken t.last turn.high turn.places then High turn else phase_next n t.counts t.bonus (High turn) r))
          ≡ decision_in (stage_at (last_after t.last (question_at t.last (High turn)) r) (phase_after n t (High turn) r))
      high (Exact x) = decision-last (if is_overtaken t.last turn.high turn.places then High turn else Low turn x.0)
          t.last (last_after t.last (question_at t.last (High turn)) (Exact x))
      high Exceeds = decision-last (if is_overtaken t.last turn.high turn.places then High turn else Compared false) t.last t.last
  same_decision (Low turn bound) =
      let later : Counts = raised t.counts turn.low turn.places in
      ap (λ b. decision_in (stage_at t.last (phase_after_turn n t.counts t.bonus turn b (high_dominates bound r)))) (low_dominates-raised t.counts turn r)
      ∙ decision-turn n t.counts later t.bonus turn (low_dominates later turn.high turn.places r) (high_dominates bound r)
      t.last (last_after t.last (question_at t.last (Low turn bound)) r)
  same_decision (Further θ m) = decision-last (if is_overtaken t.last θ m then Further θ m else Compared true)
      t.last (last_after t.last (question_at t.last (Further θ m)) r)
  same_decision (Compared won) = refl

  pub decided-so : (phase : Phase) (o : Option Bool) → ((most bonus : ℕ) → o ≡ decision_in (stage_at t.last (if is_incumbent_first t.last phase then phase else phase_next most t.counts bonus phase r)))
      → o ≡ decision_in (stage_at (last_after t.last (question_at t.last phase) r) (phase_after n t phase r))
  decided-so phase o h = h n t.bonus ∙ same_decision phase
