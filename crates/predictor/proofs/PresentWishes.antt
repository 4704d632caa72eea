-- The wishes at an ask, by what it asks for and what is needed.
use Rattle.std.specs.Prelude.{ℕ, ◌≡◌, List, [], ◌∷◌, ◌++◌, refl}
use Rattle.std.proofs.Common.{sym, ap, ◌∙◌}
use Rattle.std.proofs.lemmas.List.Sums.{fold-append}
use Rattle.objective.specs.Bounds.{Bounds}
use Rattle.objective.specs.declared.Micros.{Micros}
use Rattle.objective.specs.declared.Sum.{Sum}
use Rattle.uncapped.specs.Procedure.{Settings}
use Rattle.ils_face.specs.declared.asks.Ask.{Ask}
use Rattle.ils_face.specs.declared.asks.Ask.TheVariants.{Full, Versus, End}
use Rattle.ils_face.specs.declared.asks.Reply.{Reply}
use Rattle.ils_face.specs.declared.asks.Reply.TheVariants.{Exceeds}
use Rattle.ils_face.specs.Views.{View}
use Rattle.run_cache.specs.Caches.{Knowledge}
use Rattle.capping.specs.declared.verdicts.Verdict.{Verdict}
use Rattle.capping.specs.declared.verdicts.Verdict.TheVariants.{Need, Aborted, Ended, Reply as Replied}
use Rattle.predictor.specs.Choices.{Choice, none_yet, with_run, with_runs}
use Rattle.predictor.specs.Wishes.{runs_after, runs_ahead, wishes_at}
use Rattle.predictor.proofs.AddedRuns.{full_stays}

module _ (shown : List Reply → View) (limits : Bounds) (known : Knowledge) (replies : List Reply) where
  -- where no run is needed there are none
  pub without_need : (k : ℕ) (ask : Ask) (v : Verdict) → ((place : ℕ) (cutoff : Micros) → v ≡ Need place cutoff → ⊥)
      → wishes_at shown limits known replies ask v k ≡ []
  unfolding wishes_at
  without_need k (Full θ n) (Need place cutoff) h = absurd (h place cutoff refl)
  without_need k (Versus θ n bound) (Need place cutoff) h = absurd (h place cutoff refl)
  without_need k End (Need place cutoff) h = refl
  without_need k (Full θ n) (Replied r) h = refl
  without_need k (Versus θ n bound) (Replied r) h = refl
  without_need k End (Replied r) h = refl
  without_need k (Full θ n) (Aborted place) h = refl
  without_need k (Versus θ n bound) (Aborted place) h = refl
  without_need k End (Aborted place) h = refl
  without_need k (Full θ n) Ended h = refl
  without_need k (Versus θ n bound) Ended h = refl
  without_need k End Ended h = refl

  -- at the end there are none
  pub at_end : (k : ℕ) (v : Verdict) → wishes_at shown limits known replies End v k ≡ []
  unfolding wishes_at
  at_end k (Need place cutoff) = refl
  at_end k (Replied r) = refl
  at_end k (Aborted place) = refl
  at_end k Ended = refl

  -- at an ask in full
  pub in_full : (k : ℕ) (θ : Settings) (n place : ℕ) (cutoff : Micros) → wishes_at shown limits known replies (Full θ n) (Need place cutoff) k
      ≡ (with_runs known (none_yet k θ place) (runs_after θ cutoff.0 place n)).wishes
  unfolding wishes_at
  in_full k θ n place cutoff = refl

  -- at an ask with a bound
  pub with_bound : (k : ℕ) (θ : Settings) (n : ℕ) (bound : Sum) (place : ℕ) (cutoff : Micros) → wishes_at shown limits known replies (Versus θ n bound) (Need place cutoff) k
      ≡ (with_runs known (none_yet k θ place) (runs_ahead shown limits known 256 (replies ++ Exceeds ∷ []) ++ runs_after θ cutoff.0 place n)).wishes
  unfolding wishes_at
  with_bound k θ n bound place cutoff = refl

  -- with no room there are none
  pub with_no_room : (ask : Ask) (v : Verdict) → wishes_at shown limits known replies ask v 0 ≡ []
  unfolding wishes_at
  with_no_room (Full θ n) (Need place cutoff) = ap (λ c. c.wishes) (full_stays known (none_yet 0 θ place) refl (runs_after θ cutoff.0 place n))
  with_no_room (Versus θ n bound) (Need place cutoff) =
      ap (λ c. c.wishes) (full_stays known (none_yet 0 θ place) refl (runs_ahead shown limits known 256 (replies ++ Exceeds ∷ []) ++ runs_after θ cutoff.0 place n))
  with_no_room End (Need place cutoff) = refl
  with_no_room (Full θ n) (Replied r) = refl
  with_no_room (Versus θ n bound) (Replied r) = refl
  with_no_room End (Replied r) = refl
  with_no_room (Full θ n) (Aborted place) = refl
  with_no_room (Versus θ n bound) (Aborted place) = refl
  with_no_room End (Aborted place) = refl
  with_no_room (Full θ n) Ended = refl
  with_no_room (Versus θ n bound) Ended = refl
  with_no_room End Ended = refl

  module _ (k : ℕ) (ask : Ask) (v : Verdict) (θ : Settings) (n place : ℕ) (cutoff : Micros) (needs : v ≡ Need place cutoff) (first last : Choice) (new : first ≡ none_yet k θ place) where
    -- the later places are wished for
    pub made_in_full : ask ≡ Full θ n → last ≡ with_runs known first (runs_after θ cutoff.0 place n) → last.wishes ≡ wishes_at shown limits known replies ask v k
    made_in_full asked made =
        ap (λ c. c.wishes) (made ∙ ap (λ c. with_runs known c (runs_after θ cutoff.0 place n)) new)
        ∙ sym (in_full k θ n place cutoff)
        ∙ ap (λ a. wishes_at shown limits known replies a (Need place cutoff) k) (sym asked)
        ∙ ap (λ w. wishes_at shown limits known replies ask w k) (sym needs)

    -- what comes ahead is wished for, and then the later places
    pub made_with_bound : (bound : Sum) (ahead : Choice) → ask ≡ Versus θ n bound
        → ahead ≡ with_runs known first (runs_ahead shown limits known 256 (replies ++ Exceeds ∷ []))
        → last ≡ with_runs known ahead (runs_after θ cutoff.0 place n) → last.wishes ≡ wishes_at shown limits known replies ask v k
    made_with_bound bound ahead asked found made =
        let runs = runs_ahead shown limits known 256 (replies ++ Exceeds ∷ []) in
        let later = runs_after θ cutoff.0 place n in
        ap (λ c. c.wishes) (made ∙ ap (λ c. with_runs known c later) (found ∙ ap (λ c. with_runs known c runs) new) ∙ sym (fold-append (with_run known) (none_yet k θ place) runs later))
        ∙ sym (with_bound k θ n bound place cutoff)
        ∙ ap (λ a. wishes_at shown limits known replies a (Need place cutoff) k) (sym asked)
        ∙ ap (λ w. wishes_at shown limits known replies ask w k) (sym needs)
