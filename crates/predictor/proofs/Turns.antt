-- Turns of looking ahead, one after another.
use Rattle.std.specs.Prelude.{ℕ, zero, suc, ◌+◌, ◌-◌, ◌<◌, ◌≤◌, ◌≡◌, false, List, [], ◌∷◌, ◌++◌, Some, None, refl}
use Rattle.std.proofs.Common.{sym, ap, ◌∙◌, arith}
use Rattle.std.proofs.lemmas.List.Sums.{fold-append}
use Rattle.objective.specs.Bounds.{Bounds}
use Rattle.ils_face.specs.declared.asks.Ask.{Ask}
use Rattle.ils_face.specs.declared.asks.Reply.{Reply}
use Rattle.ils_face.specs.Views.{View}
use Rattle.run_cache.specs.Caches.{Knowledge}
use Rattle.capping.specs.Verdicts.{verdict_of}
use Rattle.predictor.specs.declared.wish.Wish.{Wish}
use Rattle.predictor.specs.Choices.{Choice, has_room, with_run, with_runs}
use Rattle.predictor.specs.Wishes.{AheadTurn, turn_of, followed_by, turn_after, runs_ahead}
use Rattle.predictor.proofs.AddedRuns.{full_stays}

-- the runs of a turn that isn't the last, and of those after it
goes_on : (turn : AheadTurn) (after : Reply → List Wish) (r : Reply) → turn.reply ≡ Some r → followed_by turn after ≡ turn.runs ++ after r
goes_on turn after r e = rw e refl

-- the runs of the last turn, and no more
ends_here : (turn : AheadTurn) (after : Reply → List Wish) → turn.reply ≡ None → followed_by turn after ≡ turn.runs ++ []
ends_here turn after e = rw e refl

module _ (shown : List Reply → View) (limits : Bounds) (known : Knowledge) where
  -- no turn finds no run
  pub ahead-none : (replies : List Reply) → runs_ahead shown limits known zero replies ≡ []
  unfolding runs_ahead
  ahead-none replies = refl

  pub ahead-more : (turns : ℕ) (replies : List Reply) → runs_ahead shown limits known (suc turns) replies
      ≡ followed_by (turn_after shown limits known replies) (λ r. runs_ahead shown limits known turns (replies ++ r ∷ []))
  unfolding runs_ahead
  ahead-more turns replies = refl

  -- the turn after these replies finds these runs of its ask
  turn_at : (replies : List Reply) (ask : Ask) → ask ≡ (shown replies).ask
      → turn_of ask (verdict_of limits known ask) ≡ turn_after shown limits known replies
  turn_at replies ask e = ap (λ a. turn_of a (verdict_of limits known a)) e

  -- a turn that isn't the last, and those after it
  turn_on : (choice next : Choice) (turns : ℕ) (replies : List Reply) (ask : Ask) (r : Reply) → ask ≡ (shown replies).ask
      → next ≡ with_runs known choice (turn_of ask (verdict_of limits known ask)).runs → Some r ≡ (turn_of ask (verdict_of limits known ask)).reply
      → with_runs known next (runs_ahead shown limits known turns (replies ++ r ∷ [])) ≡ with_runs known choice (runs_ahead shown limits known (suc turns) replies)
  turn_on choice next turns replies ask r asked made given =
      let same = turn_at replies ask asked in
      let turn = turn_after shown limits known replies in
      let later : List Wish = runs_ahead shown limits known turns (replies ++ r ∷ []) in
      let given_there : turn.reply ≡ Some r = sym (given ∙ ap (λ t. t.reply) same) in
      ap (λ c. with_runs known c later) (made ∙ ap (λ t. with_runs known choice t.runs) same)
      ∙ sym (fold-append (with_run known) choice turn.runs later)
      ∙ ap (with_runs known choice) (sym (goes_on turn (λ s. runs_ahead shown limits known turns (replies ++ s ∷ [])) r given_there))
      ∙ ap (with_runs known choice) (sym (ahead-more turns replies))

  -- the last turn
  turn_last : (choice next : Choice) (turns : ℕ) (replies : List Reply) (ask : Ask) → ask ≡ (shown replies).ask
      → next ≡ with_runs known choice (turn_of ask (verdict_of limits known ask)).runs → None ≡ (turn_of ask (verdict_of limits known ask)).reply
      → next ≡ with_runs known choice (runs_ahead shown limits known (suc turns) replies)
  turn_last choice next turns replies ask asked made given =
      let same = turn_at replies ask asked in
      let turn = turn_after shown limits known replies in
      let given_there : turn.reply ≡ None = sym (given ∙ ap (λ t. t.reply) same) in
      made ∙ ap (λ t. with_runs known choice t.runs) same
      ∙ sym (fold-append (with_run known) choice turn.runs [])
      ∙ ap (with_runs known choice) (sym (ends_here turn (λ s. runs_ahead shown limits known turns (replies ++ s ∷ [])) given_there))
      ∙ ap (with_runs known choice) (sym (ahead-more turns replies))

  module _ (all turn : ℕ) (choice : Choice) (replies : List Reply) where
    -- where no turn is left nothing is added
    pub turns_over : all ≤ turn → choice ≡ with_runs known choice (runs_ahead shown limits known (all - turn) replies)
    turns_over high =
        let none : all - turn ≡ 0 = omega (arith, high) in
        ap (with_runs known choice) (sym (ap (λ n. runs_ahead shown limits known n replies) none ∙ ahead-none replies))

    module _ (low : turn < all) (ask : Ask) (asked : ask ≡ (shown replies).ask) (next : Choice)
        (made : next ≡ with_runs known choice (turn_of ask (verdict_of limits known ask)).runs) where
      left : all - turn ≡ suc (all - (turn + 1))
      left = omega (arith, low)

      -- after the last turn nothing more is added
      pub last_turn : None ≡ (turn_of ask (verdict_of limits known ask)).reply
          → next ≡ with_runs known choice (runs_ahead shown limits known (all - turn) replies)
      last_turn given =
          turn_last choice next (all - (turn + 1)) replies ask asked made given
          ∙ ap (λ n. with_runs known choice (runs_ahead shown limits known n replies)) (sym left)

      module _ (r : Reply) (given : Some r ≡ (turn_of ask (verdict_of limits known ask)).reply) where
        -- after another turn those that are left add the rest
        pub next_turn : (more : List Reply) → more ≡ replies ++ r ∷ []
            → with_runs known next (runs_ahead shown limits known (all - (turn + 1)) more) ≡ with_runs known choice (runs_ahead shown limits known (all - turn) replies)
        next_turn more taken =
            ap (λ rs. with_runs known next (runs_ahead shown limits known (all - (turn + 1)) rs)) taken
            ∙ turn_on choice next (all - (turn + 1)) replies ask r asked made given
            ∙ ap (λ n. with_runs known choice (runs_ahead shown limits known n replies)) (sym left)

        -- after a turn that leaves no room nothing more is added
        pub full_turn : has_room next ≡ false → next ≡ with_runs known choice (runs_ahead shown limits known (all - turn) replies)
        full_turn full =
            sym (full_stays known next full (runs_ahead shown limits known (all - (turn + 1)) (replies ++ r ∷ []))) ∙ next_turn (replies ++ r ∷ []) refl
