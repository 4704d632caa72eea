-- The runs that a look ahead finds: each may be run.
use Rattle.std.specs.Prelude.{ℕ, zero, suc, ◌+◌, ◌-◌, ◌≤◌, ◌≡◌, List, [], ◌∷◌, ◌++◌, Option, Some, None, IfSome, All, refl}
use Rattle.std.proofs.Common.{arith}
use Rattle.std.proofs.lemmas.List.Elements.{All-nil, All-cons, All-append}
use Rattle.objective.specs.Bounds.{Bounds, AreInRange}
use Rattle.uncapped.specs.Procedure.{Settings}
use Rattle.param_space.specs.Configurations.{IsConfig}
use Rattle.ils_face.specs.declared.asks.Ask.{Ask}
use Rattle.ils_face.specs.declared.asks.Ask.TheVariants.{Full, Versus, End}
use Rattle.ils_face.specs.declared.asks.Reply.{Reply}
use Rattle.ils_face.specs.Replies.{Fits}
use Rattle.ils_face.specs.Rules.{Rules}
use Rattle.ils_face.specs.Views.{View, AreFitting}
use Rattle.ils_face.specs.Steady.{IsAsk, IsSteady}
use Rattle.ils_face.proofs.FittingReplies.{fitting-more}
use Rattle.run_cache.specs.Caches.{Knowledge, IsCutoff}
use Rattle.capping.specs.declared.verdicts.Verdict.{Verdict}
use Rattle.capping.specs.declared.verdicts.Verdict.TheVariants.{Need, Aborted, Ended, Reply as Replied}
use Rattle.capping.specs.Verdicts.{verdict_of}
use Rattle.capping.specs.Decisions.{place_count, IfReply}
use Rattle.capping.proofs.Promises.{fits}
use Rattle.predictor.specs.declared.wish.Wish.{Wish}
use Rattle.predictor.specs.Choices.{run_of}
use Rattle.predictor.specs.Wishes.{runs_from, runs_after, AheadTurn, turn_of, followed_by, turn_after, runs_ahead}
use Rattle.predictor.specs.Promises.{IsWish}
use Rattle.predictor.proofs.NeededPlaces.{OnNeed, IsNeededFrom, needed_of}
use Rattle.predictor.proofs.Turns.{ahead-none, ahead-more}

-- the reply of a turn fits its ask
turn_fits : (ask : Ask) (v : Verdict) → IfReply v (Fits ask) → IfSome (turn_of ask v).reply (Fits ask)
turn_fits ask (Replied r) h = h
turn_fits (Full θ n) (Need place cutoff) h = tt
turn_fits (Versus θ n bound) (Need place cutoff) h = tt
turn_fits End (Need place cutoff) h = tt
turn_fits ask (Aborted place) h = tt
turn_fits ask Ended h = tt

module _ (rules : Rules) (limits : Bounds) where
  some_runs : (θ : Settings) (cutoff : ℕ) → IsConfig rules.space θ → IsCutoff limits cutoff → (left place : ℕ) → 1 ≤ place
      → place + left ≤ rules.max_runs + 1 → All (IsWish rules limits) (runs_from θ cutoff place left)
  some_runs θ cutoff allowed fits zero place low high = All-nil (IsWish rules limits)
  some_runs θ cutoff allowed fits (suc left) place low high =
      All-cons (IsWish rules limits) (run_of θ place cutoff) (runs_from θ cutoff (suc place) left)
      (record { config = allowed; first = low; last = omega (arith, high); cutoff = fits })
      (some_runs θ cutoff allowed fits left (suc place) (omega arith) (omega (arith, high)))

  -- the runs at later places of an ask may be run
  pub later_runs : (θ : Settings) (cutoff place n : ℕ) → IsConfig rules.space θ → IsCutoff limits cutoff → place ≤ n → n ≤ rules.max_runs
      → All (IsWish rules limits) (runs_after θ cutoff place n)
  later_runs θ cutoff place n allowed fits low high =
      some_runs θ cutoff allowed fits (n - place) (suc place) (omega arith) (omega (arith, low, high))

  turn_runs : (ask : Ask) (v : Verdict) → IsAsk rules ask → OnNeed v (IsNeededFrom limits 1 (place_count ask))
      → All (IsWish rules limits) (turn_of ask v).runs
  turn_runs ask (Replied r) a h = All-nil (IsWish rules limits)
  turn_runs (Full θ n) (Need place cutoff) a h =
      let low = h.low in
      let high = h.high in
      let most = a.within in
      All-cons (IsWish rules limits) (run_of θ place cutoff.0) (runs_after θ cutoff.0 place n)
      (record { config = a.config; first = h.low; last = omega (arith, high, most); cutoff = h.cutoff_fits })
      (later_runs θ cutoff.0 place n a.config h.cutoff_fits (omega (arith, high)) a.within)
  turn_runs (Versus θ n bound) (Need place cutoff) a h =
      let high = h.high in
      let most = a.within in
      All-cons (IsWish rules limits) (run_of θ place cutoff.0) []
      (record { config = a.config; first = h.low; last = omega (arith, high, most); cutoff = h.cutoff_fits })
      (All-nil (IsWish rules limits))
  turn_runs End (Need place cutoff) a h = All-nil (IsWish rules limits)
  turn_runs ask (Aborted place) a h = All-nil (IsWish rules limits)
  turn_runs ask Ended a h = All-nil (IsWish rules limits)

  all_runs : (P : Wish → Type 0) (ask : Ask) (turn : AheadTurn) (after : Reply → List Wish) → All P turn.runs
      → ((r : Reply) → Fits ask r → All P (after r)) → (o : Option Reply) → turn.reply ≡ o → IfSome o (Fits ask) → All P (followed_by turn after)
  all_runs P ask turn after now later None e fit = rw e (All-append P turn.runs [] now (All-nil P))
  all_runs P ask turn after now later (Some r) e fit = rw e (All-append P turn.runs (after r) now (later r fit))

  module _ (ranged : AreInRange limits.cutoff limits.floor) (shown : List Reply → View) (steady : IsSteady rules shown) (known : Knowledge) where
    -- the runs that turns find after fitting replies may be run
    pub runs_found : (turns : ℕ) (replies : List Reply) → AreFitting shown replies → All (IsWish rules limits) (runs_ahead shown limits known turns replies)
    runs_found zero replies fitting = rw (ahead-none shown limits known replies) (All-nil (IsWish rules limits))
    runs_found (suc turns) replies fitting =
        let ask = (shown replies).ask in
        let turn = turn_after shown limits known replies in
        rw (ahead-more shown limits known turns replies)
        (all_runs (IsWish rules limits) ask turn (λ r. runs_ahead shown limits known turns (replies ++ r ∷ []))
        (turn_runs ask (verdict_of limits known ask) (steady.asks replies fitting) (needed_of limits ranged known ask))
        (λ r fit. runs_found turns (replies ++ r ∷ []) (fitting-more shown replies r fitting fit))
        turn.reply refl (turn_fits ask (verdict_of limits known ask) (fits limits known ask)))
