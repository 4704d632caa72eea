-- What is promised of the wishes of a search holds by their definition.
use Rattle.std.specs.Prelude.{ℕ, ◌≤◌, ◌≡◌, List, [], ◌∷◌, ◌++◌, length, Option, Some, All, refl}
use Rattle.std.proofs.Common.{sym, ap, ◌∙◌, subst, arith}
use Rattle.std.proofs.lemmas.List.Elements.{All-nil, All-append}
use Rattle.objective.specs.Bounds.{Bounds, AreInRange}
use Rattle.uncapped.specs.Procedure.{Settings}
use Rattle.ils_face.specs.declared.asks.Ask.{Ask}
use Rattle.ils_face.specs.declared.asks.Ask.TheVariants.{Full, Versus, End}
use Rattle.ils_face.specs.declared.asks.Reply.{Reply}
use Rattle.ils_face.specs.declared.asks.Reply.TheVariants.{Exceeds}
use Rattle.ils_face.specs.Replies.{Fits}
use Rattle.ils_face.specs.Rules.{Rules, AreRules}
use Rattle.ils_face.specs.Views.{View, AreFitting}
use Rattle.ils_face.specs.Steady.{IsAsk, IsSteady}
use Rattle.ils_face.proofs.FittingReplies.{fitting-more}
use Rattle.run_cache.specs.declared.cell.Cell.{Cell}
use Rattle.run_cache.specs.Caches.{Knowledge}
use Rattle.capping.specs.declared.verdicts.Verdict.{Verdict}
use Rattle.capping.specs.declared.verdicts.Verdict.TheVariants.{Need, Aborted, Ended, Reply as Replied}
use Rattle.capping.specs.Verdicts.{verdict_of}
use Rattle.capping.specs.Decisions.{place_count}
use Rattle.predictor.specs.declared.wish.Wish.{Wish}
use Rattle.predictor.specs.Choices.{none_yet, with_runs}
use Rattle.predictor.specs.Wishes.{runs_after, runs_ahead, wishes_at}
use Rattle.predictor.specs.Promises.{needed_cell, IsWish, TellsMore, AreApart}
use Rattle.predictor.proofs.NeededPlaces.{OnNeed, IsNeededFrom, needed_of}
use Rattle.predictor.proofs.ChosenWishes.{chosen}
use Rattle.predictor.proofs.FoundRuns.{later_runs, runs_found}
use Rattle.predictor.proofs.PresentWishes.{without_need, at_end, in_full, with_bound}

-- what is promised of wishes, beside the needed cell where there is one
pub record AreWishes (rules : Rules) (limits : Bounds) (known : Knowledge) (needed : Option Cell) (k : ℕ) (wishes : List Wish) : Type 0 where
  pub each : All (IsWish rules limits) wishes
  pub more : All (TellsMore known needed) wishes
  pub apart : AreApart wishes
  pub few : length wishes ≤ k

module _ (rules : Rules) (limits : Bounds) (known : Knowledge) where
  -- no wishes
  none : (needed : Option Cell) (k : ℕ) → AreWishes rules limits known needed k []
  none needed k = record {
    each = All-nil (IsWish rules limits);
    more = All-nil (TellsMore known needed);
    apart = λ i j d low inside. absurd (omega (arith, inside));
    few = omega arith;
  }

  -- those from runs that may be run
  beside : (θ : Settings) (place k : ℕ) (runs : List Wish) → All (IsWish rules limits) runs
      → AreWishes rules limits known (Some (record { config = θ; place = place })) k (with_runs known (none_yet k θ place) runs).wishes
  beside θ place k runs h =
      let c = chosen (IsWish rules limits) known (record { config = θ; place = place }) k runs h in
      record { each = c.each; more = c.more; apart = c.apart; few = c.few }

  module _ (ranged : AreInRange limits.cutoff limits.floor) (shown : List Reply → View) (steady : IsSteady rules shown)
      (replies : List Reply) (fitting : AreFitting shown replies) (k : ℕ) where
    facts_at : (ask : Ask) (v : Verdict) → (shown replies).ask ≡ ask → IsAsk rules ask → OnNeed v (IsNeededFrom limits 1 (place_count ask))
        → AreWishes rules limits known (needed_cell ask v) k (wishes_at shown limits known replies ask v k)
    facts_at (Full θ n) (Need place cutoff) e a h =
        let high = h.high in
        rw (in_full shown limits known replies k θ n place cutoff)
        (beside θ place k (runs_after θ cutoff.0 place n) (later_runs rules limits θ cutoff.0 place n a.config h.cutoff_fits (omega (arith, high)) a.within))
    facts_at (Versus θ n bound) (Need place cutoff) e a h =
        let high = h.high in
        let ahead : List Reply = replies ++ Exceeds ∷ [] in
        rw (with_bound shown limits known replies k θ n bound place cutoff)
        (beside θ place k (runs_ahead shown limits known 256 ahead ++ runs_after θ cutoff.0 place n)
        (All-append (IsWish rules limits) (runs_ahead shown limits known 256 ahead) (runs_after θ cutoff.0 place n)
        (runs_found rules limits ranged shown steady known 256 ahead (fitting-more shown replies Exceeds fitting (subst (λ asked. Fits asked Exceeds) (sym e) tt)))
        (later_runs rules limits θ cutoff.0 place n a.config h.cutoff_fits (omega (arith, high)) a.within)))
    facts_at End v e a h = rw (at_end shown limits known replies k v) (none (needed_cell End v) k)
    facts_at (Full θ n) (Replied r) e a h = rw (without_need shown limits known replies k (Full θ n) (Replied r) (λ place cutoff same. cc)) (none (needed_cell (Full θ n) (Replied r)) k)
    facts_at (Full θ n) (Aborted place) e a h = rw (without_need shown limits known replies k (Full θ n) (Aborted place) (λ place cutoff same. cc)) (none (needed_cell (Full θ n) (Aborted place)) k)
    facts_at (Full θ n) Ended e a h = rw (without_need shown limits known replies k (Full θ n) Ended (λ place cutoff same. cc)) (none (needed_cell (Full θ n) Ended) k)
    facts_at (Versus θ n bound) (Replied r) e a h = rw (without_need shown limits known replies k (Versus θ n bound) (Replied r) (λ place cutoff same. cc)) (none (needed_cell (Versus θ n bound) (Replied r)) k)
    facts_at (Versus θ n bound) (Aborted place) e a h = rw (without_need shown limits known replies k (Versus θ n bound) (Aborted place) (λ place cutoff same. cc)) (none (needed_cell (Versus θ n bound) (Aborted place)) k)
    facts_at (Versus θ n bound) Ended e a h = rw (without_need shown limits known replies k (Versus θ n bound) Ended (λ place cutoff same. cc)) (none (needed_cell (Versus θ n bound) Ended) k)

-- what is promised of the wishes at the present ask of a search
pub wishes-are : (rules : Rules) (shown : Rules → List Reply → View) (limits : Bounds) (known : Knowledge) (replies : List Reply) (ask : Ask) (k : ℕ) (wishes : List Wish)
    → ((rules : Rules) → AreRules rules → IsSteady rules (shown rules)) → AreInRange limits.cutoff limits.floor
    → AreRules rules → AreFitting (shown rules) replies → ask ≡ (shown rules replies).ask
    → wishes ≡ wishes_at (shown rules) limits known replies ask (verdict_of limits known ask) k
    → AreWishes rules limits known (needed_cell (shown rules replies).ask (verdict_of limits known (shown rules replies).ask)) k wishes
wishes-are rules shown limits known replies ask k wishes steady ranged ruled fitting asked made =
    let s : IsSteady rules (shown rules) = steady rules ruled in
    let now = (shown rules replies).ask in
    let facts = facts_at rules limits known ranged (shown rules) s replies fitting k now (verdict_of limits known now) refl (s.asks replies fitting) (needed_of limits ranged known now) in
    let same : wishes_at (shown rules) limits known replies now (verdict_of limits known now) k ≡ wishes =
    sym (made ∙ ap (λ a. wishes_at (shown rules) limits known replies a (verdict_of limits known a) k) asked) in
    subst (AreWishes rules limits known (needed_cell now (verdict_of limits known now)) k) same facts
