-- Runs that are added one after another.
use Rattle.std.specs.Prelude.{ℕ, suc, ◌+◌, ◌-◌, ◌<◌, ◌≤◌, ◌≡◌, Bool, true, false, List, refl, if◌then◌else◌}
use Rattle.std.proofs.Common.{sym, ap, ◌∙◌, arith, add-one}
use Rattle.std.proofs.lemmas.List.Folds.{fold_stays}
use Rattle.uncapped.specs.Procedure.{Settings}
use Rattle.run_cache.specs.declared.known.Known.{Known}
use Rattle.run_cache.specs.Knowledge.{is_settled}
use Rattle.run_cache.specs.Caches.{Knowledge, Cached, row_of, known_at, known_in}
use Rattle.predictor.specs.declared.wish.Wish.{Wish}
use Rattle.predictor.specs.Choices.{Choice, has_room, run_of, with_wish, with_run, with_runs}
use Rattle.predictor.specs.Wishes.{runs_from, runs_after}

module _ (known : Knowledge) where
  -- where there is no room nothing is added
  full_one : (choice : Choice) → has_room choice ≡ false → (run : Wish) → with_run known choice run ≡ choice
  full_one choice full run = at_either (is_settled (known run.cell.config run.cell.place) run.cutoff.0)
    where
      at_either : (b : Bool) → (if b then choice else with_wish choice run) ≡ choice
      at_either true = refl
      at_either false = rw full refl

  pub full_stays : (choice : Choice) → has_room choice ≡ false → (runs : List Wish) → with_runs known choice runs ≡ choice
  full_stays choice full runs = fold_stays (with_run known) choice (full_one choice full) runs

  -- the runs at the places after one are that at the next place and those after it
  pub next_place : (choice next : Choice) (config : Settings) (cutoff done last : ℕ) → done < last
      → next ≡ with_run known choice (run_of config (suc done) cutoff)
      → with_runs known next (runs_after config cutoff (suc done) last) ≡ with_runs known choice (runs_after config cutoff done last)
  next_place choice next config cutoff done last low e =
      let left : last - done ≡ suc (last - suc done) = omega (arith, low) in
      ap (λ c. with_runs known c (runs_after config cutoff (suc done) last)) e
      ∙ ap (λ n. with_runs known choice (runs_from config cutoff (suc done) n)) (sym left)

  -- after the last place there are none
  pub past_places : (choice : Choice) (config : Settings) (cutoff done last : ℕ) → last ≤ done
      → with_runs known choice (runs_after config cutoff done last) ≡ choice
  past_places choice config cutoff done last high =
      let none : last - done ≡ 0 = omega (arith, high) in
      ap (λ n. with_runs known choice (runs_from config cutoff (suc done) n)) none

-- the same, with what a row knows of the next place
pub next_in_row : (c : Cached) (choice next : Choice) (config : Settings) (cutoff done last : ℕ) (row : List Known) (k : Known) → done < last
    → row ≡ row_of c.rows config → k ≡ known_at row (suc done)
    → next ≡ (if is_settled k cutoff then choice else with_wish choice (run_of config (done + 1) cutoff))
    → with_runs (known_in c) next (runs_after config cutoff (done + 1) last) ≡ with_runs (known_in c) choice (runs_after config cutoff done last)
next_in_row c choice next config cutoff done last row k low r e made =
    let same : next ≡ with_run (known_in c) choice (run_of config (suc done) cutoff) =
    rw add-one at made
    ∙ ap (λ j. if is_settled j cutoff then choice else with_wish choice (run_of config (suc done) cutoff)) (e ∙ ap (λ rs. known_at rs (suc done)) r) in
    rw add-one (next_place (known_in c) choice next config cutoff done last low same)
