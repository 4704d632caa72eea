-- What holds of all wishes: each is one of the runs that they are taken from, for another cell than the needed one and
-- each other, and tells more than what is known.
use Rattle.std.specs.Prelude.{ℕ, ◌<◌, ◌≤◌, ◌≡◌, ◌≢◌, Bool, true, false, not, ◌&&◌, ◌⊎◌, List, [], ◌∷◌, ◌++◌, length, Some, All, refl, if◌then◌else◌}
use Rattle.std.proofs.Common.{sym, ap, ◌∙◌, inl, inr, arith}
use Rattle.std.specs.List.{list_any, slice_index_or}
use Rattle.std.proofs.lemmas.Bool.{cases_Bool, and_parts, and_from, not-true, ltb-true, eq-eqb}
use Rattle.std.proofs.lemmas.Cmp.{nat_list_eq_equiv}
use Rattle.std.proofs.lemmas.List.{length-append}
use Rattle.std.proofs.lemmas.List.Elements.{All-nil, All-push, All-head, All-tail}
use Rattle.std.proofs.lemmas.List.Folds.{list_any_at}
use Rattle.std.proofs.lemmas.List.Quantifiers.{all_pairs_push}
use Rattle.std.proofs.lemmas.Option.{same_Some}
use Rattle.run_cache.specs.declared.cell.Cell.{Cell}
use Rattle.run_cache.specs.Knowledge.{is_settled}
use Rattle.run_cache.specs.Caches.{Knowledge, is_at}
use Rattle.predictor.specs.declared.wish.Wish.{Wish}
use Rattle.predictor.specs.Choices.{Choice, has_room, has_wish, is_new, with_wish, with_run, with_runs}
use Rattle.predictor.specs.Promises.{TellsMore, AreApart}

-- a cell is its configuration at its place
is_at-itself : (cell : Cell) → is_at cell cell.config cell.place ≡ true
is_at-itself cell = and_from _ _ (nat_list_eq_equiv.refl cell.config) (eq-eqb cell.place cell.place refl)

-- what isn't at the cell is another one
another : (cell other : Cell) → is_at cell other.config other.place ≡ false → cell ≢ other
another cell other e same =
    let itself : is_at cell other.config other.place ≡ true = ap (λ c. is_at cell c.config c.place) (sym same) ∙ is_at-itself cell in
    let clash : true ≡ false = sym itself ∙ e in
    absurd (cc)

-- where no element passes a test, none does by its place
none_passes : {X : Type 0} (p : X → Bool) (xs : List X) (i : ℕ) (d : X) → list_any p xs ≡ false → i < length xs → p (slice_index_or xs i d) ≡ false
none_passes p xs i d e low = by (cases_Bool (p (slice_index_or xs i d)))
  where
    by : (p (slice_index_or xs i d) ≡ true) ⊎ (p (slice_index_or xs i d) ≡ false) → p (slice_index_or xs i d) ≡ false
    by (inl h) = let clash : true ≡ false = sym (list_any_at p xs i d low h) ∙ e in absurd (cc)
    by (inr h) = h

-- what holds of the wishes so far beside a needed cell, at most so many of these runs
pub record AreChosen (P : Wish → Type 0) (known : Knowledge) (needed : Cell) (most : ℕ) (choice : Choice) : Type 0 where
  pub each : All P choice.wishes
  pub more : All (TellsMore known (Some needed)) choice.wishes
  pub apart : AreApart choice.wishes
  pub few : length choice.wishes ≤ most
  pub same_needed : choice.needed ≡ needed
  pub same_most : choice.most ≡ most

module _ (P : Wish → Type 0) (known : Knowledge) (needed : Cell) (most : ℕ) where
  one_more : (choice : Choice) (run : Wish) → P run → is_settled (known run.cell.config run.cell.place) run.cutoff.0 ≡ false
      → (has_room choice && is_new choice run.cell.config run.cell.place) ≡ true → AreChosen P known needed most choice
      → AreChosen P known needed most (record choice { wishes = choice.wishes ++ run ∷ [] })
  one_more choice run h unsettled wanted c =
      let parts = and_parts (has_room choice) (is_new choice run.cell.config run.cell.place) wanted in
      let news = and_parts (not (is_at choice.needed run.cell.config run.cell.place)) (not (has_wish choice.wishes run.cell.config run.cell.place)) parts.1 in
      let other : needed ≢ run.cell = λ e. another choice.needed run.cell (not-true _ news.0) (c.same_needed ∙ e) in
      let fresh : has_wish choice.wishes run.cell.config run.cell.place ≡ false = not-true _ news.1 in
      let room : length choice.wishes < choice.most = ltb-true (length choice.wishes) choice.most parts.0 in
      let same = c.same_most in
      let long = length-append choice.wishes (run ∷ []) in
      record {
        each = All-push P choice.wishes run c.each h;
        more = All-push (TellsMore known (Some needed)) choice.wishes run c.more
            (record { other = λ e. other (same_Some needed run.cell e); unsettled = unsettled });
        apart = all_pairs_push (λ v w. v.cell ≢ w.cell) choice.wishes run c.apart
            (λ i d low. another (slice_index_or choice.wishes i d).cell run.cell (none_passes (λ w. is_at w.cell run.cell.config run.cell.place) choice.wishes i d fresh low));
        few = omega (arith, room, long, same);
        same_needed = c.same_needed;
        same_most = c.same_most;
      }

  chosen_one : (choice : Choice) (run : Wish) → P run → AreChosen P known needed most choice → AreChosen P known needed most (with_run known choice run)
  chosen_one choice run h c = at_known (is_settled (known run.cell.config run.cell.place) run.cutoff.0) refl
    where
      at_room : is_settled (known run.cell.config run.cell.place) run.cutoff.0 ≡ false
          → (b : Bool) → (has_room choice && is_new choice run.cell.config run.cell.place) ≡ b
          → AreChosen P known needed most (if b then record choice { wishes = choice.wishes ++ run ∷ [] } else choice)
      at_room e true wanted = one_more choice run h e wanted c
      at_room e false wanted = c

      at_known : (b : Bool) → is_settled (known run.cell.config run.cell.place) run.cutoff.0 ≡ b
          → AreChosen P known needed most (if b then choice else with_wish choice run)
      at_known true e = c
      at_known false e = at_room e (has_room choice && is_new choice run.cell.config run.cell.place) refl

  chosen_all : (runs : List Wish) → All P runs → (choice : Choice) → AreChosen P known needed most choice → AreChosen P known needed most (with_runs known choice runs)
  chosen_all [] h choice c = c
  chosen_all (run ∷ runs) h choice c =
      chosen_all runs (All-tail P run runs h) (with_run known choice run) (chosen_one choice run (All-head P run runs h) c)

  -- the wishes from runs of which this holds
  pub chosen : (runs : List Wish) → All P runs → AreChosen P known needed most (with_runs known (record { needed = needed; most = most; wishes = [] }) runs)
  chosen runs h = chosen_all runs h (record { needed = needed; most = most; wishes = [] })
      (record {
        each = All-nil P;
        more = All-nil (TellsMore known (Some needed));
        apart = λ i j d low inside. absurd (omega (arith, inside));
        few = omega arith;
        same_needed = refl;
        same_most = refl;
      })
