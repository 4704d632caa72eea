-- The steps of a look ahead stay when it goes on, and when it begins later.
use Rattle.std.specs.Prelude.{ℕ, zero, suc, ◌+◌, ◌-◌, ◌<◌, ◌≤◌, ◌≡◌, ◌⊎◌, List, [], ◌∷◌, ◌++◌, Some, length, take, slice_get, refl}
use Rattle.std.specs.List.{remove}
use Rattle.std.proofs.Common.{inl, inr, sym, ap, ◌∙◌, subst, arith}
use Rattle.std.proofs.Math.Seq.{take-length}
use Rattle.std.proofs.lemmas.List.{take-append-le, length-append}
use Rattle.std.proofs.lemmas.Option.{slice_get_within, none-some, same_Some}
use Rattle.objective.specs.Limits.{max_runs}
use Rattle.ils_face.specs.declared.asks.Reply.{Reply}
use Rattle.ils_face.specs.Rules.{Rules}
use Rattle.ils_face.specs.Views.{View}
use Rattle.capping.specs.Decisions.{place_count}
use Rattle.predictor.specs.declared.look_ahead.Step.{Step}
use Rattle.predictor.specs.LookAheads.{LookAheadState, after, GoesOnFrom, IsStepAt, IsLookAhead, with_step}

-- after all steps come all replies of the copy
pub after-all : (l : LookAheadState) → length l.steps ≤ length l.replies → after l (length l.steps) ≡ l.replies
after-all l within =
    let whole : length l.replies - length l.steps + length l.steps ≡ length l.replies = omega (arith, within) in
    ap (λ n. take n l.replies) whole ∙ take-length l.replies

-- the last element of a longer list, or one of those before it
last_or_before : {A : Type 0} (xs : List A) (x y : A) (i : ℕ) → slice_get (xs ++ x ∷ []) i ≡ Some y
    → (slice_get xs i ≡ Some y) ⊎ ((i ≡ length xs) × (x ≡ y))
last_or_before [] x y zero h = inr (refl, same_Some x y h)
last_or_before [] x y (suc i) h = absurd (none-some y h)
last_or_before (z ∷ xs) x y zero h = inl h
last_or_before (z ∷ xs) x y (suc i) h = more (last_or_before xs x y i h)
  where
    more : (slice_get xs i ≡ Some y) ⊎ ((i ≡ length xs) × (x ≡ y)) → (slice_get xs i ≡ Some y) ⊎ ((suc i ≡ suc (length xs)) × (x ≡ y))
    more (inl before) = inl before
    more (inr last) = inr (ap suc last.0, last.1)

module _ (shown : Rules → List Reply → View) (l : LookAheadState) (h : IsLookAhead shown l) where
  -- where it begins a step later, the same comes after a step less
  pub after-later : (later : LookAheadState) → later.replies ≡ l.replies → length later.steps + 1 ≡ length l.steps
      → (n : ℕ) → after later n ≡ after l (suc n)
  after-later later replies shorter n =
      let within = h.within in
      let there : length later.replies ≡ length l.replies = ap length replies in
      let place : length later.replies - length later.steps + n ≡ length l.replies - length l.steps + suc n = omega (arith, within, shorter, there) in
      ap (λ k. take k later.replies) place ∙ ap (take (length l.replies - length l.steps + suc n)) replies

  module _ (r : Reply) where
    -- with a further step, the same comes after the steps that there were
    pub after-same : (n : ℕ) → n ≤ length l.steps → after (with_step shown l r) n ≡ after l n
    after-same n low =
        let within = h.within in
        let long = length-append l.replies (r ∷ []) in
        let steps = length-append l.steps (record { ask = (shown l.rules l.replies).ask; reply = r } ∷ []) in
        let base : length (l.replies ++ r ∷ []) - length (with_step shown l r).steps + n ≡ length l.replies - length l.steps + n = omega (arith, within, long, steps) in
        ap (λ k. take k (l.replies ++ r ∷ [])) base ∙ take-append-le (length l.replies - length l.steps + n) l.replies (r ∷ []) (omega (arith, within, low))

    -- and the further reply after that one
    pub after-step : after (with_step shown l r) (suc (length l.steps)) ≡ after l (length l.steps) ++ r ∷ []
    after-step =
        let within = h.within in
        let long = length-append l.replies (r ∷ []) in
        let steps = length-append l.steps (record { ask = (shown l.rules l.replies).ask; reply = r } ∷ []) in
        let whole : length (l.replies ++ r ∷ []) - length (with_step shown l r).steps + suc (length l.steps) ≡ length (l.replies ++ r ∷ []) = omega (arith, within, long, steps) in
        ap (λ k. take k (l.replies ++ r ∷ [])) whole ∙ take-length (l.replies ++ r ∷ []) ∙ ap (λ rs. rs ++ r ∷ []) (sym (after-all l within))

    pub goes-on : GoesOnFrom l (with_step shown l r)
    goes-on =
        let steps = length-append l.steps (record { ask = (shown l.rules l.replies).ask; reply = r } ∷ []) in
        record { rules = refl; longer = omega (arith, steps); same = after-same }

    -- the further step is one of the copy
    pub with-step : place_count (shown l.rules l.replies).ask ≤ max_runs → IsLookAhead shown (with_step shown l r)
    with-step few =
        let within = h.within in
        let long = length-append l.replies (r ∷ []) in
        let steps = length-append l.steps (record { ask = (shown l.rules l.replies).ask; reply = r } ∷ []) in
        record { within = omega (arith, within, long, steps); each = λ n s at. by n s (last_or_before l.steps (record { ask = (shown l.rules l.replies).ask; reply = r }) s n at) }
      where
        former : (n : ℕ) (s : Step) → slice_get l.steps n ≡ Some s → IsStepAt shown (with_step shown l r) n s
        former n s at =
            let low = slice_get_within l.steps n s at in
            let old : IsStepAt shown l n s = h.each n s at in
            record {
              ask = old.ask ∙ ap (λ rs. (shown l.rules rs).ask) (sym (after-same n (omega (arith, low))));
              few = old.few;
              reply = after-same (suc n) (omega (arith, low)) ∙ old.reply ∙ ap (λ rs. rs ++ s.reply ∷ []) (sym (after-same n (omega (arith, low))));
            }

        new : IsStepAt shown (with_step shown l r) (length l.steps) (record { ask = (shown l.rules l.replies).ask; reply = r })
        new =
            let same = after-same (length l.steps) (omega arith) in
            let all = after-all l h.within in
            record {
              ask = ap (λ rs. (shown l.rules rs).ask) (sym (same ∙ all));
              few = few;
              reply = after-step ∙ ap (λ rs. rs ++ r ∷ []) (sym same);
            }

        by : (n : ℕ) (s : Step) → (slice_get l.steps n ≡ Some s) ⊎ ((n ≡ length l.steps) × (record { ask = (shown l.rules l.replies).ask; reply = r } ≡ s))
            → IsStepAt shown (with_step shown l r) n s
        by n s (inl at) = former n s at
        by n s (inr e) = subst (λ k. IsStepAt shown (with_step shown l r) k s) (sym e.0)
            (subst (IsStepAt shown (with_step shown l r) (length l.steps)) e.1 new)

-- without the first step it begins later
pub begins-later : (shown : Rules → List Reply → View) (rules : Rules) (replies : List Reply) (steps : List Step) → 0 < length steps
    → IsLookAhead shown (record { rules = rules; replies = replies; steps = steps })
    → IsLookAhead shown (record { rules = rules; replies = replies; steps = remove steps 0 })
begins-later shown rules replies [] some h = absurd (omega (arith, some))
begins-later shown rules replies (first ∷ steps) some h =
    let old : LookAheadState = record { rules = rules; replies = replies; steps = first ∷ steps } in
    let later : LookAheadState = record { rules = rules; replies = replies; steps = steps } in
    let shorter : length steps + 1 ≡ length (first ∷ steps) = omega arith in
    let same = after-later shown old h later refl shorter in
    let within = h.within in
    record {
      within = omega (arith, within, shorter);
      each = λ n s at.
          let step : IsStepAt shown old (suc n) s = h.each (suc n) s at in
          record {
            ask = step.ask ∙ ap (λ rs. (shown rules rs).ask) (sym (same n));
            few = step.few;
            reply = same (suc n) ∙ step.reply ∙ ap (λ rs. rs ++ s.reply ∷ []) (sym (same n));
          };
    }

-- what goes on from one that goes on goes on
pub goes-on-both : (first second third : LookAheadState) → GoesOnFrom first second → GoesOnFrom second third → GoesOnFrom first third
goes-on-both first second third one other =
    let a = one.longer in
    let b = other.longer in
    record {
      rules = other.rules ∙ one.rules;
      longer = omega (arith, a, b);
      same = λ n low. other.same n (omega (arith, low, a)) ∙ one.same n low;
    }
