-- A search over any comparer, answered by total costs, stands for a state of the procedure at each step.
use Rattle.std.proofs.Common.{ℕ, ◌≡◌, ◌+◌, ◌≤◌, Bool, true, false, not, [], ◌∷◌, ◌++◌, length, Option, Some, None, ◌==◌, if◌then◌else◌, refl, sym, ◌∙◌, ap, subst}
use Rattle.std.proofs.lemmas.Bool.{false≢true}
use Rattle.objective.specs.Limits
use Rattle.uncapped.specs.Procedure.{Settings, Sums, Question, PlainState, Finished, Aborted, Ends, Procedure, goes_on, ◌>>=◌, stop}
use Rattle.uncapped.specs.Setup.{Setup}
use Rattle.uncapped.specs.Evaluation.{after_ask, counts_after}
use Rattle.uncapped.specs.Searching.{compare}
use Rattle.ils_face.specs.declared.asks.Reply.{Reply}
use Rattle.ils_face.specs.Replies.{Fits, ask_of, reply_up_to, cost_asked}
use Rattle.ils_frame.specs.declared.purpose.Purpose.{Purpose}
use Rattle.ils_frame.specs.Comparers.{AskedStage, Ready, Asking, Decided, is_asking, question_in, decision_in, Parts, Answered, IsSteadyComparer, additions_after, GoesOn, Starts, Keeps}
use Rattle.ils_frame.specs.NextComparison.{Next, Compare, Finish, next}
use Rattle.ils_frame.specs.Laws.NextSteps.{continuation, run_next, at_event, nexts}
use Rattle.ils_frame.specs.Machine.{Machine, begin, settle, next_machine}
use Rattle.ils_frame.specs.Laws.AllowedConfigs.{DrawsAllowed}
use Rattle.ils_frame.specs.Laws.MachineInvariant.{IsFitting, IsSettled, live, next_machine-settled}

module _ {S : Type 0} (parts : Parts S) (setup : Setup) where
  -- the state when the next comparison begins
  abbrev pub begin_state : S → Next → PlainState → PlainState
  begin_state c (Compare purpose θ φ e) s = if (parts.last c).compared == setup.budget
      then record s { event = e }
      else parts.started c θ φ ((parts.last c).compared + 1) (record s { event = e })
  begin_state c (Finish e) s = record s { event = e }

  unfoldable pub settle_state : S → Purpose → ℕ → Option Bool → PlainState → PlainState
  settle_state c purpose e None s = s
  settle_state c purpose e (Some won) s = begin_state c (next setup (parts.last c).compared purpose won e) s

  -- the state after one more reply
  abbrev pub answered_state : Machine S → Reply → PlainState → PlainState
  answered_state f r s = settle_state (parts.after f.comparer r) f.purpose f.event (decision_in (parts.stage (parts.after f.comparer r))) (parts.replied f.comparer r s)

  -- what is to come of the search
  module _ (better : Settings → Settings → Procedure Bool) (coming : S → Procedure Bool) where
    abbrev pub coming_at : Bool → S → Purpose → Procedure (Unit {0})
    coming_at true c purpose = stop Finished
    coming_at false c purpose = coming c >>= continuation setup better purpose

    abbrev pub search_coming : Machine S → Procedure (Unit {0})
    search_coming f = coming_at f.over f.comparer f.purpose

-- a comparison that still has its place in the budget
compares : (setup : Setup) (better : Settings → Settings → Procedure Bool) (θ φ : Settings) (s : PlainState) → (s.compared == setup.budget) ≡ false → compare setup better θ φ s ≡ better θ φ (record s { compared = s.compared + 1 })
unfolding compare
compares setup better θ φ s e = rw e refl

-- one that hasn't
compares-not : (setup : Setup) (better : Settings → Settings → Procedure Bool) (θ φ : Settings) (s : PlainState) → (s.compared == setup.budget) ≡ true → compare setup better θ φ s ≡ Ends s Finished
unfolding compare
compares-not setup better θ φ s e = rw e refl

module _ {S : Type 0} (parts : Parts S) (fit : S → Type 0) (stands : S → PlainState → Type 0) (coming : S → Procedure Bool) (better : Settings → Settings → Procedure Bool) (opening : Procedure (Unit {0}))
    (setup : Setup) (sums : Sums) (first : S) (keeps : Keeps parts fit stands coming better opening setup sums first) where
  same_number : (c : S) (s : PlainState) → fit c → stands c s → s.compared ≡ (parts.last c).compared
  same_number c s f h = sym (ap (λ i. i.compared) (keeps.last c s f h))

  abbrev coming_of : Machine S → Procedure (Unit {0})
  coming_of f = search_coming parts setup better coming f

  -- the next comparison begins, or the budget is used up
  begins : (c : S) (s : PlainState) → fit c → stands c s → question_in (parts.stage c) ≡ None → (n : Next)
      → run_next setup better n s ≡ coming_of (begin parts setup c n) (begin_state parts setup c n s)
  begins c s f h none (Finish e) = refl
  begins c s f h none (Compare purpose θ φ e) = at_either ((parts.last c).compared == setup.budget) refl
    where
      machine : Bool → Machine S
      machine over = if over
          then record { comparer = c; purpose = purpose; event = e; over = true }
          else record { comparer = parts.begun c θ φ ((parts.last c).compared + 1); purpose = purpose; event = e; over = false }

      moved : Bool → PlainState
      moved over = if over then at_event s e else parts.started c θ φ ((parts.last c).compared + 1) (at_event s e)

      number : s.compared ≡ (parts.last c).compared
      number = same_number c s f h

      started : Starts parts stands coming better c θ φ ((parts.last c).compared + 1) (at_event s e)
      started = keeps.begins c (at_event s e) θ φ ((parts.last c).compared + 1) f (keeps.redrawn c s e h) none

      at_either : (over : Bool) → ((parts.last c).compared == setup.budget) ≡ over
          → (compare setup better θ φ >>= continuation setup better purpose) (at_event s e) ≡ coming_of (machine over) (moved over)
      at_either true t = ap (λ a. goes_on a (continuation setup better purpose)) (compares-not setup better θ φ (at_event s e) (ap (λ n. n == setup.budget) number ∙ t))
      at_either false t = ap (λ a. goes_on a (continuation setup better purpose))
          (compares setup better θ φ (at_event s e) (ap (λ n. n == setup.budget) number ∙ t)
          ∙ ap (λ n. better θ φ (record (at_event s e) { compared = n + 1 })) number ∙ started.same)

  -- where a comparison was decided, the next one begins
  settles_at : (c : S) (s : PlainState) → fit c → stands c s → (purpose : Purpose) (p : AskedStage) → parts.stage c ≡ p
      → (coming c >>= continuation setup better purpose) s ≡ coming_of (settle parts setup c purpose s.event (decision_in p)) (settle_state parts setup c purpose s.event (decision_in p) s)
  unfolding settle settle_state
  settles_at c s f h purpose (Asking q) e = refl
  settles_at c s f h purpose Ready e =
      ap (λ a. goes_on a (continuation setup better purpose)) (keeps.ended c s false (ap decision_in e))
      ∙ nexts setup better purpose false s
      ∙ ap (λ m. run_next setup better (next setup m purpose false s.event) s) (same_number c s f h)
      ∙ begins c s f h (ap question_in e) (next setup (parts.last c).compared purpose false s.event)
  settles_at c s f h purpose (Decided b) e =
      ap (λ a. goes_on a (continuation setup better purpose)) (keeps.ended c s b (ap decision_in e))
      ∙ nexts setup better purpose b s
      ∙ ap (λ m. run_next setup better (next setup m purpose b s.event) s) (same_number c s f h)
      ∙ begins c s f h (ap question_in e) (next setup (parts.last c).compared purpose b s.event)

  pub settles : (c : S) (s : PlainState) → fit c → stands c s → (purpose : Purpose) (e : ℕ) → s.event ≡ e
      → (coming c >>= continuation setup better purpose) s ≡ coming_of (settle parts setup c purpose e (decision_in (parts.stage c))) (settle_state parts setup c purpose e (decision_in (parts.stage c)) s)
  settles c s f h purpose e k = subst (λ n. (coming c >>= continuation setup better purpose) s ≡ coming_of (settle parts setup c purpose n (decision_in (parts.stage c))) (settle_state parts setup c purpose n (decision_in (parts.stage c)) s)) k
      (settles_at c s f h purpose (parts.stage c) refl)

  -- what a settled machine stands for: nothing was asked, counted or added, and the next draw has its number
  pub record StandsFor (s : PlainState) (f : Machine S) (t : PlainState) : Type 0 where
    pub stays : stands f.comparer t
    pub event : f.over ≡ false → t.event ≡ f.event
    pub asks : t.asks ≡ s.asks
    pub counts : t.counts ≡ s.counts
    pub entries : t.entries ≡ s.entries

  begin_stands : (c : S) (s : PlainState) → fit c → stands c s → question_in (parts.stage c) ≡ None → (n : Next) → StandsFor s (begin parts setup c n) (begin_state parts setup c n s)
  begin_stands c s f h none (Finish e) = record { stays = keeps.redrawn c s e h; event = λ o. refl; asks = refl; counts = refl; entries = refl }
  begin_stands c s f h none (Compare purpose θ φ e) = at_either ((parts.last c).compared == setup.budget)
    where
      machine : Bool → Machine S
      machine over = if over
          then record { comparer = c; purpose = purpose; event = e; over = true }
          else record { comparer = parts.begun c θ φ ((parts.last c).compared + 1); purpose = purpose; event = e; over = false }

      moved : Bool → PlainState
      moved over = if over then at_event s e else parts.started c θ φ ((parts.last c).compared + 1) (at_event s e)

      started : Starts parts stands coming better c θ φ ((parts.last c).compared + 1) (at_event s e)
      started = keeps.begins c (at_event s e) θ φ ((parts.last c).compared + 1) f (keeps.redrawn c s e h) none

      at_either : (over : Bool) → StandsFor s (machine over) (moved over)
      at_either true = record { stays = keeps.redrawn c s e h; event = λ o. refl; asks = refl; counts = refl; entries = refl }
      at_either false = record { stays = started.stays; event = λ o. started.unasked.event; asks = started.unasked.asks; counts = started.unasked.counts; entries = started.unasked.entries }

  settle_stands_at : (c : S) (s : PlainState) → fit c → stands c s → (purpose : Purpose) (e : ℕ) → s.event ≡ e → (p : AskedStage) → parts.stage c ≡ p
      → StandsFor s (settle parts setup c purpose e (decision_in p)) (settle_state parts setup c purpose e (decision_in p) s)
  unfolding settle settle_state
  settle_stands_at c s f h purpose e k (Asking q) t = record { stays = h; event = λ o. k; asks = refl; counts = refl; entries = refl }
  settle_stands_at c s f h purpose e k Ready t = begin_stands c s f h (ap question_in t) (next setup (parts.last c).compared purpose false e)
  settle_stands_at c s f h purpose e k (Decided b) t = begin_stands c s f h (ap question_in t) (next setup (parts.last c).compared purpose b e)

  pub settle_stands : (c : S) (s : PlainState) → fit c → stands c s → (purpose : Purpose) (e : ℕ) → s.event ≡ e
      → StandsFor s (settle parts setup c purpose e (decision_in (parts.stage c))) (settle_state parts setup c purpose e (decision_in (parts.stage c)) s)
  settle_stands c s f h purpose e k = settle_stands_at c s f h purpose e k (parts.stage c) refl

  module _ (allowed : Settings → Type 0) (draws : DrawsAllowed allowed setup) (few_steps : setup.strength ≤ Limits.max_strength) (steady : IsSteadyComparer parts fit setup.max_runs allowed setup.start first)
      (fitting : (q : Question) (x : ℕ) → Fits (ask_of q.config q.places q.bound) (reply_up_to x q.bound)) where
    -- a machine that was reached by the replies of these total costs, and the state that it stands for
    pub record IsSound (f : Machine S) (s : PlainState) : Type 0 where
      pub stays_fitting : IsFitting parts fit setup allowed draws few_steps first steady f
      pub stays : stands f.comparer s
      pub event : f.over ≡ false → s.event ≡ f.event

    -- one known cost: what is to come stays the same, with one more ask and the entries that it adds
    pub record StandsAfter (f : Machine S) (s : PlainState) (q : Question) (r : Reply) : Type 0 where
      pub sound : IsSound (next_machine parts setup f r) (answered_state parts setup f r s)
      pub same : coming_of f s ≡ coming_of (next_machine parts setup f r) (answered_state parts setup f r s)
      pub asks : (answered_state parts setup f r s).asks ≡ s.asks ++ q ∷ []
      pub counts : (answered_state parts setup f r s).counts ≡ counts_after s.counts q.config q.places
      pub entries : (answered_state parts setup f r s).entries ≡ s.entries ++ additions_after (length s.asks + 1) (parts.added f.comparer r)
      pub grown : parts.entries (next_machine parts setup f r).comparer ≡ parts.entries f.comparer ++ parts.added f.comparer r

    live_coming : (f : Machine S) (s : PlainState) → f.over ≡ false → coming_of f s ≡ (coming f.comparer >>= continuation setup better f.purpose) s
    live_coming f s o = rw o refl

    pub stands_after : (f : Machine S) (s : PlainState) (q : Question) (x : ℕ) → IsSound f s → parts.stage f.comparer ≡ Asking q → cost_asked sums q ≡ Some x → StandsAfter f s q (reply_up_to x q.bound)
    stands_after f s q x k e known =
        let r : Reply = reply_up_to x q.bound in
        let a : Answered parts fit f.comparer q r = steady.answered f.comparer q r k.stays_fitting.stays_fit e (fitting q x) in
        let g : GoesOn parts stands coming f.comparer s q r = keeps.answered f.comparer s q x k.stays_fitting.stays_fit k.stays e known in
        let o : f.over ≡ false = live parts fit setup allowed draws few_steps first steady f q k.stays_fitting e in
        let event : (parts.replied f.comparer r s).event ≡ f.event = g.advanced.event ∙ k.event o in
        let t : IsSettled parts fit setup allowed draws few_steps first steady (parts.after f.comparer r) (next_machine parts setup f r) = next_machine-settled parts fit setup allowed draws few_steps first steady f q r k.stays_fitting e a in
        let u : StandsFor (parts.replied f.comparer r s) (next_machine parts setup f r) (answered_state parts setup f r s) = settle_stands (parts.after f.comparer r) (parts.replied f.comparer r s) a.stays_fit g.stays f.purpose f.event event in
        record {
          sound = record { stays_fitting = t.fitting; stays = u.stays; event = u.event };
          same = live_coming f s o ∙ ap (λ a. goes_on a (continuation setup better f.purpose)) g.same
              ∙ settles (parts.after f.comparer r) (parts.replied f.comparer r s) a.stays_fit g.stays f.purpose f.event event;
          asks = u.asks ∙ g.advanced.asks;
          counts = u.counts ∙ g.advanced.counts;
          entries = u.entries ∙ g.advanced.entries;
          grown = t.same_entries ∙ a.grown;
        }

    -- an unknown cost: the procedure is aborted
    pub aborts : (f : Machine S) (s : PlainState) (q : Question) → IsSound f s → parts.stage f.comparer ≡ Asking q → cost_asked sums q ≡ None → coming_of f s ≡ Ends (after_ask q.config q.places q.bound s) Aborted
    aborts f s q k e unknown =
        live_coming f s (live parts fit setup allowed draws few_steps first steady f q k.stays_fitting e)
        ∙ ap (λ a. goes_on a (continuation setup better f.purpose)) (keeps.aborts f.comparer s q k.stays_fitting.stays_fit k.stays e unknown)

    over_at : (o : Bool) (p : AskedStage) → is_asking p ≡ not o → is_asking p ≡ false → o ≡ true
    over_at true p e z = refl
    over_at false p e z = absurd (false≢true (sym z ∙ e))

    -- no ask is open: the procedure has finished
    pub finishes : (f : Machine S) (s : PlainState) → IsSound f s → is_asking (parts.stage f.comparer) ≡ false → coming_of f s ≡ Ends s Finished
    finishes f s k e = rw (over_at f.over (parts.stage f.comparer) k.stays_fitting.asks e) refl
