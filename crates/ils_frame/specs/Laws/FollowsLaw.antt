-- A search over any comparer follows the procedure, and its incumbent keeps the incumbent invariant.
use Rattle.std.proofs.Common.{ℕ, suc, ◌≡◌, ◌+◌, ◌≤◌, Bool, false, [], ◌++◌, map, filter, take, length, refl, sym, ◌∙◌, ap, subst, arith, take_all}
use Rattle.std.proofs.lemmas.List.{map-append}
use Rattle.std.proofs.lemmas.List.Elements.{filter-append}
use Rattle.uncapped.specs.Procedure.{Settings, Sums, PlainState, End, Finished, Aborted, Procedure, goes_on, give}
use Rattle.uncapped.specs.Setup.{Setup}
use Rattle.uncapped.specs.Searching.{search_after}
use Rattle.uncapped.specs.Uncapped.{Run, run_after, at_first}
use Rattle.ils_face.specs.Replies.{ask_for, reply_to, reply_count, entries_before}
use Rattle.ils_face.specs.Follows.{Follows, GoesThrough, answer_count, sums_under}
use Rattle.ils_face.specs.ProcedureAborts.{MeetsAborts}
use Rattle.ils_face.proofs.QuietTables.{quiet-through}
use Rattle.ils_face.proofs.FittingReplies.{reply_fits}
use Rattle.ils_face.proofs.AbortedRuns.{aborts_met}
use Rattle.uncapped.specs.Totals.{quiet}
use Rattle.ils_frame.specs.declared.purpose.Purpose.TheVariants.{Opening}
use Rattle.ils_frame.specs.Comparers.{decision_in, Parts, IsSteadyComparer, additions_after, opened_state, Keeps}
use Rattle.ils_frame.specs.ShownIncumbents.{runs_after, HasInvariant, KeepsInvariant}
use Rattle.ils_frame.specs.Laws.NextSteps.{continuation, bind_assoc}
use Rattle.ils_frame.specs.Machine.{Machine, first_machine, after_all, view_of, shown_after}
use Rattle.ils_frame.specs.Laws.StandsFor.{settle_state, search_coming, StandsFor, settles, settle_stands}
use Rattle.ils_frame.specs.Laws.AllowedConfigs.{DrawsAllowed}
use Rattle.ils_frame.specs.Laws.MachineInvariant.{IsSettled, first_machine-settled}
use Rattle.ils_frame.specs.Laws.SteadyLaw.{shown_from, few-steps, steady-setup}
use Rattle.ils_frame.specs.Laws.SameAsks.{entry_in, is_before, unnumbered, before-all, Plays, plays}
use Rattle.objective.specs.Costs.{Table}
use Rattle.objective.specs.Limits
use Rattle.param_space.specs.Configurations.{IsConfig}
use Rattle.param_space.specs.Space.{defaults}
use Rattle.ils_face.specs.Setups.{setup_of}
use Rattle.ils_face.specs.Rules.{Rules, AreRules}
use Rattle.ils_frame.specs.Laws.AllowedDraws.{draws_allowed}

-- the number of replies, by how the run ends
counts : (e : End) (n count : ℕ) → (e ≡ Finished → n ≡ count) → (e ≡ Aborted → n ≡ suc count) → reply_count e n ≡ count
counts Finished n count f a = f refl
counts Aborted n count f a = let h : n ≡ suc count = a refl in omega (arith, h)

module _ {S : Type 0} (parts : Parts S) (setup : Setup) (sums : Sums) (first : S) where
  abbrev f0 : Machine S
  f0 = first_machine parts setup first

  -- from a state without asks, with the entries of the opened comparer, the run is followed
  followed : (s : PlainState) (run : Run) → s.asks ≡ [] → s.entries ≡ additions_after 0 (parts.entries first) → parts.entries f0.comparer ≡ parts.entries first → Plays parts setup sums f0 s run
      → Follows (shown_from parts setup f0) sums run
  followed s run none some same p = record {
    asks = λ k h. ap ask_for (rw asks (p.shown_asks k (up h)));
    entries = λ k h. rw asks (p.shown_entries k (up h)) ∙ sorted k;
    known = λ k h. rw asks (p.known k (rw (← number) h));
    finished = λ e. record {
      entries = rw (asks, take_all (length p.rest) p.rest (omega arith)) ((p.finished e).1) ∙ all;
      last = rw (asks, take_all (length p.rest) p.rest (omega arith)) ((p.finished e).2);
    };
    aborted = λ e. record {
      unanswered = rw number (let h : length p.rest ≡ suc p.count = (p.aborted e).0 in let a : length run.asks ≡ length p.rest = ap length asks in omega (arith, h, a));
      unknown = rw (number, asks) ((p.aborted e).1);
      entries = rw (number, asks) ((p.aborted e).2) ∙ all;
    };
  }
    where
      asks : run.asks ≡ p.rest
      asks = p.all_asks ∙ ap (λ a. a ++ p.rest) none

      number : answer_count run ≡ p.count
      number = counts run.end (length run.asks) p.count (λ e. ap length asks ∙ (p.finished e).0) (λ e. ap length asks ∙ (p.aborted e).0)

      up : {k : ℕ} → k ≤ answer_count run → k ≤ p.count
      up {k} h = subst (λ n. k ≤ n) number h

      all_entries : run.entries ≡ additions_after 0 (parts.entries first) ++ p.late
      all_entries = p.all_entries ∙ ap (λ es. es ++ p.late) some

      all : parts.entries f0.comparer ++ map entry_in p.late ≡ map entry_in run.entries
      all = ap (λ es. es ++ map entry_in p.late) same
          ∙ ap (λ es. es ++ map entry_in p.late) (sym (unnumbered 0 (parts.entries first)))
          ∙ sym (map-append entry_in (additions_after 0 (parts.entries first)) p.late)
          ∙ ap (map entry_in) (sym all_entries)

      sorted : (k : ℕ) → parts.entries f0.comparer ++ map entry_in (filter (is_before (length s.asks + k)) p.late) ≡ entries_before run k
      sorted k = ap (λ es. es ++ map entry_in (filter (is_before (length s.asks + k)) p.late)) same
          ∙ ap (λ n. parts.entries first ++ map entry_in (filter (is_before n) p.late)) (let n = ap length none in omega (arith, n))
          ∙ ap (λ es. es ++ map entry_in (filter (is_before k) p.late)) (sym (unnumbered 0 (parts.entries first)))
          ∙ sym (map-append entry_in (additions_after 0 (parts.entries first)) (filter (is_before k) p.late))
          ∙ ap (λ es. map entry_in (es ++ filter (is_before k) p.late)) (sym (before-all 0 k (parts.entries first) (omega arith)))
          ∙ ap (map entry_in) (sym (filter-append (is_before k) (additions_after 0 (parts.entries first)) p.late))
          ∙ ap (λ es. map entry_in (filter (is_before k) es)) (sym all_entries)

  -- the incumbent that it shows keeps the invariant
  led : (s : PlainState) (run : Run) → s.asks ≡ [] → Plays parts setup sums f0 s run → KeepsInvariant (shown_from parts setup f0) sums run
  led s run none p = record {
    after = λ k h. rw asks (subst (λ qs. HasInvariant sums (qs ++ take k p.rest) (parts.last (after_all parts setup f0 (map (reply_to sums) (take k p.rest))).comparer)) none
        (p.led k (subst (λ n. k ≤ n) number h)));
  }
    where
      asks : run.asks ≡ p.rest
      asks = p.all_asks ∙ ap (λ a. a ++ p.rest) none

      number : answer_count run ≡ p.count
      number = counts run.end (length run.asks) p.count (λ e. ap length asks ∙ (p.finished e).0) (λ e. ap length asks ∙ (p.aborted e).0)

module _ {S : Type 0} (parts : Parts S) (fit : S → Type 0) (stands : S → PlainState → Type 0) (coming : S → Procedure Bool) (better : Settings → Settings → Procedure Bool) (opening : Procedure (Unit {0}))
    (setup : Setup) (sums : Sums) (first : S) (keeps : Keeps parts fit stands coming better opening setup sums first)
    (allowed : Settings → Type 0) (draws : DrawsAllowed allowed setup) (few_steps : setup.strength ≤ Limits.max_strength) (steady : IsSteadyComparer parts fit setup.max_runs allowed setup.start first) where
  abbrev s0 : PlainState
  s0 = settle_state parts setup first Opening 0 (decision_in (parts.stage first)) (opened_state parts setup first)

  same_run : search_after setup better opening (at_first setup) ≡ search_coming parts setup better coming (first_machine parts setup first) s0
  unfolding search_after
  same_run =
      sym (bind_assoc (opening (at_first setup)) (λ _. give false) (continuation setup better Opening))
      ∙ ap (λ a. goes_on a (continuation setup better Opening)) (sym keeps.opens)
      ∙ settles parts fit stands coming better opening setup sums first keeps first (opened_state parts setup first) steady.opened keeps.opened Opening 0 refl

  -- it begins without an ask, with the entries of the opened comparer
  starts : StandsFor parts fit stands coming better opening setup sums first keeps (opened_state parts setup first) (first_machine parts setup first) s0
  starts = settle_stands parts fit stands coming better opening setup sums first keeps first (opened_state parts setup first) steady.opened keeps.opened Opening 0 refl

  is_settled : IsSettled parts fit setup allowed draws few_steps first steady first (first_machine parts setup first)
  is_settled = first_machine-settled parts fit setup allowed draws few_steps first steady

  search_plays : Plays parts setup sums (first_machine parts setup first) s0 (run_after sums (search_coming parts setup better coming (first_machine parts setup first) s0))
  search_plays = plays parts fit stands coming better opening setup sums first keeps allowed draws few_steps steady reply_fits (suc (view_of parts setup (first_machine parts setup first)).left) (first_machine parts setup first) s0
      (record { stays_fitting = is_settled.fitting; stays = starts.stays; event = starts.event }) (starts.counts ∙ ap runs_after (sym starts.asks)) (omega arith)

  pub search_follows : Follows (shown_from parts setup (first_machine parts setup first)) sums (run_after sums (search_after setup better opening (at_first setup)))
  search_follows = rw same_run (followed parts setup sums first s0 (run_after sums (search_coming parts setup better coming (first_machine parts setup first) s0)) starts.asks starts.entries is_settled.same_entries search_plays)

  pub search_leads : KeepsInvariant (shown_from parts setup (first_machine parts setup first)) sums (run_after sums (search_after setup better opening (at_first setup)))
  search_leads = rw same_run (led parts setup sums first s0 (run_after sums (search_coming parts setup better coming (first_machine parts setup first) s0)) starts.asks search_plays)

-- ---- by the rules of a search

module _ {S : Type 0} (parts : Parts S) (first : S) (rules : Rules) where
  -- the run of a comparison and an opening over a table
  abbrev pub run_under : (Sums → Settings → Settings → Procedure Bool) → (Sums → Procedure (Unit {0})) → Table → Run
  run_under better opening T =
      let sums : Sums = sums_under rules T in
      run_after sums (search_after (setup_of rules) (better sums) (opening sums) (at_first (setup_of rules)))

  module _ (are : AreRules rules) (fit : S → Type 0) (steady : IsSteadyComparer parts fit rules.max_runs (IsConfig rules.space) (defaults rules.space.params) first) where
    -- given the replies of a table, it shows what the procedure does
    pub laws_follow : (stands : S → PlainState → Type 0) (coming : S → Procedure Bool) (better : Settings → Settings → Procedure Bool) (opening : Procedure (Unit {0})) (T : Table)
        → Keeps parts fit stands coming better opening (setup_of rules) (sums_under rules T) first
        → Follows (shown_after parts first rules) (sums_under rules T) (run_after (sums_under rules T) (search_after (setup_of rules) better opening (at_first (setup_of rules))))
    laws_follow stands coming better opening T keeps =
        search_follows parts fit stands coming better opening (setup_of rules) (sums_under rules T) first keeps (IsConfig rules.space) (draws_allowed rules are) (few-steps parts first rules are) (steady-setup parts first rules are fit steady)

    -- given the replies of a table, the incumbent that it shows keeps the invariant
    pub laws_lead : (stands : S → PlainState → Type 0) (coming : S → Procedure Bool) (better : Settings → Settings → Procedure Bool) (opening : Procedure (Unit {0})) (T : Table)
        → Keeps parts fit stands coming better opening (setup_of rules) (sums_under rules T) first
        → KeepsInvariant (shown_after parts first rules) (sums_under rules T) (run_after (sums_under rules T) (search_after (setup_of rules) better opening (at_first (setup_of rules))))
    laws_lead stands coming better opening T keeps =
        search_leads parts fit stands coming better opening (setup_of rules) (sums_under rules T) first keeps (IsConfig rules.space) (draws_allowed rules are) (few-steps parts first rules are) (steady-setup parts first rules are fit steady)

    -- over a table whose aborts count as unsolved it goes through all asks to the end
    pub laws_finish : (stands : S → PlainState → Type 0) (coming : S → Procedure Bool) (better : Settings → Settings → Procedure Bool) (opening : Procedure (Unit {0})) (T : Table)
        → Keeps parts fit stands coming better opening (setup_of rules) (sums_under rules (quiet T)) first
        → GoesThrough (shown_after parts first rules) (sums_under rules (quiet T)) (run_after (sums_under rules (quiet T)) (search_after (setup_of rules) better opening (at_first (setup_of rules))))
    laws_finish stands coming better opening T keeps =
        quiet-through (shown_after parts first rules) rules.limits T (run_after (sums_under rules (quiet T)) (search_after (setup_of rules) better opening (at_first (setup_of rules))))
        (laws_follow stands coming better opening (quiet T) keeps)

    -- a comparer keeps the laws over these total costs
    abbrev pub IsKept : (Sums → S → PlainState → Type 0) → (Sums → S → Procedure Bool)
        → (Sums → Settings → Settings → Procedure Bool) → (Sums → Procedure (Unit {0})) → Sums → Type 0
    IsKept stands coming better opening sums =
        Keeps parts fit (stands sums) (coming sums) (better sums) (opening sums) (setup_of rules) sums first

    -- over a table it is the same as with each abort as unsolved, up to the first total cost that isn't known
    pub laws_abort : (stands : Sums → S → PlainState → Type 0) (coming : Sums → S → Procedure Bool)
        (better : Sums → Settings → Settings → Procedure Bool) (opening : Sums → Procedure (Unit {0})) (T : Table)
        → ((T : Table) → IsKept stands coming better opening (sums_under rules T))
        → MeetsAborts (sums_under rules T) (run_under better opening T) (run_under better opening (quiet T))
    laws_abort stands coming better opening T keeps =
        aborts_met (shown_after parts first rules) rules T (run_under better opening T) (run_under better opening (quiet T))
        (followed_by T) (followed_by (quiet T))
      where
        followed_by : (T : Table)
            → Follows (shown_after parts first rules) (sums_under rules T) (run_under better opening T)
        followed_by T =
            let sums : Sums = sums_under rules T in
            laws_follow (stands sums) (coming sums) (better sums) (opening sums) T (keeps T)
