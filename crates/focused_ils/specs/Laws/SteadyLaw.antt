-- FocusedILS keeps what a comparer promises whatever fitting replies come.
use Rattle.std.proofs.Common.{◌≡◌, ℕ, zero, suc, ◌+◌, ◌*◌, ◌≤◌, ◌<◌, min, Bool, true, false, ◌||◌, [], None, IfSome, nat_le, if◌then◌else◌, refl, sym, subst, arith}
use Rattle.param_space.specs.Space.{defaults}
use Rattle.param_space.proofs.Soundness.{default_is_config}
use Rattle.param_space.specs.Configurations.{IsConfig}
use Rattle.uncapped.specs.Procedure.{Settings, Question, Incumbent}
use Rattle.ils_face.specs.Rules.{Rules, AreRules}
use Rattle.ils_face.specs.Replies.{Fits, ask_of}
use Rattle.ils_face.proofs.Trajectories.{trajectory-none, trajectory-push, trajectory-begin}
use Rattle.ils_face.specs.declared.asks.Reply.{Reply}
use Rattle.ils_face.specs.declared.asks.Reply.TheVariants.{Exact, Exceeds}
use Rattle.ils_frame.specs.Comparers.{AskedStage, Ready, Asking, Decided, question_in, Answered, Begun, InRange, IsSteadyComparer}
use Rattle.focused_ils.specs.Counts.{Counts, count_in, raised}
use Rattle.focused_ils.specs.Comparison.{Turn, Phase, Opened, High, Low, Further, Compared, is_overtaken, one_of, full_where, in_full, question_at, stage_at, first_in, first_dominates, phase_by, next_turn, phase_after_turn, low_dominates, high_dominates, first_turn}
use Rattle.focused_ils.specs.State.{Tally, State, last_after, phase_after, tally_after, one_where, left_at, focused_parts, first_incumbent, state_from, first_state, HasMostRuns, IsTurn, IsPhaseFit, IsFit}
use Rattle.focused_ils.specs.Laws.Counting.{count-none, raised-new, raised-grows, raised-most}
use Rattle.focused_ils.specs.Laws.Tallies.{exactly, overtaken-where, not_overtaken, not_overtaken-due, last-extended, last-compared, last-earned, most-kept, most-after, trajectory-after, earlier-after, entered-after}

-- ---- questions

-- what holds of the open question, where there is one
pub at_question : (stage : AskedStage) (P : Question → Type 0) → IfSome (question_in stage) P → (q : Question) → stage ≡ Asking q → P q
at_question stage P h q e = subst (λ p. IfSome (question_in p) P) e h

-- the open question is the one of the phase
pub question_so : (last : Incumbent) (phase : Phase) → IfSome (question_in (stage_at last phase)) (λ q. q ≡ question_at last phase)
question_so last Opened = tt
question_so last (High turn) = refl
question_so last (Low turn bound) = refl
question_so last (Further θ n) = refl
question_so last (Compared won) = tt

-- ---- a reply

module _ (allowed : Settings → Type 0) (n : ℕ) where
  one_allowed : (b : Bool) (θ φ : Settings) → allowed θ → allowed φ → allowed (one_of b θ φ)
  one_allowed true θ φ s t = s
  one_allowed false θ φ s t = t

  -- a turn stays one after an evaluation on its places
  turn-kept : (counts : Counts) (θ : Settings) (turn : Turn) → IsTurn allowed n counts turn → IsTurn allowed n (raised counts θ turn.places) turn
  turn-kept counts θ turn f = record {
    low = f.low;
    high = f.high;
    some = f.some;
    within = f.within;
    behind = raised-most counts θ turn.places turn.low turn.places f.behind (omega arith);
    enough = raised-most counts θ turn.places turn.high (turn.places + turn.more) f.enough (omega arith);
  }

  module _ (last : Incumbent) (later : 1 ≤ last.compared) (bonus : ℕ) (counts : Counts) where
    abbrev after_raise : Settings → ℕ → Tally
    after_raise θ m = record { counts = raised counts θ m; last = last; bonus = bonus }

    -- after the reply to the one with more runs, or to the incumbent before it
    high_fit : (turn : Turn) (incumbent : Settings) (x : ℕ) (b : Bool) → IsTurn allowed n counts turn
        → IsPhaseFit allowed n (after_raise (one_of b incumbent turn.high) turn.places) (if b then High turn else Low turn x)
    high_fit turn incumbent x true f = (later, turn-kept counts incumbent turn f)
    high_fit turn incumbent x false f = (later, turn-kept counts turn.high turn f, raised-new counts turn.high turn.places)

    -- after a turn
    turn_fit : (turn : Turn) (worth : ℕ) (low high : Bool) → IsTurn allowed n counts turn → turn.places ≤ count_in counts turn.high → count_in counts turn.high ≤ n
        → IsPhaseFit allowed n (after_raise turn.low turn.places) (phase_after_turn n (raised counts turn.low turn.places) worth turn low high)
    turn_fit turn worth low high f ahead few = at_either (low || high) turn.more (raised-most counts turn.low turn.places turn.high (turn.places + turn.more) f.enough (omega arith))
      where
        some : 1 ≤ turn.places
        some = f.some

        within : turn.places ≤ n
        within = f.within

        still_few : count_in (raised counts turn.low turn.places) turn.high ≤ n
        still_few = raised-most counts turn.low turn.places turn.high n few f.within

        first_some : (b : Bool) → 1 ≤ count_in (raised counts turn.low turn.places) (one_of b turn.low turn.high)
        first_some true = let r : turn.places ≤ count_in (raised counts turn.low turn.places) turn.low = raised-new counts turn.low turn.places in omega (arith, r, some)
        first_some false = let r : count_in counts turn.high ≤ count_in (raised counts turn.low turn.places) turn.high = raised-grows counts turn.low turn.places turn.high in omega (arith, r, some, ahead)

        at_end : (won : Bool) → IsPhaseFit allowed n (after_raise turn.low turn.places) (phase_by won n (raised counts turn.low turn.places) worth (first_in turn))
        at_end true = (later, one_allowed turn.first_is_low turn.low turn.high f.low f.high, (let r = first_some turn.first_is_low in omega (arith, r, some, within)), omega arith)
        at_end false = later

        at_either : (over : Bool) (more : ℕ) → count_in (raised counts turn.low turn.places) turn.high ≤ turn.places + more → IsPhaseFit allowed n (after_raise turn.low turn.places)
            (if over then phase_by (first_dominates turn low high) n (raised counts turn.low turn.places) worth (first_in turn) else next_turn n turn more)
        at_either true more e = at_end (first_dominates turn low high)
        at_either false zero e = later
        at_either false (suc more) e = (
          later,
          record {
            low = f.low;
            high = f.high;
            some = omega (arith, some, within);
            within = omega arith;
            behind = let r : count_in (raised counts turn.low turn.places) turn.low ≤ turn.places = raised-most counts turn.low turn.places turn.low turn.places f.behind (omega arith) in omega (arith, r, within);
            enough = (let h = still_few in omega (arith, e, h));
          },
        )

    -- after the reply to the winner, or to the incumbent before it
    further_fit : (incumbent θ : Settings) (m : ℕ) (b : Bool) → allowed θ → 1 ≤ m → m ≤ n
        → IsPhaseFit allowed n (after_raise (one_of b incumbent θ) m) (if b then Further θ m else Compared true)
    further_fit incumbent θ m true s some few = (later, s, some, few)
    further_fit incumbent θ m false s some few = later

  abbrev FitAfter : Tally → Phase → Question → Type 0
  FitAfter t phase q = (r : Reply) → Fits (ask_of q.config q.places q.bound) r → IsPhaseFit allowed n (tally_after t phase r) (phase_after n t phase r)

  still_later : (last : Incumbent) (q : Question) (r : Reply) → 1 ≤ last.compared → 1 ≤ (last_after last q r).compared
  still_later last q r h = subst (λ m. 1 ≤ m) (sym (last-compared last q r)) h

  phase_fit : (t : Tally) (phase : Phase) → HasMostRuns t → t.last.runs ≤ n → IsPhaseFit allowed n t phase → IfSome (question_in (stage_at t.last phase)) (FitAfter t phase)
  phase_fit t Opened m few f = tt
  phase_fit t (High turn) m few f = high
    where
      q : Question
      q = question_at t.last (High turn)

      high : FitAfter t (High turn) (question_at t.last (High turn))
      high (Exact x) fits =
          let o : Bool = is_overtaken t.last turn.high turn.places in
          high_fit (last_after t.last q (Exact x)) (still_later t.last q (Exact x) f.0) (if o then t.bonus else t.bonus) t.counts turn t.last.config x.0 o f.1
      high Exceeds fits = absurd fits
  phase_fit t (Low turn bound) m few f = low
    where
      q : Question
      q = question_at t.last (Low turn bound)

      within : count_in t.counts turn.high ≤ n
      within = let h : count_in t.counts turn.high ≤ t.last.runs = m.most turn.high in omega (arith, h, few)

      low : FitAfter t (Low turn bound) (question_at t.last (Low turn bound))
      low r fits = turn_fit (last_after t.last q r) (still_later t.last q r f.0) t.bonus t.counts turn t.bonus
          (low_dominates (raised t.counts turn.low turn.places) turn.high turn.places r) (high_dominates bound r) f.1 f.2 within
  phase_fit t (Further θ i) m few f = further
    where
      q : Question
      q = question_at t.last (Further θ i)

      further : FitAfter t (Further θ i) (question_at t.last (Further θ i))
      further (Exact x) fits =
          let o : Bool = is_overtaken t.last θ i in
          further_fit (last_after t.last q (Exact x)) (still_later t.last q (Exact x) f.0) (if o then t.bonus else 0) t.counts t.last.config θ i o f.1 f.2 f.3
      further Exceeds fits = absurd fits
  phase_fit t (Compared won) m few f = tt

  -- ---- the runs

  abbrev MostAfter : Tally → Phase → Question → Type 0
  MostAfter t phase q = (r : Reply) → Fits (ask_of q.config q.places q.bound) r → HasMostRuns (tally_after t phase r)

  most_in_full : (t : Tally) (θ : Settings) (m bonus x : ℕ) → HasMostRuns t
      → HasMostRuns (record { counts = raised t.counts (in_full t.last θ m).config m; last = last_after t.last (in_full t.last θ m) (exactly x); bonus = bonus })
  most_in_full t θ m bonus x f = most-after t f (in_full t.last θ m).config m bonus x (not_overtaken-due t.last θ m (is_overtaken t.last θ m) refl)

  tally_fit : (t : Tally) (phase : Phase) → HasMostRuns t → IsPhaseFit allowed n t phase → IfSome (question_in (stage_at t.last phase)) (MostAfter t phase)
  tally_fit t Opened f p = tt
  tally_fit t (High turn) f p = high
    where
      high : MostAfter t (High turn) (question_at t.last (High turn))
      high (Exact x) fits = most_in_full t turn.high turn.places (if is_overtaken t.last turn.high turn.places then t.bonus else t.bonus) x.0 f
      high Exceeds fits = absurd fits
  tally_fit t (Low turn bound) f p = low
    where
      few : turn.places ≤ t.last.runs
      few = let a : turn.places ≤ count_in t.counts turn.high = p.2 in let m : count_in t.counts turn.high ≤ t.last.runs = f.most turn.high in omega (arith, a, m)

      low : MostAfter t (Low turn bound) (question_at t.last (Low turn bound))
      low (Exact x) fits = most-after t f turn.low turn.places t.bonus x.0 (not_overtaken t.last turn.low turn.places few)
      low Exceeds fits = most-kept t f turn.low turn.places t.bonus few
  tally_fit t (Further θ m) f p = further
    where
      further : MostAfter t (Further θ m) (question_at t.last (Further θ m))
      further (Exact x) fits = most_in_full t θ m (if is_overtaken t.last θ m then t.bonus else 0) x.0 f
      further Exceeds fits = absurd fits
  tally_fit t (Compared won) f p = tt

  -- ---- what is asked

  asked_in_range : (t : Tally) (phase : Phase) → allowed t.last.config → IsPhaseFit allowed n t phase → IfSome (question_in (stage_at t.last phase)) (InRange n allowed)
  asked_in_range t Opened s f = tt
  asked_in_range t (High turn) s f = record { config = one_allowed (is_overtaken t.last turn.high turn.places) t.last.config turn.high s f.1.high; some = f.1.some; within = f.1.within }
  asked_in_range t (Low turn bound) s f = record { config = f.1.low; some = f.1.some; within = f.1.within }
  asked_in_range t (Further θ m) s f = record { config = one_allowed (is_overtaken t.last θ m) t.last.config θ s f.1; some = f.2; within = f.3 }
  asked_in_range t (Compared won) s f = tt

  -- ---- the begin of a comparison

  module _ (t : Tally) (fit : HasMostRuns t) (few : t.last.runs ≤ n) (some : 1 ≤ n) (θ φ : Settings) (s : allowed θ) (u : allowed φ) where
    first_turn_fit : (b : Bool) → IsTurn allowed n t.counts (first_turn b n t.counts θ φ)
    first_turn_fit true =
        let m : count_in t.counts θ ≤ t.last.runs = fit.most θ in
        let k : count_in t.counts φ ≤ t.last.runs = fit.most φ in
        record { low = s; high = u; some = omega (arith, some); within = omega arith; behind = omega (arith, m, few); enough = omega (arith, k, few) }
    first_turn_fit false =
        let m : count_in t.counts φ ≤ t.last.runs = fit.most φ in
        let k : count_in t.counts θ ≤ t.last.runs = fit.most θ in
        record { low = u; high = s; some = omega (arith, some); within = omega arith; behind = omega (arith, m, few); enough = omega (arith, k, few) }

  few_at_begin : (last : Incumbent) (counts : Counts) (θ φ : Settings) (b : Bool) → left_at last (High (first_turn b n counts θ φ)) ≤ 8 * n + 16
  few_at_begin last counts θ φ true = at_either (is_overtaken last φ (min (count_in counts θ + 1) n))
    where
      at_either : (o : Bool) → 3 * n + 4 + one_where o ≤ 8 * n + 16
      at_either true = omega arith
      at_either false = omega arith
  few_at_begin last counts θ φ false = at_either (is_overtaken last θ (min (count_in counts φ + 1) n))
    where
      at_either : (o : Bool) → 3 * n + 4 + one_where o ≤ 8 * n + 16
      at_either true = omega arith
      at_either false = omega arith

-- ---- the answers come to an end

module _ (n : ℕ) where
  abbrev NearerAfter : Tally → Phase → Question → Type 0
  NearerAfter t phase q = (r : Reply) → Fits (ask_of q.config q.places q.bound) r → left_at (tally_after t phase r).last (phase_after n t phase r) < left_at t.last phase

  few_where : (b : Bool) → one_where b ≤ 1
  few_where true = omega arith
  few_where false = omega arith

  high_nearer : (last : Incumbent) (turn : Turn) (x : ℕ) (b : Bool) → is_overtaken last turn.high turn.places ≡ b
      → left_at (last_after last (full_where b last turn.high turn.places) (exactly x)) (if b then High turn else Low turn x) < 3 * turn.more + 4 + one_where b
  high_nearer last turn x true o =
      let h : last.runs < turn.places = (overtaken-where last turn.high turn.places o).1 in
      rw (last-extended last turn.places x None h, not_overtaken (record last { runs = turn.places; sum = x }) turn.high turn.places (omega arith)) (omega arith)
  high_nearer last turn x false o = omega arith

  further_nearer : (last : Incumbent) (θ : Settings) (m x : ℕ) (b : Bool) → is_overtaken last θ m ≡ b
      → left_at (last_after last (full_where b last θ m) (exactly x)) (if b then Further θ m else Compared true) < 1 + one_where b
  further_nearer last θ m x true o =
      let h : last.runs < m = (overtaken-where last θ m o).1 in
      rw (last-extended last m x None h, not_overtaken (record last { runs = m; sum = x }) θ m (omega arith)) (omega arith)
  further_nearer last θ m x false o = omega arith

  turn_nearer : (last : Incumbent) (counts : Counts) (bonus : ℕ) (turn : Turn) (low high : Bool) → left_at last (phase_after_turn n counts bonus turn low high) < 3 * turn.more + 3
  turn_nearer last counts bonus turn low high = at_either (low || high) turn.more
    where
      at_end : (won : Bool) → left_at last (phase_by won n counts bonus (first_in turn)) < 3
      at_end true = let w : one_where (is_overtaken last (first_in turn) (min (count_in counts (first_in turn) + bonus) n)) ≤ 1 = few_where _ in omega (arith, w)
      at_end false = omega arith

      at_either : (over : Bool) (more : ℕ) → left_at last (if over then phase_by (first_dominates turn low high) n counts bonus (first_in turn) else next_turn n turn more) < 3 * more + 3
      at_either true more = let h : left_at last (phase_by (first_dominates turn low high) n counts bonus (first_in turn)) < 3 = at_end (first_dominates turn low high) in omega (arith, h)
      at_either false zero = omega arith
      at_either false (suc more) = let w : one_where (is_overtaken last turn.high (min (turn.places + 1) n)) ≤ 1 = few_where _ in omega (arith, w)

  nearer : (t : Tally) (phase : Phase) → IfSome (question_in (stage_at t.last phase)) (NearerAfter t phase)
  nearer t Opened = tt
  nearer t (High turn) = high
    where
      high : NearerAfter t (High turn) (question_at t.last (High turn))
      high (Exact x) fits = high_nearer t.last turn x.0 (is_overtaken t.last turn.high turn.places) refl
      high Exceeds fits = absurd fits
  nearer t (Low turn bound) = λ r fits.
      turn_nearer (last_after t.last (question_at t.last (Low turn bound)) r) (raised t.counts turn.low turn.places) t.bonus turn (low_dominates (raised t.counts turn.low turn.places) turn.high turn.places r) (high_dominates bound r)
  nearer t (Further θ m) = further
    where
      further : NearerAfter t (Further θ m) (question_at t.last (Further θ m))
      further (Exact x) fits = further_nearer t.last θ m x.0 (is_overtaken t.last θ m) refl
      further Exceeds fits = absurd fits
  nearer t (Compared won) = tt

-- ---- the stages

module _ (allowed : Settings → Type 0) (n : ℕ) (t : Tally) where
  ready_fit : (phase : Phase) → IsPhaseFit allowed n t phase → stage_at t.last phase ≡ Ready → t.last.compared ≡ 0
  ready_fit Opened f e = f
  ready_fit (High turn) f e = absurd (cc)
  ready_fit (Low turn bound) f e = absurd (cc)
  ready_fit (Further θ m) f e = absurd (cc)
  ready_fit (Compared won) f e = absurd (cc)

  decided_fit : (phase : Phase) (b : Bool) → IsPhaseFit allowed n t phase → stage_at t.last phase ≡ Decided b → 1 ≤ t.last.compared
  decided_fit Opened b f e = absurd (cc)
  decided_fit (High turn) b f e = f.0
  decided_fit (Low turn bound) b f e = f.0
  decided_fit (Further θ m) b f e = f.0
  decided_fit (Compared won) b f e = f

-- ---- the law

module _ (n : ℕ) (allowed : Settings → Type 0) where
  fit_after : (c : State) (q : Question) (r : Reply) → IsFit n allowed c → focused_parts.stage c ≡ Asking q
      → Fits (ask_of q.config q.places q.bound) r → IsFit n allowed (focused_parts.after c r)
  fit_after c q r f e fits =
      let range : InRange n allowed q = at_question (focused_parts.stage c) (InRange n allowed) (asked_in_range allowed n c.tally c.phase f.trajectory.config f.phase) q e in
      let same : q ≡ question_at c.tally.last c.phase = at_question (focused_parts.stage c) (λ q. q ≡ question_at c.tally.last c.phase) (question_so c.tally.last c.phase) q e in
      let there : InRange n allowed (question_at c.tally.last c.phase) = subst (λ q. InRange n allowed q) same range in
      record {
        runs = f.runs;
        some = f.some;
        tally = at_question (focused_parts.stage c) (MostAfter allowed n c.tally c.phase) (tally_fit allowed n c.tally c.phase f.tally f.phase) q e r fits;
        phase = rw f.runs (at_question (focused_parts.stage c) (FitAfter allowed n c.tally c.phase) (phase_fit allowed n c.tally c.phase f.tally f.trajectory.runs f.phase) q e r fits);
        trajectory = trajectory-after n allowed c.tally.last c.entries (question_at c.tally.last c.phase) r there.config there.within f.earlier f.trajectory;
        entered = entered-after n allowed c.tally.last c.entries (question_at c.tally.last c.phase) r f.entered;
        earlier = earlier-after n allowed c.tally.last c.entries (question_at c.tally.last c.phase) r f.earlier;
      }

  answered : (c : State) (q : Question) (r : Reply) → IsFit n allowed c → focused_parts.stage c ≡ Asking q
      → Fits (ask_of q.config q.places q.bound) r → Answered focused_parts (IsFit n allowed) c q r
  answered c q r f e fits =
      let same : q ≡ question_at c.tally.last c.phase = at_question (focused_parts.stage c) (λ q. q ≡ question_at c.tally.last c.phase) (question_so c.tally.last c.phase) q e in
      record {
        stays_fit = fit_after c q r f e fits;
        nearer = at_question (focused_parts.stage c) (NearerAfter c.max_runs c.tally c.phase) (nearer c.max_runs c.tally c.phase) q e r fits;
        grown = refl;
        compared = last-compared c.tally.last (question_at c.tally.last c.phase) r;
        incumbent = rw same (last-earned c.tally.last (question_at c.tally.last c.phase) r);
      }

  begins : (c : State) (θ φ : Settings) (m : ℕ) → IsFit n allowed c → c.tally.last.compared < m → allowed θ → allowed φ
      → Begun focused_parts (IsFit n allowed) n c (focused_parts.begun c θ φ m) m
  begins c θ φ m f later s u = record {
    stays_fit = record {
      runs = f.runs;
      some = f.some;
      tally = record { most = f.tally.most; top = f.tally.top };
      phase = (omega (arith, later), rw f.runs (first_turn_fit allowed n c.tally f.tally f.trajectory.runs f.some θ φ s u (nat_le (count_in c.tally.counts θ) (count_in c.tally.counts φ))));
      trajectory = trajectory-begin n allowed c.entries c.tally.last m f.trajectory (omega (arith, later));
      entered = f.entered;
      earlier = f.earlier;
    };
    few = rw f.runs (few_at_begin allowed n (record c.tally.last { compared = m }) c.tally.counts θ φ (nat_le (count_in c.tally.counts θ) (count_in c.tally.counts φ)));
    asks_first = refl;
    same_entries = refl;
    compared = refl;
    incumbent = record { config = refl; runs = refl; sum = refl };
  }

-- whatever fitting replies come
pub focused_steady : (n : ℕ) (allowed : Settings → Type 0) (start : Settings) → 1 ≤ n → allowed start
    → IsSteadyComparer focused_parts (IsFit n allowed) n allowed start (state_from n start)
focused_steady n allowed start some s = record {
  opened = record {
    runs = refl;
    some = some;
    tally = record { most = λ φ. let z = count-none φ in omega (arith, z); top = count-none start };
    phase = refl;
    trajectory = trajectory-push n allowed [] (first_incumbent start) (first_incumbent start) (trajectory-none n allowed (first_incumbent start) s (omega arith)) (omega arith) s (omega arith);
    entered = refl;
    earlier = omega arith;
  };
  few = omega arith;
  nothing_yet = refl;
  in_range = λ c q f e. at_question (focused_parts.stage c) (InRange n allowed) (asked_in_range allowed n c.tally c.phase f.trajectory.config f.phase) q e;
  trajectory = λ c f. f.trajectory;
  entered = λ c f none. f.entered;
  ready_first = λ c f e. ready_fit allowed n c.tally c.phase f.phase e;
  decided_later = λ c b f e. decided_fit allowed n c.tally c.phase b f.phase e;
  answered = λ c q r f e fits. answered n allowed c q r f e fits;
  begins = λ c θ φ m f none later s u. begins n allowed c θ φ m f later s u;
}

-- under the rules of a search
pub rules_steady : (rules : Rules) → AreRules rules → IsSteadyComparer focused_parts (IsFit rules.max_runs (IsConfig rules.space)) rules.max_runs (IsConfig rules.space) (defaults rules.space.params) (first_state rules)
rules_steady rules are = focused_steady rules.max_runs (IsConfig rules.space) (defaults rules.space.params) are.some_run (default_is_config rules.space are.space)
