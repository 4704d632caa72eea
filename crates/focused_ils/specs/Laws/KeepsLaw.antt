-- With the replies of total costs FocusedILS does what the procedure does.
use Rattle.std.proofs.Common.{◌≡◌, ℕ, zero, suc, ◌≤◌, ◌<◌, Bool, true, false, not, ◌&&◌, ◌||◌, ◌==◌, List, Some, None, IfSome, nat_le, nat_lt, bytes_eq, if◌then◌else◌, refl, sym, ◌∙◌, ap, arith, eq-eqb}
use Rattle.std.proofs.lemmas.List.{append-nil, length_push}
use Rattle.std.proofs.lemmas.Bool.{le-ltb, le-leb, leb-false, ltb-false, eqb-true}
use Rattle.std.proofs.lemmas.Slice.Eq.{bytes_eq-Decides}
use Rattle.std.proofs.Math.Bool.{and-false, and-true}
use Rattle.objective.specs.Costs.{Table}
use Rattle.param_space.specs.Space.{defaults}
use Rattle.param_space.specs.Configurations.{IsConfig}
use Rattle.uncapped.specs.Procedure.{Settings, Sums, Question, Incumbent, PlainState, Step, Goes, Ends, Aborted, goes_on, ◌>>=◌, give}
use Rattle.uncapped.specs.Setup.{Setup}
use Rattle.uncapped.specs.Evaluation.{after_ask, evaluate, better_focused}
use Rattle.uncapped.specs.Uncapped.{opening_focused, at_first, last_of}
use Rattle.ils_face.specs.Rules.{Rules, AreRules}
use Rattle.ils_face.specs.Setups.{setup_of}
use Rattle.ils_face.proofs.Setups.{setup_of-numbers, SetupOf}
use Rattle.ils_face.specs.Follows.{sums_under}
use Rattle.ils_face.specs.Replies.{reply_up_to, cost_asked}
use Rattle.ils_face.specs.declared.asks.Reply.{Reply}
use Rattle.ils_face.specs.declared.asks.Reply.TheVariants.{Exceeds}
use Rattle.ils_frame.specs.Comparers.{Asking, question_in, decision_in, Advanced, GoesOn, Starts, AreCostsKnown, opened_state, Keeps}
use Rattle.ils_frame.specs.IncumbentInvariant.{IncumbentInvariant}
use Rattle.ils_frame.proofs.CountedCosts.{counts_after-known}
use Rattle.ils_frame.proofs.KeptIncumbents.{at-first, kept-beside, kept-lost, kept-won, kept-extended}
use Rattle.focused_ils.specs.Counts.{Counts, count_in, raised}
use Rattle.focused_ils.specs.Comparison.{Turn, Phase, Opened, High, Low, Further, Compared, is_overtaken, one_of, full_where, question_at, stage_at, low_dominates, high_dominates, first_in, first_dominates, phase_by, next_turn, phase_after_turn}
use Rattle.focused_ils.specs.State.{Tally, State, is_better, is_extended, entry, last_where, last_after, entry_where, added_by, after_evaluation, win_where, replied_by, bonus_next, cleared_at, started_at, decision_after, turns_after, turn_from_low, coming_at, coming_in, focused_parts, state_from, first_state, HasMostRuns, IsTurn, IsPhaseFit, IsFit, IsBound, StandsAt, Stands}
use Rattle.focused_ils.specs.Laws.Counting.{count-none, raised-itself, raised-grows, raised-same}
use Rattle.focused_ils.specs.Laws.Tallies.{exactly, not_overtaken, not_overtaken-due, better-where, extended-where, no-more, no_better-itself}
use Rattle.focused_ils.specs.Laws.SteadyLaw.{at_question}
use Rattle.focused_ils.specs.Laws.Evaluations.{IsIncumbent, evaluate-overtaken, evaluate-known, evaluate-unknown, evaluate-stopped}
use Rattle.focused_ils.specs.Laws.Turns.{turn-ends, begins-so}

-- ---- an evaluation with a known cost

module _ (sums : Sums) (last : Incumbent) (cost : sums last.config last.runs ≡ Some last.sum) (q : Question) (x : ℕ) (e : cost_asked sums q ≡ Some x) where
  -- the cost of the incumbent's runs is known after it
  cost_after : sums (last_after last q (exactly x)).config (last_after last q (exactly x)).runs ≡ Some (last_after last q (exactly x)).sum
  cost_after = at_either (is_better last q.config q.places x) (is_extended last q.config q.places) refl
    where
      at_either : (b d : Bool) → is_extended last q.config q.places ≡ d
          → sums (last_where b d last q.config q.places x).config (last_where b d last q.config q.places x).runs ≡ Some (last_where b d last q.config q.places x).sum
      at_either true d w = e
      at_either false true w = ap (λ θ. sums θ q.places) (sym (extended-where last q.config q.places w).0) ∙ e
      at_either false false w = cost

  same_cost : (θ : Settings) → θ ≡ last.config → sums θ last.runs ≡ Some x → x ≡ last.sum
  same_cost θ same u =
      let o : Some x ≡ Some last.sum = sym u ∙ ap (λ φ. sums φ last.runs) same ∙ cost in
      cc

  -- what is no better on the incumbent's places costs at least as much
  no_less : q.places ≡ last.runs → is_better last q.config q.places x ≡ false → last.sum ≤ x
  no_less p w = at_either (bytes_eq q.config last.config) refl w
    where
      at_either : (b : Bool) → bytes_eq q.config last.config ≡ b → (not b && (q.places == last.runs) && nat_lt x last.sum) ≡ false → last.sum ≤ x
      at_either true t w = let z : x ≡ last.sum = same_cost q.config ((bytes_eq-Decides q.config last.config).0 t) (ap (sums q.config) (sym p) ∙ e) in omega (arith, z)
      at_either false t w = ltb-false x last.sum (sym (ap (λ b. b && nat_lt x last.sum) (eq-eqb q.places last.runs p)) ∙ w)

  -- on the incumbent's places, that one costs no more after it
  least_after : q.places ≡ (last_after last q (exactly x)).runs → (last_after last q (exactly x)).sum ≤ x
  least_after = at_either (is_better last q.config q.places x) refl (is_extended last q.config q.places)
    where
      at_either : (b : Bool) → is_better last q.config q.places x ≡ b → (d : Bool)
          → q.places ≡ (last_where b d last q.config q.places x).runs → (last_where b d last q.config q.places x).sum ≤ x
      at_either true w d p = omega arith
      at_either false w true p = omega arith
      at_either false w false p = no_less p w

-- what exceeds a bound that hides nothing isn't better
not_better : (last : Incumbent) (θ : Settings) (i bound x : ℕ) → (i ≡ last.runs → last.sum ≤ bound) → nat_le x bound ≡ false → is_better last θ i x ≡ false
not_better last θ i bound x h t = at_either (i == last.runs) refl
  where
    at_either : (b : Bool) → (i == last.runs) ≡ b → (not (bytes_eq θ last.config) && b && nat_lt x last.sum) ≡ false
    at_either false e = rw (and-false (not (bytes_eq θ last.config))) refl
    at_either true e =
        let s : last.sum ≤ bound = h (eqb-true i last.runs e) in
        let o : bound < x = leb-false x bound t in
        rw (le-ltb x last.sum (omega (arith, s, o))) (and-false (not (bytes_eq θ last.config) && true))

module _ (q : Question) (x : ℕ) (last : Incumbent) (s : PlainState) where
  abbrev won_where : Bool → PlainState
  won_where b = win_where b q.config q.places x (after_evaluation q s)

  -- one more ask, and the entry of a new incumbent
  advanced_by : (b : Bool) → s.compared ≡ last.compared → Advanced s (won_where b) q (entry_where b (entry last q.config q.places x))
  advanced_by true c = record { asks = refl; counts = refl; entries = rw (c, length_push) refl; event = refl }
  advanced_by false c = record { asks = refl; counts = refl; entries = sym (append-nil s.entries); event = refl }

  incumbent_after : (b d : Bool) → s.incumbent ≡ last.config → (won_where b).incumbent ≡ (last_where b d last q.config q.places x).config
  incumbent_after true d i = refl
  incumbent_after false true i = i
  incumbent_after false false i = i

  compared_after : (b d : Bool) → s.compared ≡ last.compared → (won_where b).compared ≡ (last_where b d last q.config q.places x).compared
  compared_after true d c = c
  compared_after false true c = c
  compared_after false false c = c

  bonus_after : (b : Bool) → (won_where b).bonus ≡ s.bonus
  bonus_after true = refl
  bonus_after false = refl

  counts_after_win : (b : Bool) (counts : Counts) → ((φ : Settings) → s.counts φ ≡ count_in counts φ) → (φ : Settings) → (won_where b).counts φ ≡ count_in (raised counts q.config q.places) φ
  counts_after_win true counts same φ = raised-same counts q.config q.places s.counts same φ
  counts_after_win false counts same φ = raised-same counts q.config q.places s.counts same φ

  known_after : (sums : Sums) (b : Bool) → AreCostsKnown sums s → cost_asked sums q ≡ Some x → AreCostsKnown sums (won_where b)
  known_after sums true v e = counts_after-known sums s.counts q.config q.places v (rw e refl)
  known_after sums false v e = counts_after-known sums s.counts q.config q.places v (rw e refl)

-- ---- what it stands for

-- all but the phase
pub record StandsFor (sums : Sums) (t : Tally) (s : PlainState) : Type 0 where
  pub incumbent : s.incumbent ≡ t.last.config
  pub compared : s.compared ≡ t.last.compared
  pub bonus : s.bonus ≡ t.bonus
  pub counts : (φ : Settings) → s.counts φ ≡ count_in t.counts φ
  pub known : AreCostsKnown sums s
  pub invariant : IncumbentInvariant sums s
  pub cost : sums t.last.config t.last.runs ≡ Some t.last.sum

module _ (sums : Sums) (t : Tally) (s : PlainState) (f : HasMostRuns t) (k : StandsFor sums t s) where
  pub incumbent_so : IsIncumbent sums t.last s
  incumbent_so = record { config = k.incumbent; runs = k.counts t.last.config ∙ f.top; cost = k.cost }

  top_so : s.counts s.incumbent ≡ t.last.runs
  top_so = ap s.counts k.incumbent ∙ incumbent_so.runs

  cost_so : sums s.incumbent (s.counts s.incumbent) ≡ Some t.last.sum
  cost_so = ap (sums s.incumbent) top_so ∙ ap (λ θ. sums θ t.last.runs) k.incumbent ∙ k.cost

  module _ (q : Question) (x : ℕ) (e : cost_asked sums q ≡ Some x) where
    -- the invariant where the incumbent stays and has as many runs as before
    invariant_lost : q.places ≤ t.last.runs → (q.places ≡ t.last.runs → t.last.sum ≤ x) → IncumbentInvariant sums (after_evaluation q s)
    invariant_lost few h = kept-lost sums s k.invariant q.config q.places q.bound x e t.last.sum cost_so (rw top_so few) (λ p. h (p ∙ top_so))

    -- the invariant after a cost
    invariant_after : is_overtaken t.last q.config q.places ≡ false → reply_up_to x q.bound ≡ exactly x
        → IncumbentInvariant sums (replied_by t.last q (exactly x) s)
    invariant_after o exact = at_either (is_better t.last q.config q.places x) refl (is_extended t.last q.config q.places) refl
      where
        at_either : (b : Bool) → is_better t.last q.config q.places x ≡ b → (d : Bool) → is_extended t.last q.config q.places ≡ d
            → IncumbentInvariant sums (win_where b q.config q.places x (after_evaluation q s))
        at_either true w d v =
            let p : (bytes_eq q.config t.last.config ≡ false) × (q.places ≡ t.last.runs) × (x < t.last.sum) = better-where t.last q.config q.places x w in
            let less : x < t.last.sum = p.2 in
            kept-won sums s k.invariant q.config q.places q.bound x e t.last.sum cost_so (p.1 ∙ sym top_so) (omega (arith, less)) exact
        at_either false w true v =
            let p : (q.config ≡ t.last.config) × (t.last.runs < q.places) = extended-where t.last q.config q.places v in
            let more : t.last.runs < q.places = p.1 in
            kept-extended sums s k.invariant q.config q.places q.bound x e (p.0 ∙ sym k.incumbent) (let z = top_so in omega (arith, z, more)) exact
        at_either false w false v = invariant_lost (no-more t.last q.config q.places o v) (λ p. no_less sums t.last k.cost q x e p w)

    -- after a cost
    stands_after : is_overtaken t.last q.config q.places ≡ false → reply_up_to x q.bound ≡ exactly x
        → StandsFor sums (record { counts = raised t.counts q.config q.places; last = last_after t.last q (exactly x); bonus = t.bonus }) (replied_by t.last q (exactly x) s)
    stands_after o exact =
        let b : Bool = is_better t.last q.config q.places x in
        let d : Bool = is_extended t.last q.config q.places in
        record {
          incumbent = incumbent_after q x t.last s b d k.incumbent;
          compared = compared_after q x t.last s b d k.compared;
          bonus = bonus_after q x t.last s b ∙ k.bonus;
          counts = counts_after_win q x t.last s b t.counts k.counts;
          known = known_after q x t.last s sums b k.known e;
          invariant = invariant_after o exact;
          cost = cost_after sums t.last k.cost q x e;
        }

    -- after a cost above the bound
    stands_exceeded : q.places ≤ t.last.runs → (q.places ≡ t.last.runs → t.last.sum ≤ x)
        → StandsFor sums (record { counts = raised t.counts q.config q.places; last = t.last; bonus = t.bonus }) (after_evaluation q s)
    stands_exceeded few h = record {
      incumbent = k.incumbent;
      compared = k.compared;
      bonus = k.bonus;
      counts = raised-same t.counts q.config q.places s.counts k.counts;
      known = counts_after-known sums s.counts q.config q.places k.known (rw e refl);
      invariant = invariant_lost few h;
      cost = k.cost;
    }

module _ (sums : Sums) (t : Tally) (s : PlainState) (k : StandsFor sums t s) where
  -- at the next phase, or at the same one
  stands_next : (phase : Phase) (b : Bool) → StandsFor sums (record t { bonus = if b then t.bonus else bonus_next phase t.bonus }) (if b then s else cleared_at phase s)
  stands_next phase true = k
  stands_next Opened false = k
  stands_next (High turn) false = k
  stands_next (Low turn bound) false = k
  stands_next (Further θ i) false = record {
    incumbent = k.incumbent;
    compared = k.compared;
    bonus = refl;
    counts = k.counts;
    known = k.known;
    invariant = kept-beside sums s k.invariant 0 s.compared s.event s.entries;
    cost = k.cost;
  }
  stands_next (Compared won) false = k

with_phase : (n : ℕ) (sums : Sums) (t : Tally) (phase : Phase) (entries : List Incumbent) (s : PlainState) → StandsFor sums t s → StandsAt sums t.last phase
    → Stands sums (record { max_runs = n; tally = t; phase = phase; entries = entries }) s
with_phase n sums t phase entries s k p = record { incumbent = k.incumbent; compared = k.compared; bonus = k.bonus; counts = k.counts; known = k.known; invariant = k.invariant; cost = k.cost; phase = p }

without_phase : (sums : Sums) (c : State) (s : PlainState) → Stands sums c s → StandsFor sums c.tally s
without_phase sums c s k = record { incumbent = k.incumbent; compared = k.compared; bonus = k.bonus; counts = k.counts; known = k.known; invariant = k.invariant; cost = k.cost }

-- ---- a reply

module _ (setup : Setup) (sums : Sums) (n : ℕ) (m : setup.max_runs ≡ n) (allowed : Settings → Type 0) (t : Tally) (entries : List Incumbent) (s : PlainState) (f : HasMostRuns t) (k : StandsFor sums t s) where
  abbrev at_phase : Phase → State
  at_phase phase = record { max_runs = n; tally = t; phase = phase; entries = entries }

  abbrev GoesOnBy : Phase → Question → Reply → Type 0
  GoesOnBy phase q r = GoesOn focused_parts (Stands sums) (coming_in setup sums) (at_phase phase) s q r

  is_incumbent : IsIncumbent sums t.last s
  is_incumbent = incumbent_so sums t s f k

  -- what follows the evaluation of the one with more runs
  abbrev after_high : Turn → Step ℕ → Step Bool
  after_high turn p = goes_on (goes_on p (λ x. turn_from_low setup sums turn x)) (λ u. decision_after setup sums turn)

  -- the one with more runs, or the incumbent before it
  high_goes : (turn : Turn) (x : ℕ) (b : Bool) → is_overtaken t.last turn.high turn.places ≡ b → sums (one_of b t.last.config turn.high) turn.places ≡ Some x
      → coming_at setup sums (High turn) s
      ≡ coming_at setup sums (if b then High turn else Low turn x)
      (if b then replied_by t.last (full_where b t.last turn.high turn.places) (exactly x) s
      else replied_by t.last (full_where b t.last turn.high turn.places) (exactly x) s)
  high_goes turn x true o e = rw (no_better-itself t.last turn.places x)
      (ap (after_high turn) (evaluate-overtaken sums t.last s is_incumbent turn.high turn.places None x o e))
  high_goes turn x false o e = ap (after_high turn) (evaluate-known sums t.last s is_incumbent turn.high turn.places None x o e)

  high_bound : (turn : Turn) (x : ℕ) (b : Bool) → sums (one_of b t.last.config turn.high) turn.places ≡ Some x
      → StandsAt sums (last_after t.last (full_where b t.last turn.high turn.places) (exactly x)) (if b then High turn else Low turn x)
  high_bound turn x true e = tt
  high_bound turn x false e = record { cost = e; least = least_after sums t.last k.cost (record { config = turn.high; places = turn.places; bound = None }) x e }

  next_advanced : (phase : Phase) (b : Bool) (q : Question) (r : Reply) (p : PlainState) → Advanced s p q (added_by t.last q r) → Advanced s (if b then p else cleared_at phase p) q (added_by t.last q r)
  next_advanced phase true q r p a = a
  next_advanced Opened false q r p a = a
  next_advanced (High turn) false q r p a = a
  next_advanced (Low turn bound) false q r p a = a
  next_advanced (Further θ i) false q r p a = record { asks = a.asks; counts = a.counts; entries = a.entries; event = a.event }
  next_advanced (Compared won) false q r p a = a

  high_replied : (turn : Turn) (x : ℕ) → cost_asked sums (question_at t.last (High turn)) ≡ Some x → GoesOnBy (High turn) (question_at t.last (High turn)) (exactly x)
  high_replied turn x e =
      let q : Question = question_at t.last (High turn) in
      let o : Bool = is_overtaken t.last turn.high turn.places in
      record {
        stays = with_phase n sums _ _ _ _ (stands_next sums _ _ (stands_after sums t s f k q x e (not_overtaken-due t.last turn.high turn.places o refl) refl) (High turn) o) (high_bound turn x o e);
        same = high_goes turn x o refl e;
        advanced = next_advanced (High turn) o q (exactly x) _ (advanced_by q x t.last s (is_better t.last q.config q.places x) k.compared);
      }

  -- the winner, or the incumbent before it
  further_goes : (θ : Settings) (i x : ℕ) (b : Bool) → is_overtaken t.last θ i ≡ b → sums (one_of b t.last.config θ) i ≡ Some x
      → coming_at setup sums (Further θ i) s
      ≡ coming_at setup sums (if b then Further θ i else Compared true)
      (if b then replied_by t.last (full_where b t.last θ i) (exactly x) s
      else record (replied_by t.last (full_where b t.last θ i) (exactly x) s) { bonus = 0 })
  further_goes θ i x true o e = rw (no_better-itself t.last i x, evaluate-overtaken sums t.last s is_incumbent θ i None x o e) refl
  further_goes θ i x false o e = rw (evaluate-known sums t.last s is_incumbent θ i None x o e) refl

  further_stands : (θ : Settings) (i : ℕ) (b : Bool) (last : Incumbent) → StandsAt sums last (if b then Further θ i else Compared true)
  further_stands θ i true last = tt
  further_stands θ i false last = tt

  further_replied : (θ : Settings) (i x : ℕ) → cost_asked sums (question_at t.last (Further θ i)) ≡ Some x → GoesOnBy (Further θ i) (question_at t.last (Further θ i)) (exactly x)
  further_replied θ i x e =
      let q : Question = question_at t.last (Further θ i) in
      let o : Bool = is_overtaken t.last θ i in
      record {
        stays = with_phase n sums _ _ _ _ (stands_next sums _ _ (stands_after sums t s f k q x e (not_overtaken-due t.last θ i o refl) refl) (Further θ i) o) (further_stands θ i o (last_after t.last q (exactly x)));
        same = further_goes θ i x o refl e;
        advanced = next_advanced (Further θ i) o q (exactly x) _ (advanced_by q x t.last s (is_better t.last q.config q.places x) k.compared);
      }

  -- ---- the one that catches up

  turn_stands : (turn : Turn) (counts : Counts) (low high : Bool) (last : Incumbent) → StandsAt sums last (phase_after_turn n counts t.bonus turn low high)
  turn_stands turn counts low high last = at_either (low || high) turn.more
    where
      at_end : (won : Bool) → StandsAt sums last (phase_by won n counts t.bonus (first_in turn))
      at_end true = tt
      at_end false = tt

      at_either : (over : Bool) (more : ℕ) → StandsAt sums last (if over then phase_by (first_dominates turn low high) n counts t.bonus (first_in turn) else next_turn n turn more)
      at_either true more = at_end (first_dominates turn low high)
      at_either false zero = tt
      at_either false (suc more) = tt

  module _ (turn : Turn) (g : IsTurn allowed n t.counts turn) (ahead : turn.places ≤ count_in t.counts turn.high) (bound : ℕ) (h : IsBound sums t.last turn bound) (x : ℕ) (e : sums turn.low turn.places ≡ Some x) where
    abbrev its_question : Question
    its_question = question_at t.last (Low turn bound)

    abbrev counts_then : Counts
    counts_then = raised t.counts turn.low turn.places

    caught_up : count_in counts_then turn.low ≡ turn.places
    caught_up = let b : count_in t.counts turn.low ≤ turn.places = g.behind in raised-itself t.counts turn.low turn.places ∙ omega (arith, b)

    still_ahead : turn.places ≤ count_in counts_then turn.high
    still_ahead = let r : count_in t.counts turn.high ≤ count_in counts_then turn.high = raised-grows t.counts turn.low turn.places turn.high in omega (arith, ahead, r)

    few : turn.places ≤ t.last.runs
    few = let p : count_in t.counts turn.high ≤ t.last.runs = f.most turn.high in omega (arith, p, ahead)

    within : is_overtaken t.last turn.low turn.places ≡ false
    within = not_overtaken t.last turn.low turn.places few

    -- what exceeds the bound costs at least as much as the incumbent
    no_worse : turn.places ≡ t.last.runs → bound < x → t.last.sum ≤ x
    no_worse p o = let l : t.last.sum ≤ bound = h.least p in omega (arith, l, o)

    abbrev after_low : PlainState
    after_low = win_where (is_better t.last turn.low turn.places x) turn.low turn.places x (after_evaluation its_question s)

    low_goes : coming_at setup sums (Low turn bound) s ≡ goes_on (turns_after setup sums turn after_low) (λ u. decision_after setup sums turn)
    low_goes = ap (λ p. goes_on (goes_on p (λ y. turns_after setup sums turn)) (λ u. decision_after setup sums turn))
        (evaluate-known sums t.last s is_incumbent turn.low turn.places (Some bound) x within e)

    -- the phase after the turn, by who dominates
    abbrev phase_then : Phase
    phase_then = phase_after_turn n counts_then t.bonus turn (nat_le (count_in counts_then turn.high) turn.places && nat_le x bound) (nat_le bound x)

    turn_goes : coming_at setup sums (Low turn bound) s ≡ coming_at setup sums phase_then after_low
    turn_goes =
        let w : Bool = is_better t.last turn.low turn.places x in
        let same : (φ : Settings) → after_low.counts φ ≡ count_in counts_then φ = counts_after_win its_question x t.last s w t.counts k.counts in
        let bonus : after_low.bonus ≡ t.bonus = bonus_after its_question x t.last s w ∙ k.bonus in
        low_goes
        ∙ turn-ends setup sums n m counts_then t.bonus turn.low turn.high turn.places after_low same bonus caught_up bound x still_ahead h.cost e
        turn.first_is_low turn.more

    low_replied : (b : Bool) → nat_le x bound ≡ b → GoesOnBy (Low turn bound) its_question (if b then exactly x else Exceeds)
    low_replied true u = record {
      stays = with_phase n sums _ _ _ _ (stands_after sums t s f k its_question x e within (rw u refl))
          (turn_stands turn counts_then (low_dominates counts_then turn.high turn.places (exactly x)) (high_dominates bound (exactly x)) (last_after t.last its_question (exactly x)));
      same = turn_goes ∙ rw (u, and-true (nat_le (count_in counts_then turn.high) turn.places)) refl;
      advanced = advanced_by its_question x t.last s (is_better t.last turn.low turn.places x) k.compared;
    }
    low_replied false u = record {
      stays = with_phase n sums _ _ _ _ (stands_exceeded sums t s f k its_question x e few (λ p. no_worse p (leb-false x bound u))) (turn_stands turn counts_then false true t.last);
      same =
          let o : bound < x = leb-false x bound u in
          turn_goes
          ∙ rw (not_better t.last turn.low turn.places bound x h.least u, u, and-false (nat_le (count_in counts_then turn.high) turn.places), le-leb bound x (omega (arith, o))) refl;
      advanced = advanced_by its_question x t.last s false k.compared;
    }

  -- ---- by the phase

  abbrev Replied : Phase → Question → Type 0
  Replied phase q = (x : ℕ) → cost_asked sums q ≡ Some x → GoesOnBy phase q (reply_up_to x q.bound)

  replied : (phase : Phase) → IsPhaseFit allowed n t phase → StandsAt sums t.last phase → IfSome (question_in (stage_at t.last phase)) (Replied phase)
  replied Opened p h = tt
  replied (High turn) p h = high_replied turn
  replied (Low turn bound) p h = λ x e. low_replied turn p.1 p.2 bound h x e (nat_le x bound) refl
  replied (Further θ i) p h = further_replied θ i
  replied (Compared won) p h = tt

  abbrev Aborts : Phase → Question → Type 0
  Aborts phase q = cost_asked sums q ≡ None → coming_at setup sums phase s ≡ Ends (after_ask q.config q.places q.bound s) Aborted

  in_full_aborts : (θ : Settings) (i : ℕ) (b : Bool) → is_overtaken t.last θ i ≡ b → sums (one_of b t.last.config θ) i ≡ None
      → evaluate sums θ i None s ≡ Ends (after_ask (one_of b t.last.config θ) i None s) Aborted
  in_full_aborts θ i true o e = evaluate-stopped sums t.last s is_incumbent θ i None o e
  in_full_aborts θ i false o e = evaluate-unknown sums t.last s is_incumbent θ i None o e

  aborts : (phase : Phase) → IsPhaseFit allowed n t phase → IfSome (question_in (stage_at t.last phase)) (Aborts phase)
  aborts Opened p = tt
  aborts (High turn) p = λ e. rw (in_full_aborts turn.high turn.places (is_overtaken t.last turn.high turn.places) refl e) refl
  aborts (Low turn bound) p = λ e.
      let a : turn.places ≤ count_in t.counts turn.high = p.2 in
      let m : count_in t.counts turn.high ≤ t.last.runs = f.most turn.high in
      rw (evaluate-unknown sums t.last s is_incumbent turn.low turn.places (Some bound) (not_overtaken t.last turn.low turn.places (omega (arith, m, a))) e) refl
  aborts (Further θ i) p = λ e. rw (in_full_aborts θ i (is_overtaken t.last θ i) refl e) refl
  aborts (Compared won) p = tt

-- ---- at rest

last_known : (sums : Sums) (t : Tally) (s : PlainState) → HasMostRuns t → StandsFor sums t s → t.last ≡ last_of sums s
last_known sums t s f k = rw (k.incumbent, k.compared, k.counts t.last.config, f.top, k.cost) refl

ended_at : (setup : Setup) (sums : Sums) (last : Incumbent) (phase : Phase) (s : PlainState) (b : Bool) → decision_in (stage_at last phase) ≡ Some b → coming_at setup sums phase s ≡ Goes s b
ended_at setup sums last Opened s b e = let t : false ≡ b = cc in ap (Goes s) t
ended_at setup sums last (High turn) s b e = absurd (cc)
ended_at setup sums last (Low turn bound) s b e = absurd (cc)
ended_at setup sums last (Further θ i) s b e = absurd (cc)
ended_at setup sums last (Compared won) s b e = let t : won ≡ b = cc in ap (Goes s) t

opens : (setup : Setup) (sums : Sums) (start : Settings) → setup.start ≡ start
    → coming_at setup sums Opened (opened_state focused_parts setup (state_from setup.max_runs start)) ≡ (opening_focused setup >>= λ _. give false) (at_first setup)
unfolding opening_focused
opens setup sums start b = rw (← b) refl

-- ---- the law

module _ (setup : Setup) (sums : Sums) (n : ℕ) (m : setup.max_runs ≡ n) (allowed : Settings → Type 0) (c : State) (s : PlainState) (f : IsFit n allowed c) (k : Stands sums c s) where
  runs_so : setup.max_runs ≡ c.max_runs
  runs_so = m ∙ sym f.runs

  phase_so : IsPhaseFit allowed c.max_runs c.tally c.phase
  phase_so = rw f.runs f.phase

  answered : (q : Question) (x : ℕ) → focused_parts.stage c ≡ Asking q → cost_asked sums q ≡ Some x
      → GoesOn focused_parts (Stands sums) (coming_in setup sums) c s q (reply_up_to x q.bound)
  answered q x a e = at_question (focused_parts.stage c) (Replied setup sums c.max_runs runs_so allowed c.tally c.entries s f.tally (without_phase sums c s k) c.phase)
      (replied setup sums c.max_runs runs_so allowed c.tally c.entries s f.tally (without_phase sums c s k) c.phase phase_so k.phase) q a x e

  aborted : (q : Question) → focused_parts.stage c ≡ Asking q → cost_asked sums q ≡ None → coming_in setup sums c s ≡ Ends (after_ask q.config q.places q.bound s) Aborted
  aborted q a e = at_question (focused_parts.stage c) (Aborts setup sums c.max_runs runs_so allowed c.tally c.entries s f.tally (without_phase sums c s k) c.phase)
      (aborts setup sums c.max_runs runs_so allowed c.tally c.entries s f.tally (without_phase sums c s k) c.phase phase_so) q a e

  begins : (θ φ : Settings) (j : ℕ) → Starts focused_parts (Stands sums) (coming_in setup sums) (better_focused setup sums) c θ φ j s
  begins θ φ j = record {
    stays = record {
      incumbent = k.incumbent;
      compared = refl;
      bonus = rw (k.bonus, k.counts θ, k.counts φ) refl;
      counts = k.counts;
      known = k.known;
      invariant = kept-beside sums s k.invariant (started_at θ φ j s).bonus j s.event s.entries;
      cost = k.cost;
      phase = tt;
    };
    same = begins-so setup sums c.max_runs runs_so c.tally.counts s k.counts θ φ j;
    unasked = record { asks = refl; counts = refl; entries = refl; event = refl };
  }

-- with the replies of total costs
pub focused_keeps : (n : ℕ) (allowed : Settings → Type 0) (start : Settings) (setup : Setup) (sums : Sums) → setup.max_runs ≡ n → setup.start ≡ start → ((θ : Settings) → sums θ 0 ≡ Some 0)
    → Keeps focused_parts (IsFit n allowed) (Stands sums) (coming_in setup sums) (better_focused setup sums) (opening_focused setup) setup sums (state_from n start)
focused_keeps n allowed start setup sums m b nothing = record {
  opened = record { incumbent = b; compared = refl; bonus = refl; counts = λ φ. sym (count-none φ); known = λ φ. rw (nothing φ) refl; invariant = at-first sums (opened_state focused_parts setup (state_from n start)) (λ φ. refl) nothing; cost = nothing start; phase = tt };
  opens = opens setup sums start b;
  redrawn = λ c s e k. record {
    incumbent = k.incumbent;
    compared = k.compared;
    bonus = k.bonus;
    counts = k.counts;
    known = k.known;
    invariant = kept-beside sums s k.invariant s.bonus s.compared e s.entries;
    cost = k.cost;
    phase = k.phase;
  };
  answered = λ c s q x f k a e. answered setup sums n m allowed c s f k q x a e;
  aborts = λ c s q f k a e. aborted setup sums n m allowed c s f k q a e;
  begins = λ c s θ φ j f k none. begins setup sums n m allowed c s f k θ φ j;
  known = λ c s f k. k.known;
  ended = λ c s b e. ended_at setup sums c.tally.last c.phase s b e;
  last = λ c s f k. last_known sums c.tally s f.tally (without_phase sums c s k);
  leads = λ c s f k. k.invariant;
}

-- under the rules of a search, with the replies of a table
pub rules_keep : (rules : Rules) (T : Table) → AreRules rules
    → Keeps focused_parts (IsFit rules.max_runs (IsConfig rules.space)) (Stands (sums_under rules T)) (coming_in (setup_of rules) (sums_under rules T)) (better_focused (setup_of rules) (sums_under rules T)) (opening_focused (setup_of rules)) (setup_of rules) (sums_under rules T) (first_state rules)
rules_keep rules T are =
    let s : SetupOf rules (setup_of rules) = setup_of-numbers rules in
    focused_keeps rules.max_runs (IsConfig rules.space) (defaults rules.space.params) (setup_of rules) (sums_under rules T) s.max_runs s.start (λ θ. refl)
