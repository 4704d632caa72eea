-- With the replies of total costs BasicILS does what the procedure does.
use Rattle.std.proofs.Common.{◌≡◌, ℕ, ◌≤◌, ◌<◌, Bool, true, false, not, List, [], Option, Some, None, IfSome, nat_le, nat_lt, bytes_eq, if◌then◌else◌, refl, sym, ◌∙◌, ap, arith, inl, inr}
use Rattle.std.proofs.lemmas.List.{append-nil, length_push}
use Rattle.std.proofs.lemmas.Bool.{le-ltb, leb-false, ltb-true, ltb-false, and_cases, not-false}
use Rattle.std.specs.Cmp.{second_so}
use Rattle.std.proofs.lemmas.Slice.Eq.{bytes_eq-Decides}
use Rattle.std.proofs.Math.Bool.{and-false}
use Rattle.std.proofs.Math.Nat.{le_refl}
use Rattle.objective.specs.Costs.{Table}
use Rattle.param_space.specs.Space.{defaults}
use Rattle.param_space.specs.Configurations.{IsConfig}
use Rattle.uncapped.specs.Procedure.{Settings, Sums, Question, Incumbent, PlainState, Goes, Ends, Aborted}
use Rattle.uncapped.specs.Setup.{Setup}
use Rattle.uncapped.specs.Evaluation.{after_ask, after_entry, measure, evaluate, better_basic}
use Rattle.uncapped.specs.Uncapped.{opening_basic, last_of}
use Rattle.ils_face.specs.Rules.{Rules, AreRules}
use Rattle.ils_face.specs.Setups.{setup_of}
use Rattle.ils_face.proofs.Setups.{setup_of-numbers, SetupOf}
use Rattle.ils_face.specs.Follows.{sums_under}
use Rattle.ils_face.specs.Replies.{reply_up_to, cost_asked}
use Rattle.ils_face.specs.declared.asks.Reply.{Reply}
use Rattle.ils_face.specs.declared.asks.Reply.TheVariants.{Exact, Exceeds}
use Rattle.ils_frame.specs.Comparers.{question_in, decision_in, Advanced, GoesOn, AreCostsKnown, opened_state, Keeps}
use Rattle.ils_frame.specs.IncumbentInvariant.{IncumbentInvariant}
use Rattle.ils_frame.proofs.CountedCosts.{counts_after-known}
use Rattle.ils_frame.proofs.KeptIncumbents.{at-first, kept-beside, kept-lost, kept-won, kept-extended}
use Rattle.basic_ils.specs.Comparison.{Phase, Opening, Opened, Second, First, Compared, stage_at}
use Rattle.basic_ils.specs.State.{State, is_better, entry, entry_where, last_after, after_evaluation, win_where, coming_at, coming_in, basic_parts, first_state, IsFit, IsFresh, IsKnown, Stands, StandsAt}
use Rattle.basic_ils.specs.Laws.SteadyLaw.{at_question}
use Rattle.basic_ils.specs.Laws.Evaluations.{counts_after-most, counts_after-top, counts_after-itself, evaluate-known, evaluate-unknown}

-- ---- one evaluation

module _ (n : ℕ) (sums : Sums) (last : Incumbent) (s : PlainState) where
  -- an evaluation in a comparison, with a known cost
  evaluated-known : (θ : Settings) (bound : Option ℕ) (x : ℕ) → s.incumbent ≡ last.config → IsKnown n sums last s → sums θ n ≡ Some x
      → evaluate sums θ n bound s ≡ Goes (win_where (is_better last θ x) θ n x (after_evaluation θ n bound s)) x
  evaluated-known θ bound x i k e = rw (← i) (evaluate-known sums θ n bound s x last.sum k.top (k.most θ) k.sum e)

  -- it leaves the incumbent evaluated on n places
  known_after : (b : Bool) (θ : Settings) (bound : Option ℕ) (x : ℕ) → IsKnown n sums last s → sums θ n ≡ Some x
      → IsKnown n sums (last_after last (entry_where b (entry n last θ x))) (win_where b θ n x (after_evaluation θ n bound s))
  known_after true θ bound x k e = record { most = λ φ. counts_after-most s.counts θ n φ (k.most θ) (k.most φ); top = counts_after-itself s.counts θ n (k.most θ); runs = refl; sum = e }
  known_after false θ bound x k e = record { most = λ φ. counts_after-most s.counts θ n φ (k.most θ) (k.most φ); top = counts_after-top s.counts θ n s.incumbent (k.most θ) k.top; runs = k.runs; sum = k.sum }

  -- and the total costs at all counts known
  costs_known : (b : Bool) (θ : Settings) (bound : Option ℕ) (x : ℕ) → AreCostsKnown sums s → sums θ n ≡ Some x
      → AreCostsKnown sums (win_where b θ n x (after_evaluation θ n bound s))
  costs_known true θ bound x k e = counts_after-known sums s.counts θ n k (rw e refl)
  costs_known false θ bound x k e = counts_after-known sums s.counts θ n k (rw e refl)

  -- what is no better costs at least as much as the incumbent
  no_less : (θ : Settings) (x : ℕ) → s.incumbent ≡ last.config → IsKnown n sums last s → sums θ n ≡ Some x
      → is_better last θ x ≡ false → last.sum ≤ x
  no_less θ x i k e w = elim (and_cases (not (bytes_eq θ last.config)) (nat_lt x last.sum) w) [
    | inl t ↦ (let same : θ ≡ last.config = (bytes_eq-Decides θ last.config).0 (not-false (bytes_eq θ last.config) t) in
        let o : Some x ≡ Some last.sum = sym e ∙ ap (λ φ. sums φ n) (same ∙ sym i) ∙ k.sum in
        let p : x ≡ last.sum = cc in
        omega (arith, p))
    | inr t ↦ ltb-false x last.sum t
  ]

  -- the incumbent costs no more than what was evaluated
  at_most_after : (θ : Settings) (x : ℕ) → s.incumbent ≡ last.config → IsKnown n sums last s → sums θ n ≡ Some x
      → (last_after last (entry_where (is_better last θ x) (entry n last θ x))).sum ≤ x
  at_most_after θ x i k e = at_either (is_better last θ x) refl
    where
      at_either : (b : Bool) → is_better last θ x ≡ b → (last_after last (entry_where b (entry n last θ x))).sum ≤ x
      at_either true w = le_refl x
      at_either false w = no_less θ x i k e w

  module _ (known : IsKnown n sums last s) (g : IncumbentInvariant sums s) (θ : Settings) (bound : Option ℕ) (x : ℕ) (e : sums θ n ≡ Some x) where
    -- the cost of the incumbent's runs
    its_cost : sums s.incumbent (s.counts s.incumbent) ≡ Some last.sum
    its_cost = ap (sums s.incumbent) known.top ∙ known.sum

    -- the invariant where no new incumbent comes of it
    invariant_lost : last.sum ≤ x → IncumbentInvariant sums (after_evaluation θ n bound s)
    invariant_lost h = kept-lost sums s g θ n bound x e last.sum its_cost (let t = known.top in omega (arith, t)) (λ _. h)

    -- and where its cost was replied
    invariant_replied : s.incumbent ≡ last.config → reply_up_to x bound ≡ Exact (record { 0 = x })
        → IncumbentInvariant sums (win_where (is_better last θ x) θ n x (after_evaluation θ n bound s))
    invariant_replied i exact = at_either (is_better last θ x) refl
      where
        at_either : (b : Bool) → is_better last θ x ≡ b → IncumbentInvariant sums (win_where b θ n x (after_evaluation θ n bound s))
        at_either true w =
            let less : x < last.sum = ltb-true x last.sum (second_so (not (bytes_eq θ last.config)) (nat_lt x last.sum) w) in
            kept-won sums s g θ n bound x e last.sum its_cost (sym known.top) (omega (arith, less)) exact
        at_either false w = invariant_lost (no_less θ x i known e w)

-- a cost above a bound that the incumbent keeps is no better
not_better : (last : Incumbent) (θ : Settings) (bound x : ℕ) → last.sum ≤ bound → nat_le x bound ≡ false → is_better last θ x ≡ false
not_better last θ bound x h t =
    let o : bound < x = leb-false x bound t in
    rw (le-ltb x last.sum (omega (arith, h, o))) (and-false (not (bytes_eq θ last.config)))

module _ (b : Bool) (θ : Settings) (n x : ℕ) (bound : Option ℕ) (last : Incumbent) (s : PlainState) where
  -- one more ask, and the entry of a new incumbent
  advanced_by : s.compared ≡ last.compared → Advanced s (win_where b θ n x (after_evaluation θ n bound s)) (record { config = θ; places = n; bound = bound }) (entry_where b (entry n last θ x))
  advanced_by c = at_either b
    where
      at_either : (b : Bool) → Advanced s (win_where b θ n x (after_evaluation θ n bound s)) (record { config = θ; places = n; bound = bound }) (entry_where b (entry n last θ x))
      at_either true = record { asks = refl; counts = refl; entries = rw (c, length_push) refl; event = refl }
      at_either false = record { asks = refl; counts = refl; entries = sym (append-nil s.entries); event = refl }

  incumbent_after : s.incumbent ≡ last.config → (win_where b θ n x (after_evaluation θ n bound s)).incumbent ≡ (last_after last (entry_where b (entry n last θ x))).config
  incumbent_after i = at_either b
    where
      at_either : (b : Bool) → (win_where b θ n x (after_evaluation θ n bound s)).incumbent ≡ (last_after last (entry_where b (entry n last θ x))).config
      at_either true = refl
      at_either false = i

  compared_after : s.compared ≡ last.compared → (win_where b θ n x (after_evaluation θ n bound s)).compared ≡ (last_after last (entry_where b (entry n last θ x))).compared
  compared_after c = at_either b
    where
      at_either : (b : Bool) → (win_where b θ n x (after_evaluation θ n bound s)).compared ≡ (last_after last (entry_where b (entry n last θ x))).compared
      at_either true = c
      at_either false = c

-- ---- what is to come

module _ (setup : Setup) (sums : Sums) (n : ℕ) (m : setup.max_runs ≡ n) (last : Incumbent) (s : PlainState) where
  opening_goes : (x : ℕ) → last.config ≡ setup.start → sums last.config n ≡ Some x
      → coming_at setup sums Opening s ≡ Goes (after_entry last.config n x (after_evaluation last.config n None s)) false
  unfolding opening_basic measure
  opening_goes x c e = rw (← c, m, e) refl

  second_goes : (first second : Settings) (x : ℕ) → s.incumbent ≡ last.config → IsKnown n sums last s → sums second n ≡ Some x
      → coming_at setup sums (Second first second) s ≡ coming_at setup sums (First first x) (win_where (is_better last second x) second n x (after_evaluation second n None s))
  unfolding better_basic
  second_goes first second x i k e = rw (m, evaluated-known n sums last s second None x i k e) refl

  first_goes : (first : Settings) (bound x : ℕ) (won : Bool) → s.incumbent ≡ last.config → IsKnown n sums last s → sums first n ≡ Some x → nat_le x bound ≡ won
      → coming_at setup sums (First first bound) s ≡ Goes (win_where (is_better last first x) first n x (after_evaluation first n (Some bound) s)) won
  first_goes first bound x won i k e t = rw (m, evaluated-known n sums last s first (Some bound) x i k e, t) refl

  opening_aborts : last.config ≡ setup.start → sums last.config n ≡ None → coming_at setup sums Opening s ≡ Ends (after_ask last.config n None s) Aborted
  unfolding opening_basic measure
  opening_aborts c e = rw (← c, m, e) refl

  second_aborts : (first second : Settings) → IsKnown n sums last s → sums second n ≡ None → coming_at setup sums (Second first second) s ≡ Ends (after_ask second n None s) Aborted
  unfolding better_basic
  second_aborts first second k e = rw (m, evaluate-unknown sums second n None s k.top e) refl

  first_aborts : (first : Settings) (bound : ℕ) → IsKnown n sums last s → sums first n ≡ None → coming_at setup sums (First first bound) s ≡ Ends (after_ask first n (Some bound) s) Aborted
  first_aborts first bound k e = rw (m, evaluate-unknown sums first n (Some bound) s k.top e) refl

-- ---- a reply

module _ (setup : Setup) (sums : Sums) (start : Settings) (b : setup.start ≡ start) where
  abbrev GoesOnBy : State → PlainState → Question → Reply → Type 0
  GoesOnBy c s q r = GoesOn basic_parts (Stands start sums) (coming_in setup sums) c s q r

  module _ (n : ℕ) (m : setup.max_runs ≡ n) (last : Incumbent) (entries : List Incumbent) (s : PlainState) (i : s.incumbent ≡ last.config) (c : s.compared ≡ last.compared)
      (v : AreCostsKnown sums s) (g : IncumbentInvariant sums s) where
    abbrev at_phase : Phase → State
    at_phase phase = record { max_runs = n; last = last; phase = phase; entries = entries }

    opening_invariant : IsFresh start last s → (x : ℕ) → sums last.config n ≡ Some x
        → IncumbentInvariant sums (after_entry last.config n x (after_evaluation last.config n None s))
    opening_invariant f x e =
        let t : PlainState = after_evaluation last.config n None s in
        let runs : s.counts s.incumbent ≤ n = (let z : s.counts s.incumbent ≡ 0 = f.counts s.incumbent in omega (arith, z)) in
        kept-beside sums t (kept-extended sums s g last.config n None x e (sym i) runs refl) t.bonus t.compared t.event (after_entry last.config n x t).entries

    opening_replied : IsFresh start last s → (x : ℕ) → sums last.config n ≡ Some x
        → GoesOnBy (at_phase Opening) s (record { config = last.config; places = n; bound = None }) (Exact (record { 0 = x }))
    opening_replied f x e =
        let few : (φ : Settings) → s.counts φ ≤ n = (λ φ. let z : s.counts φ ≡ 0 = f.counts φ in omega (arith, z)) in
        record {
          stays = record {
            incumbent = i;
            compared = c;
            known = costs_known n sums last s false last.config None x v e;
            invariant = opening_invariant f x e;
            phase = record {
              most = λ φ. counts_after-most s.counts last.config n φ (few last.config) (few φ);
              top = rw i (counts_after-itself s.counts last.config n (few last.config));
              runs = refl;
              sum = rw i e;
            };
          };
          same = opening_goes setup sums n m last s x (f.config ∙ sym b) e;
          advanced = record { asks = refl; counts = refl; entries = rw (c, length_push) refl; event = refl };
        }

    second_replied : (first second : Settings) → IsKnown n sums last s → (x : ℕ) → sums second n ≡ Some x
        → GoesOnBy (at_phase (Second first second)) s (record { config = second; places = n; bound = None }) (Exact (record { 0 = x }))
    second_replied first second k x e = record {
      stays = record {
        incumbent = incumbent_after (is_better last second x) second n x None last s i;
        compared = compared_after (is_better last second x) second n x None last s c;
        known = costs_known n sums last s (is_better last second x) second None x v e;
        invariant = invariant_replied n sums last s k g second None x e i refl;
        phase = (known_after n sums last s (is_better last second x) second None x k e, at_most_after n sums last s second x i k e);
      };
      same = second_goes setup sums n m last s first second x i k e;
      advanced = advanced_by (is_better last second x) second n x None last s c;
    }

    first_replied : (first : Settings) (bound : ℕ) → IsKnown n sums last s → last.sum ≤ bound → (x : ℕ) → sums first n ≡ Some x → (t : Bool) → nat_le x bound ≡ t
        → GoesOnBy (at_phase (First first bound)) s (record { config = first; places = n; bound = Some bound }) (if t then Exact (record { 0 = x }) else Exceeds)
    first_replied first bound k h x e true t = record {
      stays = record {
        incumbent = incumbent_after (is_better last first x) first n x (Some bound) last s i;
        compared = compared_after (is_better last first x) first n x (Some bound) last s c;
        known = costs_known n sums last s (is_better last first x) first (Some bound) x v e;
        invariant = invariant_replied n sums last s k g first (Some bound) x e i (rw t refl);
        phase = known_after n sums last s (is_better last first x) first (Some bound) x k e;
      };
      same = first_goes setup sums n m last s first bound x true i k e t;
      advanced = advanced_by (is_better last first x) first n x (Some bound) last s c;
    }
    first_replied first bound k h x e false t = record {
      stays = record {
        incumbent = i;
        compared = c;
        known = costs_known n sums last s false first (Some bound) x v e;
        invariant = invariant_lost n sums last s k g first (Some bound) x e (let o : bound < x = leb-false x bound t in omega (arith, h, o));
        phase = known_after n sums last s false first (Some bound) x k e;
      };
      same = first_goes setup sums n m last s first bound x false i k e t
          ∙ ap (λ b. Goes (win_where b first n x (after_evaluation first n (Some bound) s)) false) (not_better last first bound x h t);
      advanced = advanced_by false first n x (Some bound) last s c;
    }

    abbrev Replied : Phase → Question → Type 0
    Replied phase q = (x : ℕ) → cost_asked sums q ≡ Some x → GoesOnBy (at_phase phase) s q (reply_up_to x q.bound)

    replied_by : (phase : Phase) → StandsAt n start sums last phase s → IfSome (question_in (stage_at n last.config phase)) (Replied phase)
    replied_by Opening k = opening_replied k
    replied_by Opened k = tt
    replied_by (Second first second) k = second_replied first second k
    replied_by (First first bound) k = λ x e. first_replied first bound k.0 k.1 x e (nat_le x bound) refl
    replied_by (Compared won) k = tt

    abbrev Aborts : Phase → Question → Type 0
    Aborts phase q = cost_asked sums q ≡ None → coming_at setup sums phase s ≡ Ends (after_ask q.config q.places q.bound s) Aborted

    aborts_by : (phase : Phase) → StandsAt n start sums last phase s → IfSome (question_in (stage_at n last.config phase)) (Aborts phase)
    aborts_by Opening k = opening_aborts setup sums n m last s (k.config ∙ sym b)
    aborts_by Opened k = tt
    aborts_by (Second first second) k = second_aborts setup sums n m last s first second k
    aborts_by (First first bound) k = first_aborts setup sums n m last s first bound k.0
    aborts_by (Compared won) k = tt

-- ---- what it stands for

-- the same incumbent, by its runs and their cost
same_by : (last : Incumbent) (runs sum : ℕ) → last.runs ≡ runs → last.sum ≡ sum → last ≡ record last { runs = runs; sum = sum }
same_by last runs sum e h = rw (← e, ← h) refl

module _ (n : ℕ) (sums : Sums) (start : Settings) where
  last_known : (last : Incumbent) (s : PlainState) → s.incumbent ≡ last.config → s.compared ≡ last.compared → IsKnown n sums last s → last ≡ last_of sums s
  last_known last s i c k = rw (k.top, k.sum, c, i, ← k.runs) refl

  last_fresh : (last : Incumbent) (s : PlainState) → ((θ : Settings) → sums θ 0 ≡ Some 0) → s.incumbent ≡ last.config → s.compared ≡ last.compared → IsFresh start last s → last ≡ last_of sums s
  last_fresh last s zero i c f = rw (f.counts s.incumbent, zero s.incumbent, c, i) (same_by last 0 0 f.runs f.sum)

  last_by : (last : Incumbent) (phase : Phase) (s : PlainState) → ((θ : Settings) → sums θ 0 ≡ Some 0) → s.incumbent ≡ last.config → s.compared ≡ last.compared → StandsAt n start sums last phase s → last ≡ last_of sums s
  last_by last Opening s zero i c k = last_fresh last s zero i c k
  last_by last Opened s zero i c k = last_known last s i c k
  last_by last (Second first second) s zero i c k = last_known last s i c k
  last_by last (First first bound) s zero i c k = last_known last s i c k.0
  last_by last (Compared won) s zero i c k = last_known last s i c k

  -- the next draw doesn't matter
  redrawn_at : (last : Incumbent) (phase : Phase) (s : PlainState) (e : ℕ) → StandsAt n start sums last phase s → StandsAt n start sums last phase (record s { event = e })
  redrawn_at last Opening s e k = record { counts = k.counts; config = k.config; runs = k.runs; sum = k.sum }
  redrawn_at last Opened s e k = record { most = k.most; top = k.top; runs = k.runs; sum = k.sum }
  redrawn_at last (Second first second) s e k = record { most = k.most; top = k.top; runs = k.runs; sum = k.sum }
  redrawn_at last (First first bound) s e k = (record { most = k.0.most; top = k.0.top; runs = k.0.runs; sum = k.0.sum }, k.1)
  redrawn_at last (Compared won) s e k = record { most = k.most; top = k.top; runs = k.runs; sum = k.sum }

  -- where nothing is asked, the incumbent was evaluated
  none_is_asked : {q : Question} → Some q ≡ None → ⊥
  none_is_asked e = cc

  known_at_rest : (last : Incumbent) (phase : Phase) (s : PlainState) → question_in (stage_at n last.config phase) ≡ None → StandsAt n start sums last phase s → IsKnown n sums last s
  known_at_rest last Opening s e k = absurd (none_is_asked e)
  known_at_rest last Opened s e k = k
  known_at_rest last (Second first second) s e k = k
  known_at_rest last (First first bound) s e k = k.0
  known_at_rest last (Compared won) s e k = k

ended_at : (setup : Setup) (sums : Sums) (n : ℕ) (incumbent : Settings) (phase : Phase) (s : PlainState) (b : Bool) → decision_in (stage_at n incumbent phase) ≡ Some b → coming_at setup sums phase s ≡ Goes s b
ended_at setup sums n incumbent Opening s b e = absurd (cc)
ended_at setup sums n incumbent Opened s b e = let t : false ≡ b = cc in ap (Goes s) t
ended_at setup sums n incumbent (Second first second) s b e = absurd (cc)
ended_at setup sums n incumbent (First first bound) s b e = absurd (cc)
ended_at setup sums n incumbent (Compared won) s b e = let t : won ≡ b = cc in ap (Goes s) t

-- ---- the law

-- before any reply
abbrev first_of : ℕ → Settings → State
first_of n start = record { max_runs = n; last = record { compared = 0; runs = 0; sum = 0; config = start }; phase = Opening; entries = [] }

-- with the replies of total costs
pub basic_keeps : (n : ℕ) (allowed : Settings → Type 0) (start : Settings) (setup : Setup) (sums : Sums) → setup.max_runs ≡ n → setup.start ≡ start → ((θ : Settings) → sums θ 0 ≡ Some 0)
    → Keeps basic_parts (IsFit n allowed) (Stands start sums) (coming_in setup sums) (better_basic setup sums) (opening_basic setup sums) setup sums (first_of n start)
basic_keeps n allowed start setup sums m b zero = record {
  opened = record { incumbent = b; compared = refl; known = λ φ. rw (zero φ) refl; invariant = at-first sums (opened_state basic_parts setup (first_of n start)) (λ φ. refl) zero; phase = record { counts = λ φ. refl; config = refl; runs = refl; sum = refl } };
  opens = refl;
  redrawn = λ c s e k. record { incumbent = k.incumbent; compared = k.compared; known = k.known; invariant = kept-beside sums s k.invariant s.bonus s.compared e s.entries; phase = redrawn_at c.max_runs sums start c.last c.phase s e k.phase };
  answered = λ c s q x f k a e. at_question (basic_parts.stage c) (Replied setup sums start b c.max_runs (m ∙ sym f.runs) c.last c.entries s k.incumbent k.compared k.known k.invariant c.phase)
      (replied_by setup sums start b c.max_runs (m ∙ sym f.runs) c.last c.entries s k.incumbent k.compared k.known k.invariant c.phase k.phase) q a x e;
  aborts = λ c s q f k a e. at_question (basic_parts.stage c) (Aborts setup sums start b c.max_runs (m ∙ sym f.runs) c.last c.entries s k.incumbent k.compared k.known k.invariant c.phase)
      (aborts_by setup sums start b c.max_runs (m ∙ sym f.runs) c.last c.entries s k.incumbent k.compared k.known k.invariant c.phase k.phase) q a e;
  begins = λ c s θ φ j f k none. let h : IsKnown c.max_runs sums c.last s = known_at_rest c.max_runs sums start c.last c.phase s none k.phase in record {
    stays = record { incumbent = k.incumbent; compared = refl; known = k.known; invariant = kept-beside sums s k.invariant s.bonus j s.event s.entries; phase = record { most = h.most; top = h.top; runs = h.runs; sum = h.sum } };
    same = refl;
    unasked = record { asks = refl; counts = refl; entries = refl; event = refl };
  };
  known = λ c s f k. k.known;
  ended = λ c s b e. ended_at setup sums c.max_runs c.last.config c.phase s b e;
  last = λ c s f k. last_by c.max_runs sums start c.last c.phase s zero k.incumbent k.compared k.phase;
  leads = λ c s f k. k.invariant;
}

-- under the rules of a search, with the replies of a table
pub rules_keep : (rules : Rules) (T : Table) → AreRules rules
    → Keeps basic_parts (IsFit rules.max_runs (IsConfig rules.space)) (Stands (defaults rules.space.params) (sums_under rules T)) (coming_in (setup_of rules) (sums_under rules T)) (better_basic (setup_of rules) (sums_under rules T)) (opening_basic (setup_of rules) (sums_under rules T)) (setup_of rules) (sums_under rules T) (first_state rules)
rules_keep rules T are =
    let s : SetupOf rules (setup_of rules) = setup_of-numbers rules in
    basic_keeps rules.max_runs (IsConfig rules.space) (defaults rules.space.params) (setup_of rules) (sums_under rules T) s.max_runs s.start (λ θ. refl)
