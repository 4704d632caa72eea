-- BasicILS keeps what a comparer promises whatever fitting replies come.
use Rattle.std.proofs.Common.{◌≡◌, ℕ, ◌≤◌, ◌<◌, ◌⊎◌, inl, inr, Bool, true, false, List, [], ◌++◌, Option, Some, None, IsSome, IfSome, refl, sym, subst, arith}
use Rattle.std.proofs.lemmas.List.{append-nil}
use Rattle.std.proofs.Math.Nat.{le_refl}
use Rattle.param_space.specs.Space.{defaults}
use Rattle.param_space.proofs.Soundness.{default_is_config}
use Rattle.param_space.specs.Configurations.{IsConfig}
use Rattle.uncapped.specs.Procedure.{Settings, Question, Incumbent}
use Rattle.ils_face.specs.Rules.{Rules, AreRules}
use Rattle.ils_face.specs.Replies.{Fits, ask_of}
use Rattle.ils_face.specs.Trajectories.{newest, IsTrajectory}
use Rattle.ils_face.proofs.Trajectories.{newest-push, trajectory-none, trajectory-push, trajectory-begin}
use Rattle.ils_face.specs.declared.asks.Reply.{Reply}
use Rattle.ils_face.specs.declared.asks.Reply.TheVariants.{Exact, Exceeds}
use Rattle.ils_frame.specs.Comparers.{AskedStage, Ready, Asking, Decided, question_in, SameIncumbent, NewIncumbent, Answered, Begun, InRange, IsSteadyComparer}
use Rattle.basic_ils.specs.Comparison.{Phase, Opening, Opened, Second, First, Compared, stage_at, phase_after}
use Rattle.basic_ils.specs.State.{State, evaluated_config, is_renewed, entry, entry_where, added_at, last_after, left_at, basic_parts, first_state, IsPhaseFit, IsEntered, IsFit}

-- ---- questions

-- what holds of the open question, where there is one
pub at_question : (stage : AskedStage) (P : Question → Type 0) → IfSome (question_in stage) P → (q : Question) → stage ≡ Asking q → P q
at_question stage P h q e = subst (λ p. IfSome (question_in p) P) e h

-- ---- what is evaluated

module _ (allowed : Settings → Type 0) where
  evaluated_allowed : (compared : ℕ) (incumbent : Settings) (phase : Phase) → allowed incumbent → IsPhaseFit allowed compared phase → allowed (evaluated_config incumbent phase)
  evaluated_allowed compared incumbent Opening s f = s
  evaluated_allowed compared incumbent Opened s f = s
  evaluated_allowed compared incumbent (Second first second) s f = f.2
  evaluated_allowed compared incumbent (First first bound) s f = f.1
  evaluated_allowed compared incumbent (Compared won) s f = s

newest_compared : (b : Bool) (last e : Incumbent) → e.compared ≡ last.compared → (last_after last (entry_where b e)).compared ≡ last.compared
newest_compared true last e s = s
newest_compared false last e s = refl

-- ---- a reply

module _ (n : ℕ) (allowed : Settings → Type 0) where
  after_compared : (last : Incumbent) (phase : Phase) (r : Reply) → (last_after last (added_at n last phase r)).compared ≡ last.compared
  after_compared last phase (Exact x) = newest_compared (is_renewed last phase x.0) last (entry n last (evaluated_config last.config phase) x.0) refl
  after_compared last phase Exceeds = refl

  -- the entry of a new incumbent, where it is one
  trajectory_where : (most : ℕ) (b : Bool) (es : List Incumbent) (last e : Incumbent)
      → IsTrajectory most allowed es last → e.compared ≡ last.compared → allowed e.config → e.runs ≤ most
      → IsTrajectory most allowed (es ++ entry_where b e) (last_after last (entry_where b e))
  trajectory_where most true es last e t s c r = trajectory-push most allowed es last e t (omega (arith, s)) c r
  trajectory_where most false es last e t s c r = subst (λ es. IsTrajectory most allowed es last) (sym (append-nil es)) t

  trajectory_after : (most : ℕ) (es : List Incumbent) (last : Incumbent) (phase : Phase) (r : Reply)
      → n ≤ most → IsTrajectory most allowed es last → IsPhaseFit allowed last.compared phase
      → IsTrajectory most allowed (es ++ added_at n last phase r) (last_after last (added_at n last phase r))
  trajectory_after most es last phase (Exact x) few t f =
      trajectory_where most (is_renewed last phase x.0) es last (entry n last (evaluated_config last.config phase) x.0) t refl
      (evaluated_allowed allowed last.compared last.config phase t.config f) few
  trajectory_after most es last phase Exceeds few t f = subst (λ es. IsTrajectory most allowed es last) (sym (append-nil es)) t

  newest_where : (b : Bool) (es : List Incumbent) (e : Incumbent) → IsSome (newest es) → IsSome (newest (es ++ entry_where b e))
  newest_where true es e h = subst (λ (o : Option Incumbent). IsSome o) (sym (newest-push es e)) refl
  newest_where false es e h = subst (λ (es : List Incumbent). IsSome (newest es)) (sym (append-nil es)) h

  newest_after : (es : List Incumbent) (last : Incumbent) (phase : Phase) (r : Reply) → IsSome (newest es)
      → IsSome (newest (es ++ added_at n last phase r))
  newest_after es last phase (Exact x) h =
      newest_where (is_renewed last phase x.0) es (entry n last (evaluated_config last.config phase) x.0) h
  newest_after es last phase Exceeds h = newest_where false es last h

  abbrev IsEnteredAfter : List Incumbent → Incumbent → Phase → Reply → Question → Type 0
  IsEnteredAfter es last phase r q = Fits (ask_of q.config q.places q.bound) r → IsEntered (phase_after phase r) (es ++ added_at n last phase r)

  entered_after : (es : List Incumbent) (last : Incumbent) (phase : Phase) (r : Reply) → IsEntered phase es
      → IfSome (question_in (stage_at n last.config phase)) (IsEnteredAfter es last phase r)
  entered_after es last Opening (Exact x) h = λ fits.
      subst (λ (o : Option Incumbent). IsSome o) (sym (newest-push es (entry n last last.config x.0))) refl
  entered_after es last Opening Exceeds h = λ fits. absurd fits
  entered_after es last Opened r h = tt
  entered_after es last (Second first second) (Exact x) h = λ fits. newest_after es last (Second first second) (Exact x) h
  entered_after es last (Second first second) Exceeds h = λ fits. newest_after es last (Second first second) Exceeds h
  entered_after es last (First first bound) (Exact x) h = λ fits. newest_after es last (First first bound) (Exact x) h
  entered_after es last (First first bound) Exceeds h = λ fits. newest_after es last (First first bound) Exceeds h
  entered_after es last (Compared won) r h = tt

  entered_at : (incumbent : Settings) (phase : Phase) (es : List Incumbent) → IsEntered phase es
      → question_in (stage_at n incumbent phase) ≡ None → IsSome (newest es)
  entered_at incumbent Opening es h e = absurd (cc)
  entered_at incumbent Opened es h e = h
  entered_at incumbent (Second first second) es h e = h
  entered_at incumbent (First first bound) es h e = h
  entered_at incumbent (Compared won) es h e = h

  phase_fit : (compared : ℕ) (phase : Phase) (r : Reply) → IsPhaseFit allowed compared phase → IsPhaseFit allowed compared (phase_after phase r)
  phase_fit compared Opening r f = f
  phase_fit compared Opened r f = f
  phase_fit compared (Second first second) (Exact x) f = (f.0, f.1)
  phase_fit compared (Second first second) Exceeds f = f.0
  phase_fit compared (First first bound) (Exact x) f = f.0
  phase_fit compared (First first bound) Exceeds f = f.0
  phase_fit compared (Compared won) r f = f

  same : (last : Incumbent) → SameIncumbent last last
  same last = record { config = refl; runs = refl; sum = refl }

  renewed : (b : Bool) (last : Incumbent) (q : Question) (x : ℕ) (e : Incumbent) → NewIncumbent q (Exact (record { 0 = x })) e → SameIncumbent last (last_after last (entry_where b e)) ⊎ NewIncumbent q (Exact (record { 0 = x })) (last_after last (entry_where b e))
  renewed true last q x e h = inr h
  renewed false last q x e h = inl (same last)

  abbrev Earned : Incumbent → Phase → Question → Type 0
  Earned last phase q = (r : Reply) → SameIncumbent last (last_after last (added_at n last phase r)) ⊎ NewIncumbent q r (last_after last (added_at n last phase r))

  earned_by : (last : Incumbent) (phase : Phase) (q : Question) → evaluated_config last.config phase ≡ q.config → n ≡ q.places → Earned last phase q
  earned_by last phase q c p (Exact x) = renewed (is_renewed last phase x.0) last q x.0 (entry n last (evaluated_config last.config phase) x.0) (record { config = c; runs = p; cost = refl })
  earned_by last phase q c p Exceeds = inl (same last)

  earned : (last : Incumbent) (phase : Phase) → IfSome (question_in (stage_at n last.config phase)) (Earned last phase)
  earned last Opening = earned_by last Opening (record { config = last.config; places = n; bound = None }) refl refl
  earned last Opened = tt
  earned last (Second first second) = earned_by last (Second first second) (record { config = second; places = n; bound = None }) refl refl
  earned last (First first bound) = earned_by last (First first bound) (record { config = first; places = n; bound = Some bound }) refl refl
  earned last (Compared won) = tt

  nearer : (incumbent : Settings) (phase : Phase) (r : Reply) → IfSome (question_in (stage_at n incumbent phase)) (λ q. left_at (phase_after phase r) < left_at phase)
  nearer incumbent Opening r = omega arith
  nearer incumbent Opened r = tt
  nearer incumbent (Second first second) (Exact x) = omega arith
  nearer incumbent (Second first second) Exceeds = omega arith
  nearer incumbent (First first bound) (Exact x) = omega arith
  nearer incumbent (First first bound) Exceeds = omega arith
  nearer incumbent (Compared won) r = tt

  asked_in_range : (last : Incumbent) (phase : Phase) → 1 ≤ n → allowed last.config → IsPhaseFit allowed last.compared phase → IfSome (question_in (stage_at n last.config phase)) (InRange n allowed)
  asked_in_range last Opening some s f = record { config = s; some = some; within = le_refl n }
  asked_in_range last Opened some s f = tt
  asked_in_range last (Second first second) some s f = record { config = f.2; some = some; within = le_refl n }
  asked_in_range last (First first bound) some s f = record { config = f.1; some = some; within = le_refl n }
  asked_in_range last (Compared won) some s f = tt

  few_left : (phase : Phase) → left_at phase ≤ 2
  few_left Opening = omega arith
  few_left Opened = omega arith
  few_left (Second first second) = omega arith
  few_left (First first bound) = omega arith
  few_left (Compared won) = omega arith

  ready_fit : (compared : ℕ) (incumbent : Settings) (phase : Phase) → IsPhaseFit allowed compared phase → stage_at n incumbent phase ≡ Ready → compared ≡ 0
  ready_fit compared incumbent Opening f e = f
  ready_fit compared incumbent Opened f e = f
  ready_fit compared incumbent (Second first second) f e = absurd (cc)
  ready_fit compared incumbent (First first bound) f e = absurd (cc)
  ready_fit compared incumbent (Compared won) f e = absurd (cc)

  decided_fit : (compared : ℕ) (incumbent : Settings) (phase : Phase) (b : Bool) → IsPhaseFit allowed compared phase → stage_at n incumbent phase ≡ Decided b → 1 ≤ compared
  decided_fit compared incumbent Opening b f e = absurd (cc)
  decided_fit compared incumbent Opened b f e = absurd (cc)
  decided_fit compared incumbent (Second first second) b f e = f.0
  decided_fit compared incumbent (First first bound) b f e = f.0
  decided_fit compared incumbent (Compared won) b f e = f

-- ---- the law

module _ (n : ℕ) (allowed : Settings → Type 0) where
  fit_after : (c : State) (q : Question) (r : Reply) → IsFit n allowed c → basic_parts.stage c ≡ Asking q
      → Fits (ask_of q.config q.places q.bound) r → IsFit n allowed (basic_parts.after c r)
  fit_after c q r f e fits = record {
    runs = f.runs;
    some = f.some;
    phase = subst (λ m. IsPhaseFit allowed m (phase_after c.phase r)) (sym (after_compared c.max_runs allowed c.last c.phase r)) (phase_fit c.max_runs allowed c.last.compared c.phase r f.phase);
    trajectory = trajectory_after c.max_runs allowed n c.entries c.last c.phase r (let k = f.runs in omega (arith, k)) f.trajectory f.phase;
    entered = at_question (basic_parts.stage c) (IsEnteredAfter c.max_runs allowed c.entries c.last c.phase r)
        (entered_after c.max_runs allowed c.entries c.last c.phase r f.entered) q e fits;
  }

  answered : (c : State) (q : Question) (r : Reply) → IsFit n allowed c → basic_parts.stage c ≡ Asking q
      → Fits (ask_of q.config q.places q.bound) r → Answered basic_parts (IsFit n allowed) c q r
  answered c q r f e fits = record {
    stays_fit = fit_after c q r f e fits;
    nearer = at_question (basic_parts.stage c) (λ q. left_at (phase_after c.phase r) < left_at c.phase) (nearer c.max_runs allowed c.last.config c.phase r) q e;
    grown = refl;
    compared = after_compared c.max_runs allowed c.last c.phase r;
    incumbent = at_question (basic_parts.stage c) (Earned c.max_runs allowed c.last c.phase) (earned c.max_runs allowed c.last c.phase) q e r;
  }

  begins : (c : State) (θ φ : Settings) (m : ℕ) → IsFit n allowed c → question_in (basic_parts.stage c) ≡ None
      → c.last.compared < m → allowed θ → allowed φ
      → Begun basic_parts (IsFit n allowed) n c (basic_parts.begun c θ φ m) m
  begins c θ φ m f none later s t = record {
    stays_fit = record {
      runs = f.runs;
      some = f.some;
      phase = (omega (arith, later), s, t);
      trajectory = trajectory-begin n allowed c.entries c.last m f.trajectory (omega (arith, later));
      entered = entered_at c.max_runs allowed c.last.config c.phase c.entries f.entered none;
    };
    few = omega arith;
    asks_first = refl;
    same_entries = refl;
    compared = refl;
    incumbent = record { config = refl; runs = refl; sum = refl };
  }

  in_range : (c : State) (q : Question) → IsFit n allowed c → basic_parts.stage c ≡ Asking q → InRange n allowed q
  in_range c q f e =
      let some : 1 ≤ c.max_runs = subst (λ k. 1 ≤ k) (sym f.runs) f.some in
      subst (λ k. InRange k allowed q) f.runs (at_question (basic_parts.stage c) (InRange c.max_runs allowed) (asked_in_range c.max_runs allowed c.last c.phase some f.trajectory.config f.phase) q e)

-- whatever fitting replies come
pub basic_steady : (n : ℕ) (allowed : Settings → Type 0) (start : Settings) → 1 ≤ n → allowed start
    → IsSteadyComparer basic_parts (IsFit n allowed) n allowed start (record { max_runs = n; last = record { compared = 0; runs = 0; sum = 0; config = start }; phase = Opening; entries = [] })
basic_steady n allowed start some s = record {
  opened = record {
    runs = refl;
    some = some;
    phase = refl;
    trajectory = trajectory-none n allowed (record { compared = 0; runs = 0; sum = 0; config = start }) s (omega arith);
    entered = tt;
  };
  few = omega arith;
  nothing_yet = refl;
  in_range = in_range n allowed;
  trajectory = λ c f. f.trajectory;
  entered = λ c f none. entered_at c.max_runs allowed c.last.config c.phase c.entries f.entered none;
  ready_first = λ c f e. ready_fit c.max_runs allowed c.last.compared c.last.config c.phase f.phase e;
  decided_later = λ c b f e. decided_fit c.max_runs allowed c.last.compared c.last.config c.phase b f.phase e;
  answered = λ c q r f e fits. answered n allowed c q r f e fits;
  begins = λ c θ φ m f none later s t. begins n allowed c θ φ m f none later s t;
}

-- under the rules of a search
pub rules_steady : (rules : Rules) → AreRules rules → IsSteadyComparer basic_parts (IsFit rules.max_runs (IsConfig rules.space)) rules.max_runs (IsConfig rules.space) (defaults rules.space.params) (first_state rules)
rules_steady rules are = basic_steady rules.max_runs (IsConfig rules.space) (defaults rules.space.params) are.some_run (default_is_config rules.space are.space)
