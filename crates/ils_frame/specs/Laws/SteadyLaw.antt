-- A search over any comparer keeps what every search promises, whatever fitting replies come.
use Rattle.std.proofs.Common.{ℕ, ◌≡◌, ◌≤◌, ◌⊎◌, inl, inr, Bool, true, false, not, List, [], ◌∷◌, ◌++◌, Option, Some, None, refl, sym, ◌∙◌, ap, subst, arith}
use Rattle.std.proofs.lemmas.Bool.{false≢true}
use Rattle.objective.specs.Limits
use Rattle.param_space.specs.Configurations.{IsConfig}
use Rattle.uncapped.specs.Procedure.{Question, Incumbent}
use Rattle.uncapped.specs.Setup.{Setup}
use Rattle.ils_face.specs.declared.asks.Ask.{Ask}
use Rattle.ils_face.specs.declared.asks.Ask.TheVariants.{End}
use Rattle.ils_face.specs.declared.asks.Reply.{Reply}
use Rattle.ils_face.specs.declared.asks.Reply.TheVariants.{Exact}
use Rattle.ils_face.specs.Replies.{Fits, ask_of, ask_for}
use Rattle.ils_face.specs.Rules.{Rules, AreRules}
use Rattle.ils_face.proofs.Setups.{SetupOf, setup_of-numbers}
use Rattle.ils_face.specs.Views.{View, AreFitting}
use Rattle.ils_face.specs.Trajectories.{IsTrajectory}
use Rattle.ils_face.specs.Steady.{IsEvaluation, IsAsk, AsksFor, WasReplied, IsEarned, Steps, IsSteady}
use Rattle.ils_frame.specs.Comparers.{AskedStage, Ready, Asking, Decided, is_asking, question_in, Parts, SameIncumbent, NewIncumbent, InRange, IsSteadyComparer}
use Rattle.ils_frame.specs.Machine.{Machine, first_machine, next_machine, after_all, view_of, machine_after, shown_after}
use Rattle.ils_frame.specs.Laws.AllowedConfigs.{DrawsAllowed}
use Rattle.ils_frame.specs.Laws.MachineInvariant.{IsFitting, Replied, replies, not-asking, first_machine-settled, then_same, then_new}
use Rattle.ils_face.specs.Setups.{setup_of}
use Rattle.ils_frame.specs.Laws.AllowedDraws.{draws_allowed}
use Rattle.param_space.specs.Space.{defaults}

-- a reply that fits what a stage shows fits its question
pub record FitsAt (p : AskedStage) (r : Reply) : Type 0 where
  pub question : Question
  pub here : p ≡ Asking question
  pub fits : Fits (ask_of question.config question.places question.bound) r

pub fits_at : (p : AskedStage) (r : Reply) → Fits (ask_for (question_in p)) r → FitsAt p r
fits_at Ready r i = absurd i
fits_at (Asking q) r i = record { question = q; here = refl; fits = i }
fits_at (Decided b) r i = absurd i

asks_question : (q : Question) → AsksFor (ask_of q.config q.places q.bound) q.config q.places
asks_question q = at_either q.bound
  where
    at_either : (bound : Option ℕ) → AsksFor (ask_of q.config q.places bound) q.config q.places
    at_either None = (refl, refl)
    at_either (Some b) = (refl, refl)

ends_without : (p : AskedStage) → ask_for (question_in p) ≡ End → is_asking p ≡ false
ends_without Ready e = refl
ends_without (Asking q) e = absurd (at_either q.bound e)
  where
    at_either : (bound : Option ℕ) → ask_of q.config q.places bound ≡ End → ⊥
    at_either None e = cc
    at_either (Some b) e = cc
ends_without (Decided b) e = refl

module _ {S : Type 0} (parts : Parts S) (setup : Setup) where
  pub after_all-none : (f : Machine S) → after_all parts setup f [] ≡ f
  unfolding after_all
  after_all-none f = refl

  pub after_all-more : (f : Machine S) (rs : List Reply) (r : Reply) → after_all parts setup f (rs ++ r ∷ []) ≡ next_machine parts setup (after_all parts setup f rs) r
  unfolding after_all
  after_all-more f [] r = refl
  after_all-more f (x ∷ rs) r = after_all-more (next_machine parts setup f x) rs r

  -- what is shown after replies that follow a machine
  abbrev pub shown_from : Machine S → List Reply → View
  shown_from f rs = view_of parts setup (after_all parts setup f rs)

module _ {S : Type 0} (parts : Parts S) (fit : S → Type 0) (rules : Rules) (setup : Setup) (same : SetupOf rules setup) (draws : DrawsAllowed (IsConfig rules.space) setup) (few_steps : setup.strength ≤ Limits.max_strength)
    (first : S) (steady : IsSteadyComparer parts fit setup.max_runs (IsConfig rules.space) setup.start first) where
  abbrev Fitting : Machine S → Type 0
  Fitting f = IsFitting parts fit setup (IsConfig rules.space) draws few_steps first steady f

  one_more : (f : Machine S) (r : Reply) → Fitting f → (a : FitsAt (parts.stage f.comparer) r) → Replied parts fit setup (IsConfig rules.space) draws few_steps first steady f a.question r
  one_more f r k a = replies parts fit setup (IsConfig rules.space) draws few_steps first steady f a.question r k a.here a.fits

  pub reached : (f : Machine S) → Fitting f → (rs : List Reply) → AreFitting (shown_from parts setup f) rs → Fitting (after_all parts setup f rs)
  unfolding after_all
  reached f k [] i = k
  reached f k (r ∷ later) i = reached (next_machine parts setup f r) (one_more f r k (fits_at (parts.stage f.comparer) r i.0)).fitting later i.1

  abbrev Earned : Machine S → List Reply → Type 0
  Earned f rs = SameIncumbent (parts.last f.comparer) (parts.last (after_all parts setup f rs).comparer)
      ⊎ WasReplied (shown_from parts setup f) rs (parts.last (after_all parts setup f rs).comparer).config (parts.last (after_all parts setup f rs).comparer).runs (parts.last (after_all parts setup f rs).comparer).sum

  asks_here : (p : AskedStage) (q : Question) → p ≡ Asking q → AsksFor (ask_for (question_in p)) q.config q.places
  asks_here p q e = subst (λ p. AsksFor (ask_for (question_in p)) q.config q.places) (sym e) (asks_question q)

  was_replied : (ask : Ask) (q : Question) (r : Reply) (last : Incumbent) → AsksFor ask q.config q.places → NewIncumbent q r last → AsksFor ask last.config last.runs × (r ≡ Exact (record { 0 = last.sum }))
  was_replied ask q r last a n = (rw (n.config, n.runs) a, n.cost)

  pub earned : (f : Machine S) → Fitting f → (rs : List Reply) → AreFitting (shown_from parts setup f) rs → Earned f rs
  unfolding after_all
  earned f k [] i = inl (record { config = refl; runs = refl; sum = refl })
  earned f k (r ∷ later) i =
      let a : FitsAt (parts.stage f.comparer) r = fits_at (parts.stage f.comparer) r i.0 in
      let t : Replied parts fit setup (IsConfig rules.space) draws few_steps first steady f a.question r = one_more f r k a in
      let g : Machine S = next_machine parts setup f r in
      let end : Incumbent = parts.last (after_all parts setup g later).comparer in
      elim (earned g t.fitting later i.1) [
        | inr w ↦ inr (inr w)
        | inl s ↦ elim t.incumbent [
          | inl p ↦ inl (then_same parts fit setup (IsConfig rules.space) draws few_steps first steady (parts.last f.comparer) (parts.last g.comparer) end p s)
          | inr n ↦ inr (inl (was_replied (ask_for (question_in (parts.stage f.comparer))) a.question r end (asks_here (parts.stage f.comparer) a.question a.here)
              (then_new parts fit setup (IsConfig rules.space) draws few_steps first steady a.question r (parts.last g.comparer) end n s)))
        ]
      ]

  pub first_fitting : Fitting (first_machine parts setup first)
  first_fitting = (first_machine-settled parts fit setup (IsConfig rules.space) draws few_steps first steady).fitting

  is_ask : (p : AskedStage) → ((q : Question) → p ≡ Asking q → InRange setup.max_runs (IsConfig rules.space) q) → IsAsk rules (ask_for (question_in p))
  is_ask Ready h = tt
  is_ask (Asking q) h = at_either q.bound (h q refl)
    where
      within : InRange setup.max_runs (IsConfig rules.space) q → IsEvaluation rules q.config q.places
      within i = record { config = i.config; some = i.some; within = let w : q.places ≤ setup.max_runs = i.within in let e : setup.max_runs ≡ rules.max_runs = same.max_runs in omega (arith, w, e) }

      at_either : (bound : Option ℕ) → InRange setup.max_runs (IsConfig rules.space) q → IsAsk rules (ask_of q.config q.places bound)
      at_either None i = within i
      at_either (Some b) i = within i
  is_ask (Decided b) h = tt

  over_at : (o : Bool) (p : AskedStage) → is_asking p ≡ not o → is_asking p ≡ false → o ≡ true
  over_at true p e z = refl
  over_at false p e z = absurd (false≢true (sym z ∙ e))

  abbrev from_first : List Reply → View
  from_first = shown_from parts setup (first_machine parts setup first)

  abbrev at_end : List Reply → Machine S
  at_end rs = after_all parts setup (first_machine parts setup first) rs

  none_earned : (rs : List Reply) (a b : Incumbent) → a ≡ record { compared = 0; runs = 0; sum = 0; config = setup.start } → SameIncumbent a b → IsEarned from_first rs b
  none_earned rs a b e s = inl (s.runs ∙ ap (λ i. i.runs) e, s.sum ∙ ap (λ i. i.sum) e)

  steps : (f : Machine S) (r : Reply) → Fitting f → Fits (view_of parts setup f).ask r → Steps (view_of parts setup f) (view_of parts setup (next_machine parts setup f r))
  steps f r k i =
      let a : FitsAt (parts.stage f.comparer) r = fits_at (parts.stage f.comparer) r i in
      let t : Replied parts fit setup (IsConfig rules.space) draws few_steps first steady f a.question r = one_more f r k a in
      record { falls = t.falls; grows = record { added = parts.added f.comparer r; grown = t.grown } }

  pub search_steady : IsSteady rules from_first
  search_steady = record {
    asks = λ rs i. let k : Fitting (at_end rs) = reached (first_machine parts setup first) first_fitting rs i in
        is_ask (parts.stage (at_end rs).comparer) (λ q e. steady.in_range (at_end rs).comparer q k.stays_fit e);
    trajectory = λ rs i. let k : Fitting (at_end rs) = reached (first_machine parts setup first) first_fitting rs i in
        subst (λ n. IsTrajectory n (IsConfig rules.space) (parts.entries (at_end rs).comparer) (parts.last (at_end rs).comparer))
        same.max_runs (steady.trajectory (at_end rs).comparer k.stays_fit);
    earned = λ rs i. elim (earned (first_machine parts setup first) first_fitting rs i) [
      | inl s ↦ none_earned rs (parts.last first) (parts.last (at_end rs).comparer) steady.nothing_yet
          (then_same parts fit setup (IsConfig rules.space) draws few_steps first steady (parts.last first) (parts.last (first_machine parts setup first).comparer) (parts.last (at_end rs).comparer)
          (first_machine-settled parts fit setup (IsConfig rules.space) draws few_steps first steady).incumbent s)
      | inr w ↦ inr w
    ];
    spent = λ rs i e. let k : Fitting (at_end rs) = reached (first_machine parts setup first) first_fitting rs i in
        k.spent (over_at (at_end rs).over (parts.stage (at_end rs).comparer) k.asks (ends_without (parts.stage (at_end rs).comparer) e)) ∙ same.budget;
    opened = λ rs i e. let k : Fitting (at_end rs) = reached (first_machine parts setup first) first_fitting rs i in
        steady.entered (at_end rs).comparer k.stays_fit
        (not-asking (parts.stage (at_end rs).comparer) (ends_without (parts.stage (at_end rs).comparer) e));
    steps = λ rs r i fits. let k : Fitting (at_end rs) = reached (first_machine parts setup first) first_fitting rs i in
        rw (after_all-more parts setup (first_machine parts setup first) rs r) (steps (at_end rs) r k fits);
  }

-- ---- by the rules of a search

module _ {S : Type 0} (parts : Parts S) (first : S) (rules : Rules) where
  pub few-steps : AreRules rules → (setup_of rules).strength ≤ Limits.max_strength
  unfolding setup_of
  few-steps are = are.strength_in_range

  module _ (are : AreRules rules) (fit : S → Type 0) (steady : IsSteadyComparer parts fit rules.max_runs (IsConfig rules.space) (defaults rules.space.params) first) where
    pub steady-setup : IsSteadyComparer parts fit (setup_of rules).max_runs (IsConfig rules.space) (setup_of rules).start first
    unfolding setup_of
    steady-setup = steady

    abbrev pub FittingByRules : Machine S → Type 0
    FittingByRules f = IsFitting parts fit (setup_of rules) (IsConfig rules.space) (draws_allowed rules are) (few-steps are) first steady-setup f

    pub fitting-here : (rs : List Reply) → AreFitting (shown_after parts first rules) rs → FittingByRules (machine_after parts first rules rs)
    fitting-here rs i = reached parts fit rules (setup_of rules) (setup_of-numbers rules) (draws_allowed rules are) (few-steps are) first steady-setup
        (first_machine parts (setup_of rules) first) (first_fitting parts fit rules (setup_of rules) (setup_of-numbers rules) (draws_allowed rules are) (few-steps are) first steady-setup) rs i

    -- what holds whatever fitting replies come
    pub laws_steady : IsSteady rules (shown_after parts first rules)
    laws_steady = search_steady parts fit rules (setup_of rules) (setup_of-numbers rules) (draws_allowed rules are) (few-steps are) first steady-setup
