-- One more reply: the machine that it leads to, and that all replies still fit.
use Rattle.std.proofs.Common.{◌≡◌, ◌+◌, ◌*◌, ◌^◌, ◌≤◌, ◌<◌, Bool, true, false, List, [], ◌∷◌, ◌++◌, Option, Some, None, refl, sym, ◌∙◌, ap, subst, arith}
use Rattle.std.proofs.lemmas.Bool.{false≢true}
use Rattle.objective.specs.Limits
use Rattle.param_space.specs.Configurations.{IsConfig}
use Rattle.param_space.specs.Space.{defaults}
use Rattle.ils_face.specs.declared.asks.Reply.{Reply}
use Rattle.ils_face.specs.Replies.{Fits, ask_for}
use Rattle.ils_face.specs.Rules.{Rules, AreRules}
use Rattle.ils_face.specs.Setups.{setup_of}
use Rattle.ils_face.proofs.Setups.{setup_of-numbers}
use Rattle.ils_face.specs.Views.{AreFitting}
use Rattle.ils_frame.specs.declared.purpose.Purpose.TheVariants.{Opening}
use Rattle.ils_frame.specs.Comparers.{AskedStage, Ready, Asking, Decided, is_asking, question_in, decision_in, Parts, Answered, IsSteadyComparer}
use Rattle.ils_frame.specs.NextComparison.{next}
use Rattle.ils_frame.specs.Machine.{Machine, begin, settle, first_machine, next_machine, machine_after, shown_after}
use Rattle.ils_frame.specs.AllowedPurposes.{IsPurposeAllowed}
use Rattle.ils_frame.specs.Laws.AllowedDraws.{draws_allowed}
use Rattle.ils_frame.specs.Laws.MachineInvariant.{most_draws, live}
use Rattle.ils_frame.specs.Laws.SteadyLaw.{FittingByRules, FitsAt, fits_at, after_all-none, after_all-more, few-steps, steady-setup, fitting-here}

-- where something was decided nothing is asked
pub decided-asks : (p : AskedStage) (b : Bool) → decision_in p ≡ Some b → question_in p ≡ None
decided-asks Ready b e = refl
decided-asks (Asking q) b e = absurd (cc)
decided-asks (Decided d) b e = refl

module _ {S : Type 0} (parts : Parts S) (first : S) (rules : Rules) where
  -- what is at hand when a reply comes
  pub record CanAnswer (f : Machine S) : Type 0 where
    pub allowed : IsPurposeAllowed (IsConfig rules.space) f.purpose
    pub drawn : f.event < 2 ^ 57
    pub within : (parts.last f.comparer).compared ≤ rules.budget
    pub going : f.over ≡ false

  module _ (are : AreRules rules) (fit : S → Type 0) (steady : IsSteadyComparer parts fit rules.max_runs (IsConfig rules.space) (defaults rules.space.params) first) where
    pub can-answer : (f : Machine S) (rs : List Reply) (r : Reply) → f ≡ machine_after parts first rules rs → AreFitting (shown_after parts first rules) rs → Fits (ask_for (question_in (parts.stage f.comparer))) r → CanAnswer f
    can-answer f rs r e i fits =
        let k : FittingByRules parts first rules are fit steady f = subst (FittingByRules parts first rules are fit steady) (sym e) (fitting-here parts first rules are fit steady rs i) in
        let a : FitsAt (parts.stage f.comparer) r = fits_at (parts.stage f.comparer) r fits in
        let going : f.over ≡ false = live parts fit (setup_of rules) (IsConfig rules.space) (draws_allowed rules are) (few-steps parts first rules are) first (steady-setup parts first rules are fit steady) f a.question k a.here in
        record {
          allowed = k.named;
          drawn = let d : f.event ≤ most_draws * ((parts.last f.comparer).compared + 1) = k.drawn going in let w : (parts.last f.comparer).compared ≤ (setup_of rules).budget = k.within in let e : (setup_of rules).budget ≡ rules.budget = (setup_of-numbers rules).budget in let b : rules.budget ≤ Limits.max_comparisons = are.budget_in_range in omega (arith, d, w, e, b);
          within = let w : (parts.last f.comparer).compared ≤ (setup_of rules).budget = k.within in let b : (setup_of rules).budget ≡ rules.budget = (setup_of-numbers rules).budget in omega (arith, w, b);
          going = going;
        }

    pub compared-kept : (f : Machine S) (rs : List Reply) (r : Reply) → f ≡ machine_after parts first rules rs → AreFitting (shown_after parts first rules) rs → Fits (ask_for (question_in (parts.stage f.comparer))) r → (parts.last (parts.after f.comparer r)).compared ≡ (parts.last f.comparer).compared
    compared-kept f rs r e i fits =
        let k : FittingByRules parts first rules are fit steady f = subst (FittingByRules parts first rules are fit steady) (sym e) (fitting-here parts first rules are fit steady rs i) in
        let a : FitsAt (parts.stage f.comparer) r = fits_at (parts.stage f.comparer) r fits in
        let t : Answered parts fit f.comparer a.question r = (steady-setup parts first rules are fit steady).answered f.comparer a.question r k.stays_fit a.here a.fits in
        t.compared

    -- the machine after one more reply
    pub one-more : (f g : Machine S) (rs items : List Reply) (r : Reply) → f ≡ machine_after parts first rules rs → items ≡ rs ++ r ∷ [] → next_machine parts (setup_of rules) f r ≡ g → g ≡ machine_after parts first rules items
    one-more f g rs items r e i a =
        sym a ∙ ap (λ h. next_machine parts (setup_of rules) h r) e ∙ sym (after_all-more parts (setup_of rules) (first_machine parts (setup_of rules) first) rs r) ∙ ap (machine_after parts first rules) (sym i)

    -- where an ask follows
    pub asks-on : (f : Machine S) (d : S) (rs : List Reply) (r : Reply) (o : Option Bool) → f ≡ machine_after parts first rules rs → AreFitting (shown_after parts first rules) rs → Fits (ask_for (question_in (parts.stage f.comparer))) r
        → o ≡ decision_in (parts.stage (parts.after f.comparer r)) → o ≡ None → d ≡ parts.after f.comparer r
        → next_machine parts (setup_of rules) f r ≡ record { comparer = d; purpose = f.purpose; event = f.event; over = f.over }
    unfolding settle
    asks-on f d rs r o e i fits h n c =
        ap (settle parts (setup_of rules) (parts.after f.comparer r) f.purpose f.event) (sym h ∙ n)
        ∙ ap (λ k. record { comparer = k; purpose = f.purpose; event = f.event; over = false }) (sym c)
        ∙ ap (λ b. record { comparer = d; purpose = f.purpose; event = f.event; over = b }) (sym (can-answer f rs r e i fits).going)

    -- where the comparison is decided, the next one begins
    pub begins-next : (f g : Machine S) (d : S) (rs : List Reply) (r : Reply) (o : Option Bool) (won : Bool) → f ≡ machine_after parts first rules rs → AreFitting (shown_after parts first rules) rs → Fits (ask_for (question_in (parts.stage f.comparer))) r
        → o ≡ decision_in (parts.stage (parts.after f.comparer r)) → o ≡ Some won → d ≡ parts.after f.comparer r
        → g ≡ begin parts (setup_of rules) d (next (setup_of rules) (parts.last f.comparer).compared f.purpose won f.event)
        → next_machine parts (setup_of rules) f r ≡ g
    unfolding settle
    begins-next f g d rs r o won e i fits h n c b =
        ap (settle parts (setup_of rules) (parts.after f.comparer r) f.purpose f.event) (sym h ∙ n)
        ∙ ap (λ m. begin parts (setup_of rules) (parts.after f.comparer r) (next (setup_of rules) m f.purpose won f.event)) (compared-kept f rs r e i fits)
        ∙ ap (λ k. begin parts (setup_of rules) k (next (setup_of rules) (parts.last f.comparer).compared f.purpose won f.event)) (sym c)
        ∙ sym b

  -- the opened machine where an ask is open
  pub opens-asking : is_asking (parts.stage first) ≡ true → record { comparer = first; purpose = Opening; event = 0; over = false } ≡ machine_after parts first rules []
  unfolding settle
  opens-asking a = opens-at (parts.stage first) refl a ∙ sym (after_all-none parts (setup_of rules) (first_machine parts (setup_of rules) first))
    where
      opens-at : (p : AskedStage) → parts.stage first ≡ p → is_asking p ≡ true → record { comparer = first; purpose = Opening; event = 0; over = false } ≡ settle parts (setup_of rules) first Opening 0 (decision_in (parts.stage first))
      opens-at Ready e b = absurd (false≢true b)
      opens-at (Asking q) e b = ap (settle parts (setup_of rules) first Opening 0) (sym (ap decision_in e))
      opens-at (Decided d) e b = absurd (false≢true b)

  -- the opened machine where nothing is asked: the next comparison begins
  pub opens-next : (g : Machine S) → is_asking (parts.stage first) ≡ false → g ≡ begin parts (setup_of rules) first (next (setup_of rules) (parts.last first).compared Opening false 0) → g ≡ machine_after parts first rules []
  unfolding settle
  opens-next g a b = b ∙ opens-at (parts.stage first) refl a ∙ sym (after_all-none parts (setup_of rules) (first_machine parts (setup_of rules) first))
    where
      opens-at : (p : AskedStage) → parts.stage first ≡ p → is_asking p ≡ false → begin parts (setup_of rules) first (next (setup_of rules) (parts.last first).compared Opening false 0) ≡ settle parts (setup_of rules) first Opening 0 (decision_in (parts.stage first))
      opens-at Ready e b = ap (settle parts (setup_of rules) first Opening 0) (sym (ap decision_in e))
      opens-at (Asking q) e b = absurd (false≢true (sym b))
      opens-at (Decided d) e b = ap (settle parts (setup_of rules) first Opening 0) (sym (ap decision_in e))
