-- Whatever fitting replies come: the answers come to an end, at the end the budget is used up, and the
-- incumbent's cost was replied.
use Rattle.std.proofs.Common.{ℕ, suc, ◌≡◌, ◌+◌, ◌-◌, ◌*◌, ◌≤◌, ◌<◌, ◌⊎◌, inl, inr, Bool, true, false, not, ◌++◌, None, ◌==◌, if◌then◌else◌, refl, sym, ◌∙◌, ap, arith}
use Rattle.std.proofs.lemmas.Bool.{eqb-true, eqb-false, false≢true}
use Rattle.objective.specs.Limits
use Rattle.uncapped.specs.Procedure.{Settings, Question, Incumbent}
use Rattle.uncapped.specs.Setup.{Setup}
use Rattle.ils_face.specs.declared.asks.Reply.{Reply}
use Rattle.ils_face.specs.Replies.{Fits, ask_of}
use Rattle.ils_frame.specs.declared.purpose.Purpose.{Purpose}
use Rattle.ils_frame.specs.declared.purpose.Purpose.TheVariants.{Opening}
use Rattle.ils_frame.specs.Comparers.{AskedStage, Ready, Asking, Decided, is_asking, question_in, decision_in, Parts, SameIncumbent, NewIncumbent, Answered, Begun, IsSteadyComparer}
use Rattle.ils_frame.specs.NextComparison.{Next, Compare, Finish, next}
use Rattle.ils_frame.specs.Machine.{Machine, begin, settle, first_machine, next_machine, answers_left, view_of}
use Rattle.ils_frame.specs.Laws.AllowedConfigs.{DrawsAllowed, IsNextAllowed, next-allowed}
use Rattle.ils_frame.specs.AllowedPurposes.{IsPurposeAllowed}
use Rattle.ils_frame.specs.Laws.TurnsLeft.{IsSpare, IsNextSpare, next-spare, IsDrawnBy, next-drawn}

-- the draws up to the next comparison, at most: an order, the random steps, a coin and a random configuration
abbrev pub most_draws : ℕ
most_draws = Limits.max_strength + 3

pub not-asking : (p : AskedStage) → is_asking p ≡ false → question_in p ≡ None
not-asking Ready e = refl
not-asking (Asking q) e = absurd (false≢true (sym e))
not-asking (Decided b) e = refl

pub asking-here : (p : AskedStage) (q : Question) → p ≡ Asking q → is_asking p ≡ true
asking-here p q e = ap is_asking e

module _ {S : Type 0} (parts : Parts S) (fit : S → Type 0) (setup : Setup) (allowed : Settings → Type 0) (draws : DrawsAllowed allowed setup) (few_steps : setup.strength ≤ Limits.max_strength)
    (first : S) (steady : IsSteadyComparer parts fit setup.max_runs allowed setup.start first) where
  abbrev pub compared : S → ℕ
  compared c = (parts.last c).compared

  -- what holds of a machine that was reached by fitting replies
  pub record IsFitting (f : Machine S) : Type 0 where
    pub stays_fit : fit f.comparer
    pub within : compared f.comparer ≤ setup.budget
    pub asks : is_asking (parts.stage f.comparer) ≡ not f.over
    pub named : IsPurposeAllowed allowed f.purpose
    pub spared : f.over ≡ false → IsSpare setup (compared f.comparer) f.purpose
    pub spent : f.over ≡ true → compared f.comparer ≡ setup.budget
    pub drawn : f.over ≡ false → f.event ≤ most_draws * (compared f.comparer + 1)

  -- what a machine is after a comparer was settled
  pub record IsSettled (c : S) (f : Machine S) : Type 0 where
    pub fitting : IsFitting f
    pub same_entries : parts.entries f.comparer ≡ parts.entries c
    pub no_further : (view_of parts setup f).left ≤ answers_left parts setup (setup.budget - compared c) + parts.left c
    pub incumbent : SameIncumbent (parts.last c) (parts.last f.comparer)

  same : (a : Incumbent) → SameIncumbent a a
  same a = record { config = refl; runs = refl; sum = refl }

  not_both : {A : Type 0} → false ≡ true → A
  not_both e = absurd (false≢true e)

  -- where a comparer is at its end, with all that is kept for what follows
  record CanBegin (c : S) : Type 0 where
    is_fit : fit c
    within : compared c ≤ setup.budget
    asks_nothing : is_asking (parts.stage c) ≡ false

  begun : (c : S) → CanBegin c → (n : Next) → IsNextAllowed allowed n → IsNextSpare setup (compared c) n → IsDrawnBy setup (most_draws * (compared c + 2)) n → IsSettled c (begin parts setup c n)
  begun c k (Finish e) d s b = record {
    fitting = record { stays_fit = k.is_fit; within = k.within; asks = k.asks_nothing; named = tt; spared = λ o. not_both (sym o); spent = λ o. s; drawn = λ o. not_both (sym o) };
    same_entries = refl;
    no_further = omega arith;
    incumbent = same (parts.last c);
  }
  begun c k (Compare purpose θ φ e) d s b = at_either (compared c == setup.budget) refl
    where
      next_one : Bool → Machine S
      next_one over = if over
          then record { comparer = c; purpose = purpose; event = e; over = true }
          else record { comparer = parts.begun c θ φ (compared c + 1); purpose = purpose; event = e; over = false }

      smaller : (more less l x : ℕ) → more ≡ suc less → l ≤ 8 * setup.max_runs + 16 → answers_left parts setup less + l ≤ answers_left parts setup more + x
      smaller more less l x e h = rw e (omega (arith, h))

      at_either : (over : Bool) → (compared c == setup.budget) ≡ over → IsSettled c (next_one over)
      at_either true t = record {
        fitting = record { stays_fit = k.is_fit; within = k.within; asks = k.asks_nothing; named = d.0; spared = λ o. not_both (sym o); spent = λ o. eqb-true (compared c) setup.budget t; drawn = λ o. not_both (sym o) };
        same_entries = refl;
        no_further = omega arith;
        incumbent = same (parts.last c);
      }
      at_either false t =
          let g : Begun parts fit setup.max_runs c (parts.begun c θ φ (compared c + 1)) (compared c + 1) = steady.begins c θ φ (compared c + 1) k.is_fit (not-asking (parts.stage c) k.asks_nothing) (omega arith) d.1 d.2 in
          let n : compared c < setup.budget = let z = eqb-false (compared c) setup.budget t in let w = k.within in omega (arith, w, z) in
          record {
            fitting = record {
              stays_fit = g.stays_fit;
              within = rw g.compared (omega (arith, n));
              asks = g.asks_first;
              named = d.0;
              spared = λ o. rw g.compared s;
              spent = λ o. not_both o;
              drawn = λ o. rw g.compared (omega (arith, b));
            };
            same_entries = g.same_entries;
            no_further = rw g.compared (smaller (setup.budget - compared c) (setup.budget - (compared c + 1)) (parts.left (parts.begun c θ φ (compared c + 1))) (parts.left c) (omega (arith, n)) g.few);
            incumbent = g.incumbent;
          }

  -- what is kept for what follows a comparison
  record IsKept (c : S) (purpose : Purpose) (e : ℕ) : Type 0 where
    named : IsPurposeAllowed allowed purpose
    spared : IsSpare setup (compared c) purpose
    drawn : e ≤ most_draws * (compared c + 1)

  settled_at : (c : S) → fit c → compared c ≤ setup.budget → (purpose : Purpose) (e : ℕ) → IsKept c purpose e → (p : AskedStage) → parts.stage c ≡ p → IsSettled c (settle parts setup c purpose e (decision_in p))
  unfolding settle
  settled_at c f w purpose e k (Asking q) t = record {
    fitting = record { stays_fit = f; within = w; asks = ap is_asking t; named = k.named; spared = λ o. k.spared; spent = λ o. not_both o; drawn = λ o. k.drawn };
    same_entries = refl;
    no_further = omega arith;
    incumbent = same (parts.last c);
  }
  settled_at c f w purpose e k Ready t = begun c (record { is_fit = f; within = w; asks_nothing = ap is_asking t }) (next setup (compared c) purpose false e)
      (next-allowed allowed setup draws (compared c) purpose false e k.named) (next-spare setup (compared c) w purpose false e k.spared)
      (next-drawn setup (compared c) (most_draws * (compared c + 2)) purpose false e (let d = k.drawn in omega (arith, d, few_steps)))
  settled_at c f w purpose e k (Decided b) t = begun c (record { is_fit = f; within = w; asks_nothing = ap is_asking t }) (next setup (compared c) purpose b e)
      (next-allowed allowed setup draws (compared c) purpose b e k.named) (next-spare setup (compared c) w purpose b e k.spared)
      (next-drawn setup (compared c) (most_draws * (compared c + 2)) purpose b e (let d = k.drawn in omega (arith, d, few_steps)))

  settled : (c : S) → fit c → compared c ≤ setup.budget → (purpose : Purpose) (e : ℕ) → IsKept c purpose e → IsSettled c (settle parts setup c purpose e (decision_in (parts.stage c)))
  settled c f w purpose e k = settled_at c f w purpose e k (parts.stage c) refl

  pub first_machine-settled : IsSettled first (first_machine parts setup first)
  first_machine-settled = settled first steady.opened (let z : compared first ≡ 0 = ap (λ i. i.compared) steady.nothing_yet in omega (arith, z)) Opening 0 (record { named = tt; spared = tt; drawn = omega arith })

  -- what one fitting reply does
  pub record Replied (f : Machine S) (q : Question) (r : Reply) : Type 0 where
    pub fitting : IsFitting (next_machine parts setup f r)
    pub falls : (view_of parts setup (next_machine parts setup f r)).left < (view_of parts setup f).left
    pub grown : parts.entries (next_machine parts setup f r).comparer ≡ parts.entries f.comparer ++ parts.added f.comparer r
    pub incumbent : SameIncumbent (parts.last f.comparer) (parts.last (next_machine parts setup f r).comparer) ⊎ NewIncumbent q r (parts.last (next_machine parts setup f r).comparer)

  pub then_same : (a b c : Incumbent) → SameIncumbent a b → SameIncumbent b c → SameIncumbent a c
  then_same a b c p q = record { config = q.config ∙ p.config; runs = q.runs ∙ p.runs; sum = q.sum ∙ p.sum }

  pub then_new : (q : Question) (r : Reply) (b c : Incumbent) → NewIncumbent q r b → SameIncumbent b c → NewIncumbent q r c
  then_new q r b c p s = record { config = s.config ∙ p.config; runs = s.runs ∙ p.runs; cost = rw s.sum p.cost }

  -- where an ask is open the search isn't over
  pub live : (f : Machine S) (q : Question) → IsFitting f → parts.stage f.comparer ≡ Asking q → f.over ≡ false
  live f q k e = going f.over k.asks
    where
      going : (o : Bool) → is_asking (parts.stage f.comparer) ≡ not o → o ≡ false
      going false d = refl
      going true d = absurd (false≢true (sym d ∙ asking-here (parts.stage f.comparer) q e))

  -- a machine after an answer, settled
  pub next_machine-settled : (f : Machine S) (q : Question) (r : Reply) → IsFitting f → parts.stage f.comparer ≡ Asking q → Answered parts fit f.comparer q r → IsSettled (parts.after f.comparer r) (next_machine parts setup f r)
  next_machine-settled f q r k e a =
      let w : compared f.comparer ≤ setup.budget = k.within in
      settled (parts.after f.comparer r) a.stays_fit (rw a.compared w) f.purpose f.event
      (record { named = k.named; spared = rw a.compared (k.spared (live f q k e)); drawn = rw a.compared (k.drawn (live f q k e)) })

  pub replies : (f : Machine S) (q : Question) (r : Reply) → IsFitting f → parts.stage f.comparer ≡ Asking q → Fits (ask_of q.config q.places q.bound) r → Replied f q r
  replies f q r k e fits =
      let a : Answered parts fit f.comparer q r = steady.answered f.comparer q r k.stays_fit e fits in
      let t : IsSettled (parts.after f.comparer r) (next_machine parts setup f r) = next_machine-settled f q r k e a in
      record {
        fitting = t.fitting;
        falls = let h : parts.left (parts.after f.comparer r) < parts.left f.comparer = a.nearer in
            let n : (view_of parts setup (next_machine parts setup f r)).left ≤ answers_left parts setup (setup.budget - compared (parts.after f.comparer r)) + parts.left (parts.after f.comparer r) = t.no_further in
            let m : answers_left parts setup (setup.budget - compared (parts.after f.comparer r)) ≡ answers_left parts setup (setup.budget - compared f.comparer) = ap (λ c. answers_left parts setup (setup.budget - c)) a.compared in
            omega (arith, h, n, m);
        grown = t.same_entries ∙ a.grown;
        incumbent = elim a.incumbent [
          | inl p ↦ inl (then_same (parts.last f.comparer) (parts.last (parts.after f.comparer r)) (parts.last (next_machine parts setup f r).comparer) p t.incumbent)
          | inr p ↦ inr (then_new q r (parts.last (parts.after f.comparer r)) (parts.last (next_machine parts setup f r).comparer) p t.incumbent)
        ];
      }
