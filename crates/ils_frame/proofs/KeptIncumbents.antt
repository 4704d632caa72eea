-- The incumbent invariant stays after one more evaluation.
use Rattle.std.proofs.Common.{ℕ, ◌≡◌, ◌≤◌, inl, inr, Bool, true, false, List, [], ◌∷◌, ◌++◌, Option, Some, None, IsSomeAnd, bytes_eq, if◌then◌else◌, refl, sym, ◌∙◌, ap, subst, arith, max}
use Rattle.std.proofs.lemmas.Bool.{leb-true, le-leb, cases_lt, false≢true}
use Rattle.std.proofs.lemmas.List.Elements.{Contains-append_left, Contains-push}
use Rattle.std.proofs.lemmas.Slice.Eq.{bytes_eq-Decides}
use Rattle.std.proofs.Math.Nat.{le_refl}
use Rattle.uncapped.specs.Procedure.{Settings, Sums, Question, Addition, PlainState}
use Rattle.uncapped.specs.Uncapped.{or_nothing}
use Rattle.uncapped.specs.Evaluation.{after_ask, after_win, counts_after, is_at_most}
use Rattle.ils_face.specs.declared.asks.Reply.TheVariants.{Exact}
use Rattle.ils_face.specs.Replies.{reply_up_to}
use Rattle.ils_frame.specs.IncumbentInvariant.{IsCostReplied, IncumbentInvariant}

-- ---- costs

at_most-of : (x y : ℕ) (a b : Option ℕ) → a ≡ Some x → b ≡ Some y → x ≤ y → is_at_most a b ≡ true
at_most-of x y a b e d h = rw (e, d) (le-leb x y h)

less-at_most : (x y : ℕ) (o : Option ℕ) → x ≤ y → is_at_most (Some y) o ≡ true → is_at_most (Some x) o ≡ true
less-at_most x y None h k = absurd (false≢true k)
less-at_most x y (Some z) h k = let l : y ≤ z = leb-true y z k in le-leb x z (omega (arith, h, l))

-- ---- counts

module _ (counts : Settings → ℕ) (θ : Settings) (n : ℕ) where
  -- a count comes to one of two numbers
  abbrev count_by : Bool → Settings → ℕ
  count_by b φ = if b then max (counts θ) n else counts φ

  few-after : (m : ℕ) (φ : Settings) → counts θ ≤ m → counts φ ≤ m → n ≤ m → counts_after counts θ n φ ≤ m
  few-after m φ h k l = at_either (bytes_eq φ θ)
    where
      at_either : (b : Bool) → count_by b φ ≤ m
      at_either true = omega (arith, h, l)
      at_either false = k

  kept-after : (m : ℕ) (φ : Settings) → counts φ ≡ m → n ≤ m → counts_after counts θ n φ ≡ m
  kept-after m φ e l = at_either (bytes_eq φ θ) refl
    where
      at_either : (b : Bool) → bytes_eq φ θ ≡ b → count_by b φ ≡ m
      at_either true t =
          let c : counts θ ≡ m = ap counts (sym ((bytes_eq-Decides φ θ).0 t)) ∙ e in
          omega (arith, c, l)
      at_either false t = e

  raised-after : counts θ ≤ n → counts_after counts θ n θ ≡ n
  raised-after h = rw ((bytes_eq-Decides θ θ).1 refl) (omega (arith, h))

-- ---- what was replied

module _ (sums : Sums) (asks : List Question) where
  still-replied : (q : Question) (θ : Settings) (n : ℕ) → IsCostReplied sums asks θ n → IsCostReplied sums (asks ++ q ∷ []) θ n
  still-replied q θ n r = record {
    question = r.question;
    asked = Contains-append_left asks (q ∷ []) r.question r.asked;
    config = r.config;
    places = r.places;
    exact = r.exact;
  }

  now-replied : (θ : Settings) (n x : ℕ) (bound : Option ℕ) → sums θ n ≡ Some x → reply_up_to x bound ≡ Exact (record { 0 = x })
      → IsCostReplied sums (asks ++ record { config = θ; places = n; bound = bound } ∷ []) θ n
  now-replied θ n x bound e r = record {
    question = record { config = θ; places = n; bound = bound };
    asked = Contains-push asks (record { config = θ; places = n; bound = bound });
    config = refl;
    places = refl;
    exact = subst (λ o. IsSomeAnd o (λ y. reply_up_to (or_nothing o) bound ≡ Exact (record { 0 = y }))) (sym e) r;
  }

-- ---- the invariant

-- before any evaluation
pub at-first : (sums : Sums) (s : PlainState) → ((φ : Settings) → s.counts φ ≡ 0) → ((φ : Settings) → sums φ 0 ≡ Some 0)
    → IncumbentInvariant sums s
at-first sums s none nothing = record {
  most_runs = λ φ. let z : s.counts φ ≡ 0 = none φ in omega (arith, z);
  least_cost = λ φ same. rw (none s.incumbent) (at_most-of 0 0 (sums s.incumbent 0) (sums φ 0) (nothing s.incumbent) (nothing φ) (le_refl 0));
  replied = λ some. absurd (let z : s.counts s.incumbent ≡ 0 = none s.incumbent in omega (arith, z, some));
}

module _ (sums : Sums) (s : PlainState) (k : IncumbentInvariant sums s) where
  -- what stands beside counts, incumbent and asks doesn't matter
  pub kept-beside : (bonus compared event : ℕ) (entries : List Addition)
      → IncumbentInvariant sums (record s { bonus = bonus; compared = compared; event = event; entries = entries })
  kept-beside bonus compared event entries = record { most_runs = k.most_runs; least_cost = k.least_cost; replied = k.replied }

  module _ (θ : Settings) (n : ℕ) (bound : Option ℕ) (x : ℕ) (cost : sums θ n ≡ Some x) where
    -- after the evaluation
    abbrev evaluated : PlainState
    evaluated = record (after_ask θ n bound s) { counts = counts_after s.counts θ n }

    abbrev runs : ℕ
    runs = s.counts s.incumbent

    -- the incumbent stays, on no fewer places and at no greater cost
    pub kept-lost : (y : ℕ) → sums s.incumbent runs ≡ Some y → n ≤ runs → (n ≡ runs → y ≤ x) → IncumbentInvariant sums evaluated
    kept-lost y its few worse = record {
      most_runs = λ φ. rw top (few-after s.counts θ n runs φ (k.most_runs θ) (k.most_runs φ) few);
      least_cost = λ φ same. rw top (least φ (same ∙ top));
      replied = λ some. rw top (still-replied sums s.asks (record { config = θ; places = n; bound = bound }) s.incumbent runs (k.replied (subst (λ m. 1 ≤ m) top some)));
    }
      where
        top : counts_after s.counts θ n s.incumbent ≡ runs
        top = kept-after s.counts θ n runs s.incumbent refl few

        its-own : max (s.counts θ) n ≡ runs → is_at_most (sums s.incumbent runs) (sums θ runs) ≡ true
        its-own e = elim (cases_lt n runs) [
          | inl less ↦ k.least_cost θ (omega (arith, e, less))
          | inr most ↦ (let m : n ≡ runs = omega (arith, few, most) in
              at_most-of y x (sums s.incumbent runs) (sums θ runs) its (ap (sums θ) (sym m) ∙ cost) (worse m))
        ]

        least : (φ : Settings) → counts_after s.counts θ n φ ≡ runs → is_at_most (sums s.incumbent runs) (sums φ runs) ≡ true
        least φ = at_either (bytes_eq φ θ) refl
          where
            at_either : (b : Bool) → bytes_eq φ θ ≡ b → count_by s.counts θ n b φ ≡ runs → is_at_most (sums s.incumbent runs) (sums φ runs) ≡ true
            at_either true t e = rw ((bytes_eq-Decides φ θ).0 t) (its-own e)
            at_either false t e = k.least_cost φ e

    -- a new incumbent, at a lower cost on as many places
    pub kept-won : (y : ℕ) → sums s.incumbent runs ≡ Some y → n ≡ runs → x ≤ y → reply_up_to x bound ≡ Exact (record { 0 = x })
        → IncumbentInvariant sums (after_win θ n x evaluated)
    kept-won y its same better exact = record {
      most_runs = λ φ. rw top (few-after s.counts θ n n φ (few θ) (few φ) (le_refl n));
      least_cost = λ φ e. rw top (least φ (e ∙ top));
      replied = λ some. rw top (now-replied sums s.asks θ n x bound cost exact);
    }
      where
        few : (φ : Settings) → s.counts φ ≤ n
        few φ = let m : s.counts φ ≤ runs = k.most_runs φ in omega (arith, m, same)

        top : counts_after s.counts θ n θ ≡ n
        top = raised-after s.counts θ n (few θ)

        no_less : (φ : Settings) → s.counts φ ≡ n → is_at_most (sums θ n) (sums φ n) ≡ true
        no_less φ e = rw (cost, same) (less-at_most x y (sums φ runs) better (subst (λ o. is_at_most o (sums φ runs) ≡ true) its (k.least_cost φ (e ∙ same))))

        least : (φ : Settings) → counts_after s.counts θ n φ ≡ n → is_at_most (sums θ n) (sums φ n) ≡ true
        least φ = at_either (bytes_eq φ θ) refl
          where
            at_either : (b : Bool) → bytes_eq φ θ ≡ b → count_by s.counts θ n b φ ≡ n → is_at_most (sums θ n) (sums φ n) ≡ true
            at_either true t e = rw ((bytes_eq-Decides φ θ).0 t) (at_most-of x x (sums θ n) (sums θ n) cost cost (le_refl x))
            at_either false t e = no_less φ e

    -- the incumbent itself, on no fewer places
    pub kept-extended : θ ≡ s.incumbent → runs ≤ n → reply_up_to x bound ≡ Exact (record { 0 = x }) → IncumbentInvariant sums evaluated
    kept-extended itself more exact = record {
      most_runs = λ φ. rw top (few-after s.counts θ n n φ (few θ) (few φ) (le_refl n));
      least_cost = λ φ e. rw top (least φ (e ∙ top));
      replied = λ some. rw top (subst (λ φ. IsCostReplied sums evaluated.asks φ n) itself (now-replied sums s.asks θ n x bound cost exact));
    }
      where
        few : (φ : Settings) → s.counts φ ≤ n
        few φ = let m : s.counts φ ≤ runs = k.most_runs φ in omega (arith, m, more)

        top : counts_after s.counts θ n s.incumbent ≡ n
        top = ap (counts_after s.counts θ n) (sym itself) ∙ raised-after s.counts θ n (few θ)

        its-cost : sums s.incumbent n ≡ Some x
        its-cost = ap (λ φ. sums φ n) (sym itself) ∙ cost

        no_less : (φ : Settings) → s.counts φ ≡ n → is_at_most (sums s.incumbent n) (sums φ n) ≡ true
        no_less φ e =
            let m : s.counts φ ≤ runs = k.most_runs φ in
            let same : runs ≡ n = omega (arith, m, more, e) in
            subst (λ i. is_at_most (sums s.incumbent i) (sums φ i) ≡ true) same (k.least_cost φ (e ∙ sym same))

        least : (φ : Settings) → counts_after s.counts θ n φ ≡ n → is_at_most (sums s.incumbent n) (sums φ n) ≡ true
        least φ = at_either (bytes_eq φ θ) refl
          where
            at_either : (b : Bool) → bytes_eq φ θ ≡ b → count_by s.counts θ n b φ ≡ n → is_at_most (sums s.incumbent n) (sums φ n) ≡ true
            at_either true t e = rw (sums-of φ t) (at_most-of x x (sums s.incumbent n) (sums s.incumbent n) its-cost its-cost (le_refl x))
              where
                sums-of : (φ : Settings) → bytes_eq φ θ ≡ true → sums φ n ≡ sums s.incumbent n
                sums-of φ t = ap (λ ψ. sums ψ n) ((bytes_eq-Decides φ θ).0 t ∙ itself)
            at_either false t e = no_less φ e
