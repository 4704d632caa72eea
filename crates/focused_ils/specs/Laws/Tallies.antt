-- The runs, the incumbent and the entries after an evaluation in which the incumbent isn't overtaken.
use Rattle.std.proofs.Common.{◌≡◌, ℕ, ◌≤◌, ◌<◌, ◌⊎◌, inl, inr, Bool, true, false, not, ◌&&◌, ◌==◌, List, ◌++◌, Option, Some, None, IsSome, IfSome, nat_lt, bytes_eq, refl, sym, ◌∙◌, ap, subst, arith, max}
use Rattle.std.proofs.lemmas.List.{append-nil}
use Rattle.std.proofs.lemmas.Bool.{le-ltb, ltb-true, ltb-false, lt-ltb, eqb-true, false≢true}
use Rattle.std.proofs.Math.Bool.{and-false}
use Rattle.std.proofs.Math.Nat.{le_refl}
use Rattle.uncapped.specs.Procedure.{Settings, Question, Incumbent}
use Rattle.ils_face.specs.Trajectories.{newest, IsNewest, IsTrajectory}
use Rattle.ils_face.proofs.Trajectories.{newest-push, trajectory-push}
use Rattle.ils_face.specs.declared.asks.Reply.{Reply}
use Rattle.ils_face.specs.declared.asks.Reply.TheVariants.{Exact, Exceeds}
use Rattle.ils_frame.specs.Comparers.{SameIncumbent, NewIncumbent}
use Rattle.focused_ils.specs.Counts.{count_in, raised}
use Rattle.focused_ils.specs.Comparison.{is_overtaken, one_of}
use Rattle.focused_ils.specs.State.{Tally, is_better, is_extended, entry, last_where, last_after, entry_where, added_by, HasMostRuns}
use Rattle.focused_ils.specs.Laws.Counting.{same_config, is_itself, other_way, raised-itself, raised-other, raised-most}

-- the reply of a cost
abbrev pub exactly : ℕ → Reply
exactly x = Exact (record { 0 = x })

-- ---- tests

-- another configuration is to be evaluated on more places
pub overtaken-where : (last : Incumbent) (θ : Settings) (n : ℕ) → is_overtaken last θ n ≡ true → (bytes_eq θ last.config ≡ false) × (last.runs < n)
overtaken-where last θ n o = at_either (bytes_eq θ last.config) refl o
  where
    at_either : (b : Bool) → bytes_eq θ last.config ≡ b → (not b && nat_lt last.runs n) ≡ true → (bytes_eq θ last.config ≡ false) × (last.runs < n)
    at_either true e o = absurd (false≢true o)
    at_either false e o = (e, ltb-true last.runs n o)

-- on as many places as the incumbent has runs it isn't overtaken
pub not_overtaken : (last : Incumbent) (θ : Settings) (n : ℕ) → n ≤ last.runs → is_overtaken last θ n ≡ false
not_overtaken last θ n h = rw (le-ltb last.runs n h) (and-false (not (bytes_eq θ last.config)))

-- nor is it by itself
pub not_overtaken-itself : (last : Incumbent) (n : ℕ) → is_overtaken last last.config n ≡ false
not_overtaken-itself last n = rw (is_itself last.config) refl

-- where the incumbent would be overtaken it is evaluated itself
pub not_overtaken-due : (last : Incumbent) (θ : Settings) (n : ℕ) (b : Bool) → is_overtaken last θ n ≡ b → is_overtaken last (one_of b last.config θ) n ≡ false
not_overtaken-due last θ n true o = not_overtaken-itself last n
not_overtaken-due last θ n false o = o

three : (b t u : Bool) → (not b && t && u) ≡ true → (b ≡ false) × (t ≡ true) × (u ≡ true)
three true t u e = absurd (false≢true e)
three false false u e = absurd (false≢true e)
three false true false e = absurd (false≢true e)
three false true true e = (refl, refl, refl)

both : (b t : Bool) → (b && t) ≡ true → (b ≡ true) × (t ≡ true)
both true t e = (refl, e)
both false t e = absurd (false≢true e)

-- another configuration costs less on as many places
pub better-where : (last : Incumbent) (θ : Settings) (n x : ℕ) → is_better last θ n x ≡ true → (bytes_eq θ last.config ≡ false) × (n ≡ last.runs) × (x < last.sum)
better-where last θ n x w =
    let p : (bytes_eq θ last.config ≡ false) × ((n == last.runs) ≡ true) × (nat_lt x last.sum ≡ true) = three (bytes_eq θ last.config) (n == last.runs) (nat_lt x last.sum) w in
    (p.0, eqb-true n last.runs p.1, ltb-true x last.sum p.2)

-- the incumbent was evaluated on more places
pub extended-where : (last : Incumbent) (θ : Settings) (n : ℕ) → is_extended last θ n ≡ true → (θ ≡ last.config) × (last.runs < n)
extended-where last θ n w =
    let p : (bytes_eq θ last.config ≡ true) × (nat_lt last.runs n ≡ true) = both (bytes_eq θ last.config) (nat_lt last.runs n) w in
    (same_config θ last.config p.0, ltb-true last.runs n p.1)

-- else it was evaluated on no more
pub no-more : (last : Incumbent) (θ : Settings) (n : ℕ) → is_overtaken last θ n ≡ false → is_extended last θ n ≡ false → n ≤ last.runs
no-more last θ n o w = at_either (bytes_eq θ last.config) o w
  where
    at_either : (b : Bool) → (not b && nat_lt last.runs n) ≡ false → (b && nat_lt last.runs n) ≡ false → n ≤ last.runs
    at_either true o w = ltb-false last.runs n w
    at_either false o w = ltb-false last.runs n o

-- a configuration isn't better than itself
pub no_better-itself : (last : Incumbent) (n x : ℕ) → is_better last last.config n x ≡ false
no_better-itself last n x = rw (is_itself last.config) refl

-- the incumbent after its own evaluation on more places
pub last-extended : (last : Incumbent) (n x : ℕ) (bound : Option ℕ) → last.runs < n
    → last_after last (record { config = last.config; places = n; bound = bound }) (exactly x) ≡ record last { runs = n; sum = x }
last-extended last n x bound h = rw (no_better-itself last n x, is_itself last.config, lt-ltb last.runs n h) refl

-- ---- the incumbent

-- the number of its comparison stays
pub last-compared : (last : Incumbent) (q : Question) (r : Reply) → (last_after last q r).compared ≡ last.compared
last-compared last q Exceeds = refl
last-compared last q (Exact x) = at_either (is_better last q.config q.places x.0) (is_extended last q.config q.places)
  where
    at_either : (b e : Bool) → (last_where b e last q.config q.places x.0).compared ≡ last.compared
    at_either true e = refl
    at_either false true = refl
    at_either false false = refl

-- it is the same, or what was evaluated, by this reply
pub last-earned : (last : Incumbent) (q : Question) (r : Reply) → SameIncumbent last (last_after last q r) ⊎ NewIncumbent q r (last_after last q r)
last-earned last q Exceeds = inl (record { config = refl; runs = refl; sum = refl })
last-earned last q (Exact x) = at_either (is_better last q.config q.places x.0) (is_extended last q.config q.places) refl
  where
    at_either : (b e : Bool) → is_extended last q.config q.places ≡ e
        → SameIncumbent last (last_where b e last q.config q.places x.0) ⊎ NewIncumbent q (Exact x) (last_where b e last q.config q.places x.0)
    at_either true e w = inr (record { config = refl; runs = refl; cost = refl })
    at_either false true w = inr (record { config = sym (extended-where last q.config q.places w).0; runs = refl; cost = refl })
    at_either false false w = inl (record { config = refl; runs = refl; sum = refl })

-- ---- the runs

module _ (t : Tally) (fit : HasMostRuns t) (θ : Settings) (n : ℕ) where
  -- on no more places than the incumbent has runs it stays ahead
  pub most-kept : (bonus : ℕ) → n ≤ t.last.runs → HasMostRuns (record { counts = raised t.counts θ n; last = t.last; bonus = bonus })
  most-kept bonus h = record { most = λ φ. raised-most t.counts θ n φ t.last.runs (fit.most φ) h; top = at_either (bytes_eq θ t.last.config) refl }
    where
      at_either : (b : Bool) → bytes_eq θ t.last.config ≡ b → count_in (raised t.counts θ n) t.last.config ≡ t.last.runs
      at_either true e =
          let same : θ ≡ t.last.config = same_config θ t.last.config e in
          let top : count_in t.counts t.last.config ≡ t.last.runs = fit.top in
          let c : count_in t.counts θ ≡ t.last.runs = ap (count_in t.counts) same ∙ top in
          let r : count_in (raised t.counts θ n) θ ≡ max (count_in t.counts θ) n = raised-itself t.counts θ n in
          ap (count_in (raised t.counts θ n)) (sym same) ∙ r ∙ omega (arith, c, h)
      at_either false e = raised-other t.counts θ n t.last.config (other_way t.last.config θ e) ∙ fit.top

  -- with a cost, the incumbent after it has the most runs
  pub most-after : (bonus x : ℕ) → is_overtaken t.last θ n ≡ false
      → HasMostRuns (record { counts = raised t.counts θ n; last = last_where (is_better t.last θ n x) (is_extended t.last θ n) t.last θ n x; bonus = bonus })
  most-after bonus x o = at_either (is_better t.last θ n x) refl (is_extended t.last θ n) refl
    where
      at_either : (b : Bool) → is_better t.last θ n x ≡ b → (e : Bool) → is_extended t.last θ n ≡ e
          → HasMostRuns (record { counts = raised t.counts θ n; last = last_where b e t.last θ n x; bonus = bonus })
      at_either true w e u =
          let p : n ≡ t.last.runs = (better-where t.last θ n x w).1 in
          let m : count_in t.counts θ ≤ t.last.runs = fit.most θ in
          let r : count_in (raised t.counts θ n) θ ≡ max (count_in t.counts θ) n = raised-itself t.counts θ n in
          record {
            most = λ φ. let m : count_in t.counts φ ≤ t.last.runs = fit.most φ in raised-most t.counts θ n φ n (omega (arith, m, p)) (le_refl n);
            top = omega (arith, r, m, p);
          }
      at_either false w true u =
          let f : (θ ≡ t.last.config) × (t.last.runs < n) = extended-where t.last θ n u in
          let more : t.last.runs < n = f.1 in
          let c : count_in t.counts θ ≤ t.last.runs = fit.most θ in
          let r : count_in (raised t.counts θ n) θ ≡ max (count_in t.counts θ) n = raised-itself t.counts θ n in
          record {
            most = λ φ. let m : count_in t.counts φ ≤ t.last.runs = fit.most φ in raised-most t.counts θ n φ n (omega (arith, m, more)) (le_refl n);
            top = ap (count_in (raised t.counts θ n)) (sym f.0) ∙ omega (arith, r, c, more);
          }
      at_either false w false u = most-kept bonus (no-more t.last θ n o u)

-- ---- the entries

-- the newest entry has no more runs than the incumbent
abbrev pub IsEarlier : List Incumbent → Incumbent → Type 0
IsEarlier entries last = IfSome (newest entries) (λ e. e.runs ≤ last.runs)

module _ (most : ℕ) (allowed : Settings → Type 0) (last : Incumbent) where
  -- the incumbent with more runs
  trajectory-extended : (entries : List Incumbent) (n x : ℕ) → last.runs < n → n ≤ most → IsEarlier entries last → IsTrajectory most allowed entries last
      → IsTrajectory most allowed entries (record last { runs = n; sum = x })
  trajectory-extended entries n x more few h t = record {
    config = t.config;
    runs = few;
    configs = t.configs;
    entry_runs = t.entry_runs;
    in_order = t.in_order;
    begun = t.begun;
    newest = still (newest entries) h t.newest;
  }
    where
      still : (o : Option Incumbent) → IfSome o (λ e. e.runs ≤ last.runs) → IfSome o (IsNewest last) → IfSome o (IsNewest (record last { runs = n; sum = x }))
      still None h i = tt
      still (Some e) h i = record { config = i.config; sum = λ s. absurd (omega (arith, h, s, more)) }

  -- the entry of a new incumbent, where it is one
  pub trajectory-after : (entries : List Incumbent) (q : Question) (r : Reply) → allowed q.config → q.places ≤ most → IsEarlier entries last → IsTrajectory most allowed entries last
      → IsTrajectory most allowed (entries ++ added_by last q r) (last_after last q r)
  trajectory-after entries q Exceeds s few h t = subst (λ es. IsTrajectory most allowed es last) (sym (append-nil entries)) t
  trajectory-after entries q (Exact x) s few h t = at_either (is_better last q.config q.places x.0) (is_extended last q.config q.places) refl
    where
      at_either : (b e : Bool) → is_extended last q.config q.places ≡ e
          → IsTrajectory most allowed (entries ++ entry_where b (entry last q.config q.places x.0)) (last_where b e last q.config q.places x.0)
      at_either true e w = trajectory-push most allowed entries last (entry last q.config q.places x.0) t (le_refl last.compared) s few
      at_either false true w = subst (λ es. IsTrajectory most allowed es (record last { runs = q.places; sum = x.0 })) (sym (append-nil entries))
          (trajectory-extended entries q.places x.0 (extended-where last q.config q.places w).1 few h t)
      at_either false false w = subst (λ es. IsTrajectory most allowed es last) (sym (append-nil entries)) t

  -- it still has no more runs
  pub earlier-after : (entries : List Incumbent) (q : Question) (r : Reply) → IsEarlier entries last → IsEarlier (entries ++ added_by last q r) (last_after last q r)
  earlier-after entries q Exceeds h = subst (λ es. IsEarlier es last) (sym (append-nil entries)) h
  earlier-after entries q (Exact x) h = at_either (is_better last q.config q.places x.0) (is_extended last q.config q.places) refl
    where
      more : (o : Option Incumbent) (n : ℕ) → last.runs < n → IfSome o (λ e. e.runs ≤ last.runs) → IfSome o (λ e. e.runs ≤ n)
      more None n l h = tt
      more (Some e) n l h = omega (arith, l, h)

      at_either : (b e : Bool) → is_extended last q.config q.places ≡ e
          → IsEarlier (entries ++ entry_where b (entry last q.config q.places x.0)) (last_where b e last q.config q.places x.0)
      at_either true e w = subst (λ (o : Option Incumbent). IfSome o (λ e. e.runs ≤ q.places)) (sym (newest-push entries (entry last q.config q.places x.0))) (le_refl q.places)
      at_either false true w = subst (λ es. IsEarlier es (record last { runs = q.places; sum = x.0 })) (sym (append-nil entries))
          (more (newest entries) q.places (extended-where last q.config q.places w).1 h)
      at_either false false w = subst (λ es. IsEarlier es last) (sym (append-nil entries)) h

  -- there is an entry still
  pub entered-after : (entries : List Incumbent) (q : Question) (r : Reply) → IsSome (newest entries) → IsSome (newest (entries ++ added_by last q r))
  entered-after entries q Exceeds h = subst (λ (es : List Incumbent). IsSome (newest es)) (sym (append-nil entries)) h
  entered-after entries q (Exact x) h = at_either (is_better last q.config q.places x.0)
    where
      at_either : (b : Bool) → IsSome (newest (entries ++ entry_where b (entry last q.config q.places x.0)))
      at_either true = subst (λ (o : Option Incumbent). IsSome o) (sym (newest-push entries (entry last q.config q.places x.0))) refl
      at_either false = subst (λ (es : List Incumbent). IsSome (newest es)) (sym (append-nil entries)) h
