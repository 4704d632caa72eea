-- Over a table of which no outcome aborts the procedure finishes.
use Rattle.std.specs.Prelude.{ℕ, zero, suc, ◌+◌, ◌-◌, ◌==◌, ◌||◌, ◌≡◌, Bool, true, false, List, [], ◌∷◌, Option, Some, None, IsSome, min, nat_le, refl, if◌then◌else◌}
use Rattle.objective.specs.Bounds.{Bounds}
use Rattle.objective.specs.Costs.{Table, cost_of}
use Rattle.uncapped.specs.Procedure.{Settings, Sums, PlainState, Finished, Step, Goes, Ends, Procedure, goes_on, ◌>>=◌, ◌>>◌, give, becomes, stop, when, cost_or_abort}
use Rattle.uncapped.specs.Setup.{Setup}
use Rattle.uncapped.specs.Evaluation.{after_ask, after_win, measure, overtakes, beats, evaluate, better_basic, dominates, catch_up, better_focused}
use Rattle.uncapped.specs.Searching.{after_begin, or_stay, compare, around, improve_among, improve, try_random, perturb, search_on, search_after}
use Rattle.uncapped.specs.Totals.{plus, total_cost, NeverAborts}
use Rattle.uncapped.specs.Uncapped.{Approach, Basic, Focused, opening_basic, opening_focused, procedure, at_first, run_after, uncapped}

-- ---- costs

pub some_plus : (a b : Option ℕ) → IsSome a → IsSome b → IsSome (plus a b)
some_plus (Some x) (Some y) h k = refl
some_plus (Some x) None h k = k
some_plus None b h k = absurd (cc)

-- where no outcome aborts, each total cost is known
pub all_known : (limits : Bounds) (T : Table) → NeverAborts limits T → (θ : Settings) (n : ℕ) → IsSome (total_cost limits T θ n)
all_known limits T never θ zero = refl
all_known limits T never θ (suc n) = some_plus (total_cost limits T θ n) (cost_of limits (T θ (suc n))) (all_known limits T never θ n) (never θ (suc n))

-- ---- steps

-- a step that doesn't end by an abort
abbrev pub IsUnaborted : {A : Type 0} → Step A → Type 0
IsUnaborted (Goes s a) = Unit {0}
IsUnaborted (Ends s e) = e ≡ Finished

-- whatever state it finds, the procedure doesn't end by an abort
abbrev pub IsAlwaysUnaborted : {A : Type 0} → Procedure A → Type 0
IsAlwaysUnaborted p = (s : PlainState) → IsUnaborted (p s)

goes : {A B : Type 0} (t : Step A) (f : A → Procedure B) → IsUnaborted t → ((a : A) → IsAlwaysUnaborted (f a)) → IsUnaborted (goes_on t f)
goes (Goes s a) f h k = k a s
goes (Ends s e) f h k = h

follows : {A B : Type 0} (p : Procedure A) (f : A → Procedure B) → IsAlwaysUnaborted p → ((a : A) → IsAlwaysUnaborted (f a)) → IsAlwaysUnaborted (p >>= f)
follows p f h k s = goes (p s) f (h s) k

when-unaborted : (b : Bool) (p : Procedure (Unit {0})) → IsAlwaysUnaborted p → IsAlwaysUnaborted (when b p)
when-unaborted true p h s = h s
when-unaborted false p h s = tt

either : {A : Type 0} (b : Bool) (p q : Procedure A) → IsAlwaysUnaborted p → IsAlwaysUnaborted q → IsAlwaysUnaborted (if b then p else q)
either true p q h k s = h s
either false p q h k s = k s

cost-unaborted : (o : Option ℕ) → IsSome o → IsAlwaysUnaborted (cost_or_abort o)
cost-unaborted (Some x) h s = tt
cost-unaborted None h s = absurd (cc)

-- ---- evaluations and comparisons

module _ (sums : Sums) (known : (θ : Settings) (n : ℕ) → IsSome (sums θ n)) where
  measure-unaborted : (θ : Settings) (n : ℕ) (bound : Option ℕ) → IsAlwaysUnaborted (measure sums θ n bound)
  unfolding measure
  measure-unaborted θ n bound s = goes (cost_or_abort (sums θ n) (after_ask θ n bound s)) _ (cost-unaborted (sums θ n) (known θ n) (after_ask θ n bound s)) (λ x t. tt)

  evaluate-unaborted : (θ : Settings) (n : ℕ) (bound : Option ℕ) → IsAlwaysUnaborted (evaluate sums θ n bound)
  unfolding evaluate
  evaluate-unaborted θ n bound s =
      goes (when (overtakes s θ n) (measure sums s.incumbent n None >> give tt) s) _
      (when-unaborted (overtakes s θ n) _ (follows (measure sums s.incumbent n None) _ (measure-unaborted s.incumbent n None) (λ x t. tt)) s)
      (λ u. follows (measure sums θ n bound) _ (measure-unaborted θ n bound)
      (λ x t. goes (when (beats sums t θ n x) (becomes (after_win θ n x)) t) _ (when-unaborted (beats sums t θ n x) (becomes (after_win θ n x)) (λ t. tt) t) (λ u t. tt)))

  module _ (setup : Setup) where
    better_basic-unaborted : (θ φ : Settings) → IsAlwaysUnaborted (better_basic setup sums θ φ)
    unfolding better_basic
    better_basic-unaborted θ φ = follows (evaluate sums φ setup.max_runs None) _ (evaluate-unaborted φ setup.max_runs None)
        (λ x. follows (evaluate sums θ setup.max_runs (Some x)) _ (evaluate-unaborted θ setup.max_runs (Some x)) (λ y s. tt))

    catch_up-unaborted : (turns : ℕ) (low high : Settings) → IsAlwaysUnaborted (catch_up setup sums turns low high)
    unfolding catch_up
    catch_up-unaborted zero low high s = tt
    catch_up-unaborted (suc turns) low high s =
        let n : ℕ = min (s.counts low + 1) setup.max_runs in
        goes (evaluate sums high n None s) _ (evaluate-unaborted high n None s)
        (λ x. follows (evaluate sums low n (Some x)) _ (evaluate-unaborted low n (Some x))
        (λ y now. either (dominates sums now low high || dominates sums now high low) (give tt) (catch_up setup sums turns low high) (λ t. tt) (catch_up-unaborted turns low high) now))

    better_focused-unaborted : (θ φ : Settings) → IsAlwaysUnaborted (better_focused setup sums θ φ)
    unfolding better_focused
    better_focused-unaborted θ φ s =
        goes _ _ (either (nat_le (s.counts θ) (s.counts φ)) _ _ (catch_up-unaborted (suc setup.max_runs) θ φ) (catch_up-unaborted (suc setup.max_runs) φ θ) _)
        (λ u now. either (dominates sums now θ φ) _ _ (follows _ _ (follows _ _ (evaluate-unaborted θ (min (now.counts θ + now.bonus) setup.max_runs) None) (λ x t. tt)) (λ u t. tt)) (λ t. tt) now)

    opening_basic-unaborted : IsAlwaysUnaborted (opening_basic setup sums)
    unfolding opening_basic
    opening_basic-unaborted = follows (measure sums setup.start setup.max_runs None) _ (measure-unaborted setup.start setup.max_runs None) (λ x s. tt)

-- ---- the search

module _ (setup : Setup) (better : Settings → Settings → Procedure Bool) (safe : (θ φ : Settings) → IsAlwaysUnaborted (better θ φ)) where
  compare-unaborted : (θ φ : Settings) → IsAlwaysUnaborted (compare setup better θ φ)
  unfolding compare
  compare-unaborted θ φ s = goes (when (s.compared == setup.budget) (stop Finished) s) _ (when-unaborted (s.compared == setup.budget) (stop Finished) (λ t. refl) s) (λ u t. safe θ φ (after_begin t))

  improve_among-unaborted : (left : ℕ) (θ : Settings) (φs : List Settings) → IsAlwaysUnaborted (improve_among setup better left θ φs)
  unfolding improve_among
  improve_among-unaborted zero θ [] s = tt
  improve_among-unaborted (suc left) θ [] s = tt
  improve_among-unaborted zero θ (φ ∷ rest) s = refl
  improve_among-unaborted (suc left) θ (φ ∷ rest) s =
      goes (compare setup better φ θ s) _ (compare-unaborted φ θ s)
      (λ won. either won (around setup better φ >>= improve_among setup better left φ) (improve_among setup better left θ rest)
      (λ t. improve_among-unaborted left φ (setup.in_order t.event (setup.neighbours φ)) _) (improve_among-unaborted left θ rest))

  improve-unaborted : (θ : Settings) → IsAlwaysUnaborted (improve setup better θ)
  unfolding improve
  improve-unaborted θ s = improve_among-unaborted (setup.budget - s.compared) θ (setup.in_order s.event (setup.neighbours θ)) _

  try_random-unaborted : (more : ℕ) (current : Settings) → IsAlwaysUnaborted (try_random setup better more current)
  unfolding try_random
  try_random-unaborted zero current s = tt
  try_random-unaborted (suc more) current s =
      goes (compare setup better (setup.random s.event) current (record s { event = s.event + 1 })) _ (compare-unaborted (setup.random s.event) current (record s { event = s.event + 1 }))
      (λ won. try_random-unaborted more (if won then setup.random s.event else current))

  perturb-unaborted : (more : ℕ) (θ : Settings) → IsAlwaysUnaborted (perturb setup better more θ)
  unfolding perturb
  perturb-unaborted zero θ s = tt
  perturb-unaborted (suc more) θ s = perturb-unaborted more (or_stay θ (setup.one_of s.event (setup.neighbours θ))) (record s { event = s.event + 1 })

  search_on-unaborted : (turns : ℕ) (ils : Settings) → IsAlwaysUnaborted (search_on setup better turns ils)
  unfolding search_on
  search_on-unaborted zero ils s = refl
  search_on-unaborted (suc turns) ils s =
      follows (perturb setup better setup.strength ils) _ (perturb-unaborted setup.strength ils)
      (λ far. follows (improve setup better far) _ (improve-unaborted far)
      (λ θ. follows (compare setup better θ ils) _ (compare-unaborted θ ils)
      (λ won s. either (setup.coin s.event) _ _ (λ t. search_on-unaborted turns (setup.random t.event) (record t { event = t.event + 1 })) (search_on-unaborted turns (if won then θ else ils)) (record s { event = s.event + 1 })))) s

  search_after-unaborted : (opening : Procedure (Unit {0})) → IsAlwaysUnaborted opening → IsAlwaysUnaborted (search_after setup better opening)
  unfolding search_after
  search_after-unaborted opening h =
      follows opening _ h
      (λ u. follows (try_random setup better setup.initial setup.start) _ (try_random-unaborted setup.initial setup.start)
      (λ current. follows (improve setup better current) _ (improve-unaborted current) (λ ils. search_on-unaborted (suc setup.budget) ils)))

-- ---- the procedure

opening_focused-unaborted : (setup : Setup) → IsAlwaysUnaborted (opening_focused setup)
unfolding opening_focused
opening_focused-unaborted setup s = tt

procedure-unaborted : (approach : Approach) (setup : Setup) (sums : Sums) → ((θ : Settings) (n : ℕ) → IsSome (sums θ n)) → IsAlwaysUnaborted (procedure approach setup sums)
unfolding procedure
procedure-unaborted Basic setup sums known = search_after-unaborted setup (better_basic setup sums) (better_basic-unaborted sums known setup) (opening_basic setup sums) (opening_basic-unaborted sums known setup)
procedure-unaborted Focused setup sums known = search_after-unaborted setup (better_focused setup sums) (better_focused-unaborted sums known setup) (opening_focused setup) (opening_focused-unaborted setup)

finished : {A : Type 0} (sums : Sums) (t : Step A) → IsUnaborted t → (run_after sums t).end ≡ Finished
finished sums (Goes s a) h = refl
finished sums (Ends s e) h = h

-- over a table of which no outcome aborts the procedure finishes
pub finishes : (approach : Approach) (setup : Setup) (limits : Bounds) (T : Table) → NeverAborts limits T → (uncapped approach setup (total_cost limits T)).end ≡ Finished
unfolding uncapped
finishes approach setup limits T never =
    finished (total_cost limits T) (procedure approach setup (total_cost limits T) (at_first setup)) (procedure-unaborted approach setup (total_cost limits T) (all_known limits T never) (at_first setup))
