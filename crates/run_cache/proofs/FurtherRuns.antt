-- One more run of a cell that isn't settled at its cutoff, learnt: the runs stay rising, and go on backing what is known.
use Rattle.std.proofs.Common.{ℕ, zero, suc, ◌≡◌, ◌<◌, max, Bool, true, false, ◌&&◌, List, [], ◌∷◌, ◌++◌, length, Some, refl, sym, ap, subst, ◌∙◌, inl, inr, arith}
use Rattle.std.specs.Prelude.{◌⊎◌, ◌==◌, nat_lt, if◌then◌else◌, bytes_eq, slice_get}
use Rattle.std.specs.Cmp.Lexicographic.{bytes_decides}
use Rattle.std.proofs.lemmas.Bool.{true≢false, leb-false, eqb-true, eq-eqb}
use Rattle.std.proofs.lemmas.Option.{same_Some, none-some, slice_get_within}
use Rattle.objective.specs.Bounds.{Bounds}
use Rattle.objective.specs.Costs.{penalty}
use Rattle.objective.specs.declared.Micros.{Micros}
use Rattle.objective.specs.declared.Answer.{Answer}
use Rattle.objective.specs.declared.Answer.TheVariants as answer
use Rattle.run_cache.specs.declared.cell.Cell.{Cell}
use Rattle.run_cache.specs.declared.known.Known.{Known}
use Rattle.run_cache.specs.declared.known.Known.TheVariants.{Nothing, Over, Exact, Abort}
use Rattle.run_cache.specs.declared.learning.Evidence.{Evidence}
use Rattle.run_cache.specs.declared.learning.Evidence.TheVariants as evidence
use Rattle.run_cache.specs.Knowledge.{is_settled}
use Rattle.run_cache.specs.Learning.{evidence_of, lesson_from, lesson}
use Rattle.run_cache.specs.Caches.{Knowledge, known_after}
use Rattle.run_cache.specs.Runs.{CellRun, IsOutrun, IsRising, cost_from, exact_cost, IsRunOf, IsTimeout, IsLongest, HasCost, HasAbort, IsBackedAt, IsBacked}

-- an element before the last
at_before_last : {A : Type 0} (xs : List A) (x y : A) (i : ℕ) → slice_get xs i ≡ Some y → slice_get (xs ++ x ∷ []) i ≡ Some y
at_before_last [] x y i h = absurd (none-some y h)
at_before_last (z ∷ xs) x y zero h = h
at_before_last (z ∷ xs) x y (suc i) h = at_before_last xs x y i h

-- the last element
at_last : {A : Type 0} (xs : List A) (x : A) → slice_get (xs ++ x ∷ []) (length xs) ≡ Some x
at_last [] x = refl
at_last (z ∷ xs) x = at_last xs x

-- an element is the last one, or stands before it
at_either : {A : Type 0} (xs : List A) (x y : A) (i : ℕ) → slice_get (xs ++ x ∷ []) i ≡ Some y
    → (slice_get xs i ≡ Some y) ⊎ ((i ≡ length xs) × (x ≡ y))
at_either [] x y zero h = inr (refl, same_Some x y h)
at_either [] x y (suc i) h = absurd (none-some y h)
at_either (z ∷ xs) x y zero h = inl h
at_either (z ∷ xs) x y (suc i) h = more (at_either xs x y i h)
  where
    more : (slice_get xs i ≡ Some y) ⊎ ((i ≡ length xs) × (x ≡ y)) → (slice_get xs i ≡ Some y) ⊎ ((suc i ≡ suc (length xs)) × (x ≡ y))
    more (inl before) = inl before
    more (inr last) = inr (ap suc last.0, last.1)

module _ (limits : Bounds) (runs : List CellRun) (run : CellRun) where
  -- the runs with the further one
  abbrev all : List CellRun
  all = runs ++ run ∷ []

  -- the further run is one of them
  of_itself : (cell : Cell) → run.cell ≡ cell → IsRunOf all cell run
  of_itself cell same = record { number = length runs; among = at_last runs run; same = same }

  -- and so is each run before
  of_before : (cell : Cell) (r : CellRun) → IsRunOf runs cell r → IsRunOf all cell r
  of_before cell r of = record { number = of.number; among = at_before_last runs run r of.number of.among; same = of.same }

  -- there is no other one
  of_either : (cell : Cell) (r : CellRun) → IsRunOf all cell r → IsRunOf runs cell r ⊎ ((run ≡ r) × (run.cell ≡ cell))
  of_either cell r of = by (at_either runs run r of.number of.among)
    where
      by : (slice_get runs of.number ≡ Some r) ⊎ ((of.number ≡ length runs) × (run ≡ r)) → IsRunOf runs cell r ⊎ ((run ≡ r) × (run.cell ≡ cell))
      by (inl before) = inl (record { number = of.number; among = before; same = of.same })
      by (inr last) = inr (last.1, ap (λ s. s.cell) last.1 ∙ of.same)

  -- what is known of another cell is backed as before
  backed_apart : (cell : Cell) (known : Known) → (run.cell ≡ cell → ⊥) → IsBackedAt limits runs cell known → IsBackedAt limits all cell known
  backed_apart cell Nothing apart none = λ r of. by (of_either cell r of)
    where
      by : {r : CellRun} → IsRunOf runs cell r ⊎ ((run ≡ r) × (run.cell ≡ cell)) → ⊥
      by {r} (inl before) = none r before
      by (inr last) = apart last.1
  backed_apart cell (Over t) apart longest = record {
    some = record {
      run = longest.some.run;
      of_cell = of_before cell longest.some.run longest.some.of_cell;
      timeout = longest.some.timeout;
      with_cutoff = longest.some.with_cutoff;
    };
    each = λ r of. by r (of_either cell r of);
  }
    where
      by : (r : CellRun) → IsRunOf runs cell r ⊎ ((run ≡ r) × (run.cell ≡ cell)) → IsTimeout t.0 r
      by r (inl before) = longest.each r before
      by r (inr last) = absurd (apart last.1)
  backed_apart cell (Exact x) apart has = record { run = has.run; of_cell = of_before cell has.run has.of_cell; exact = has.exact }
  backed_apart cell Abort apart has = record { run = has.run; of_cell = of_before cell has.run has.of_cell; abort = has.abort }

  -- the run's evidence is a cost
  costs : (x : ℕ) → exact_cost limits run ≡ Some x → HasCost limits all run.cell x
  costs x exact = record { run = run; of_cell = of_itself run.cell refl; exact = exact }

  -- the further run shows a timeout, and has more time than those before
  longest : (cutoff : ℕ) → run.answer ≡ answer.Timeout → run.cutoff ≡ cutoff → ((r : CellRun) → IsRunOf runs run.cell r → IsTimeout cutoff r)
      → IsLongest all run.cell cutoff
  longest cutoff timeout same before = record {
    some = record { run = run; of_cell = of_itself run.cell refl; timeout = timeout; with_cutoff = same };
    each = λ r of. by r (of_either run.cell r of);
  }
    where
      by : (r : CellRun) → IsRunOf runs run.cell r ⊎ ((run ≡ r) × (run.cell ≡ run.cell)) → IsTimeout cutoff r
      by r (inl earlier) = before r earlier
      by r (inr last) = subst (IsTimeout cutoff) last.0 (record { timeout = timeout; at_most = omega (arith, same) })

  aborts : run.answer ≡ answer.Abort → HasAbort all run.cell
  aborts shown = record { run = run; of_cell = of_itself run.cell refl; abort = shown }

-- evidence of more time is a timeout under this cutoff
record IsCutShort (cutoff : ℕ) (shown : Answer) (c : Micros) : Type 0 where
  timeout : shown ≡ answer.Timeout
  same : cutoff ≡ c.0

-- the time of evidence
abbrev time_of : Evidence → ℕ
time_of (evidence.Solved t) = t.0
time_of (evidence.Longer c) = c.0
time_of evidence.Unsolved = 0
time_of evidence.Abort = 0

cut_short : (limits : Bounds) (cutoff : ℕ) (shown : Answer) (c : Micros) → evidence_of limits cutoff shown ≡ evidence.Longer c → IsCutShort cutoff shown c
cut_short limits cutoff (answer.Solved t) c e = absurd (cc)
cut_short limits cutoff answer.Timeout c e = by (nat_lt cutoff limits.cutoff) e
  where
    by : (b : Bool) → (if b then evidence.Longer (record { 0 = cutoff }) else evidence.Unsolved) ≡ evidence.Longer c → IsCutShort cutoff answer.Timeout c
    by true h = record { timeout = refl; same = ap time_of h }
    by false h = absurd (cc)
cut_short limits cutoff answer.Crashed c e = absurd (cc)
cut_short limits cutoff answer.Abort c e = absurd (cc)

-- evidence of an abort is that answer
abort_shown : (limits : Bounds) (cutoff : ℕ) (shown : Answer) → evidence_of limits cutoff shown ≡ evidence.Abort → shown ≡ answer.Abort
abort_shown limits cutoff (answer.Solved t) e = absurd (cc)
abort_shown limits cutoff answer.Timeout e = by (nat_lt cutoff limits.cutoff) e
  where
    by : (b : Bool) → (if b then evidence.Longer (record { 0 = cutoff }) else evidence.Unsolved) ≡ evidence.Abort → answer.Timeout ≡ answer.Abort
    by true h = absurd (cc)
    by false h = absurd (cc)
abort_shown limits cutoff answer.Crashed e = absurd (cc)
abort_shown limits cutoff answer.Abort e = refl

module _ (limits : Bounds) (runs : List CellRun) (run : CellRun) where
  -- what is known of the run's own cell is backed
  backed_here : (known : Known) (e : Evidence) → evidence_of limits run.cutoff run.answer ≡ e → is_settled known run.cutoff ≡ false
      → IsBackedAt limits runs run.cell known → IsBackedAt limits (runs ++ run ∷ []) run.cell (lesson_from (penalty limits) known e).known
  backed_here Nothing (evidence.Solved t) is unsettled none = costs limits runs run t.0 (ap (cost_from limits) is)
  backed_here Nothing (evidence.Longer c) is unsettled none =
      let cut = cut_short limits run.cutoff run.answer c is in
      longest limits runs run c.0 cut.timeout cut.same (λ r of. absurd (none r of))
  backed_here Nothing evidence.Unsolved is unsettled none = costs limits runs run (penalty limits) (ap (cost_from limits) is)
  backed_here Nothing evidence.Abort is unsettled none = aborts limits runs run (abort_shown limits run.cutoff run.answer is)
  backed_here (Over k) (evidence.Solved t) is unsettled before = costs limits runs run t.0 (ap (cost_from limits) is)
  backed_here (Over k) (evidence.Longer c) is unsettled before =
      let cut = cut_short limits run.cutoff run.answer c is in
      let more : k.0 < run.cutoff = leb-false run.cutoff k.0 unsettled in
      let same : run.cutoff ≡ max k.0 c.0 = (let cutoff = cut.same in omega arith) in
      longest limits runs run (max k.0 c.0) cut.timeout same
      (λ r of. record { timeout = (before.each r of).timeout; at_most = (let most = (before.each r of).at_most in omega arith) })
  backed_here (Over k) evidence.Unsolved is unsettled before = costs limits runs run (penalty limits) (ap (cost_from limits) is)
  backed_here (Over k) evidence.Abort is unsettled before = aborts limits runs run (abort_shown limits run.cutoff run.answer is)
  backed_here (Exact x) e is unsettled before = absurd (true≢false unsettled)
  backed_here Abort e is unsettled before = absurd (true≢false unsettled)

  -- one more run of a cell that isn't settled at its cutoff, learnt, backs what is known
  pub backed_more : (known : Knowledge) → is_settled (known run.cell.config run.cell.place) run.cutoff ≡ false → IsBacked limits runs known
      → IsBacked limits (runs ++ run ∷ []) (known_after known run.cell (lesson limits (known run.cell.config run.cell.place) run.cutoff run.answer).known)
  backed_more known unsettled backed = record { cells = λ cell. by (bytes_eq run.cell.config cell.config) (run.cell.place == cell.place) cell refl refl }
    where
      by : (x y : Bool) (cell : Cell) → bytes_eq run.cell.config cell.config ≡ x → (run.cell.place == cell.place) ≡ y
          → IsBackedAt limits (runs ++ run ∷ []) cell
          (if x && y then (lesson limits (known run.cell.config run.cell.place) run.cutoff run.answer).known else known cell.config cell.place)
      by false y cell e f =
          backed_apart limits runs run cell (known cell.config cell.place)
          (λ s. true≢false (sym ((bytes_decides run.cell.config cell.config).1 (ap (λ c. c.config) s)) ∙ e)) (backed.cells cell)
      by true false cell e f =
          backed_apart limits runs run cell (known cell.config cell.place)
          (λ s. true≢false (sym (eq-eqb run.cell.place cell.place (ap (λ c. c.place) s)) ∙ f)) (backed.cells cell)
      by true true cell e f =
          let config = (bytes_decides run.cell.config cell.config).0 e in
          let place = eqb-true run.cell.place cell.place f in
          let same : run.cell ≡ cell = λ i. record { config = config i; place = place i } in
          subst (λ c. IsBackedAt limits (runs ++ run ∷ []) c (lesson limits (known run.cell.config run.cell.place) run.cutoff run.answer).known) same
          (backed_here (known run.cell.config run.cell.place) (evidence_of limits run.cutoff run.answer) refl unsettled (backed.cells run.cell))

  -- each earlier run of the cell shows a timeout under a lesser cutoff
  outrun_by : (known : Known) (r : CellRun) → is_settled known run.cutoff ≡ false → IsBackedAt limits runs run.cell known → IsRunOf runs run.cell r → IsOutrun r run
  outrun_by Nothing r unsettled none of = absurd (none r of)
  outrun_by (Over k) r unsettled before of =
      let more : k.0 < run.cutoff = leb-false run.cutoff k.0 unsettled in
      record { timeout = (before.each r of).timeout; more = (let most = (before.each r of).at_most in omega arith) }
  outrun_by (Exact x) r unsettled before of = absurd (true≢false unsettled)
  outrun_by Abort r unsettled before of = absurd (true≢false unsettled)

  -- one more run of a cell that isn't settled at its cutoff leaves the runs rising
  pub rising_more : (known : Knowledge) → is_settled (known run.cell.config run.cell.place) run.cutoff ≡ false → IsBacked limits runs known
      → IsRising runs → IsRising (runs ++ run ∷ [])
  rising_more known unsettled backed rising = record {
    outrun = λ i j r s less at_r at_s same. by i j r s less same (at_either runs run r i at_r) (at_either runs run s j at_s);
  }
    where
      by : (i j : ℕ) (r s : CellRun) → i < j → r.cell ≡ s.cell → (slice_get runs i ≡ Some r) ⊎ ((i ≡ length runs) × (run ≡ r))
          → (slice_get runs j ≡ Some s) ⊎ ((j ≡ length runs) × (run ≡ s)) → IsOutrun r s
      by i j r s less same (inl first) (inl second) = rising.outrun i j r s less first second same
      by i j r s less same (inr first) (inl second) = absurd (omega (arith, first.0, slice_get_within runs j s second))
      by i j r s less same (inr first) (inr second) = absurd (omega (arith, first.0, second.0))
      by i j r s less same (inl first) (inr second) =
          let own : r.cell ≡ run.cell = same ∙ ap (λ t. t.cell) (sym second.1) in
          subst (IsOutrun r) second.1
          (outrun_by (known run.cell.config run.cell.place) r unsettled (backed.cells run.cell) (record { number = i; among = first; same = own }))
