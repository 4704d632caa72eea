-- What is known of costs stands in the rows of a run log.
use Rattle.std.proofs.Common.{ℕ, zero, suc, ◌≡◌, ◌≤◌, ◌<◌, Bool, true, false, List, [], ◌∷◌, Option, Some, None, All, length, refl, sym, ap, ◌∙◌, arith, subst, inl, inr, if◌then◌else◌}
use Rattle.std.specs.Prelude.{nat_lt}
use Rattle.std.specs.List.{cons_option, filter_map, slice_get}
use Rattle.std.proofs.lemmas.Bool.{cases_Bool, lt-ltb}
use Rattle.std.proofs.lemmas.List.Elements.{All-get_or}
use Rattle.std.proofs.lemmas.Option.{none-some, same_Some, slice_get_within, get_or_from_slice_get}
use Rattle.objective.specs.Bounds.{Bounds}
use Rattle.objective.specs.declared.Answer.{Answer}
use Rattle.objective.specs.declared.Answer.TheVariants as answer
use Rattle.run_cache.specs.declared.cell.Cell.{Cell}
use Rattle.run_cache.specs.declared.known.Known.{Known}
use Rattle.run_cache.specs.declared.known.Known.TheVariants.{Nothing, Over, Exact, Abort}
use Rattle.run_cache.specs.Caches.{Knowledge}
use Rattle.run_cache.specs.Learning.{evidence_of}
use Rattle.run_cache.specs.Runs.{CellRun, IsOutrun, IsRising, HasCost, IsBackedAt, IsBacked, cost_from, exact_cost}
use Rattle.uncapped.specs.Totals.{plus}
use Rattle.capping.specs.ExactSums as sums
use Rattle.capping.proofs.ExactSums.{parts_of}
use Rattle.board_steps.specs.Tickets.{same_cell}
use Rattle.board_steps.proofs.SameCells.{same_cell-Decides}
use Rattle.tuning_logs.specs.RunLog.{LoggedRun}
use Rattle.run_logs.specs.LoggedRuns.{runs_in}
use Rattle.run_logs.specs.LoggedCosts.{cost_told, logged_cost, logged_sum}
use Rattle.run_logs.proofs.LoggedRuns.{IsWithinFull}

-- the first that is told, by its place
first-told : {A B : Type 0} (h : A → Option B) (xs : List A) (i : ℕ) (a : A) (y : B) → slice_get xs i ≡ Some a → h a ≡ Some y
    → ((j : ℕ) (b : A) → j < i → slice_get xs j ≡ Some b → h b ≡ None) → slice_get (filter_map h xs) 0 ≡ Some y
first-told h [] i a y at told none = absurd (none-some a at)
first-told h (x ∷ xs) zero a y at told none =
    let here : h x ≡ Some y = ap h (same_Some x a at) ∙ told in
    ap (λ o. slice_get (cons_option o (filter_map h xs)) 0) here
first-told h (x ∷ xs) (suc i) a y at told none =
    let here : h x ≡ None = none 0 x (omega arith) refl in
    ap (λ o. slice_get (cons_option o (filter_map h xs)) 0) here
    ∙ first-told h xs i a y at told (λ j b below there. none (suc j) b (omega (arith, below)) there)

-- a timeout under less than the full cutoff tells no cost
untold-timeout : (limits : Bounds) (cutoff : ℕ) → cutoff < limits.cutoff → cost_from limits (evidence_of limits cutoff answer.Timeout) ≡ None
untold-timeout limits cutoff below = rw (lt-ltb cutoff limits.cutoff below) refl

untold : (limits : Bounds) (run : CellRun) → run.answer ≡ answer.Timeout → run.cutoff < limits.cutoff → exact_cost limits run ≡ None
untold limits run timeout below = ap (λ a. cost_from limits (evidence_of limits run.cutoff a)) timeout ∙ untold-timeout limits run.cutoff below

module _ (limits : Bounds) (runs : List CellRun) (rising : IsRising runs) (within : All (IsWithinFull limits.cutoff) runs) where
  -- before an exact run of the cell there is none
  told-before : (cell : Cell) (x : ℕ) (has : HasCost limits runs cell x) (j : ℕ) (b : CellRun) → j < has.of_cell.number → slice_get runs j ≡ Some b
      → cost_told limits cell b ≡ None
  told-before cell x has j b below at = elim (cases_Bool (same_cell cell b.cell)) [
    | inl same ↦
        let cell_is : cell ≡ b.cell = (same_cell-Decides cell b.cell).0 same in
        let out : IsOutrun b has.run = rising.outrun j has.of_cell.number b has.run below at has.of_cell.among (sym cell_is ∙ sym has.of_cell.same) in
        let full : has.run.cutoff ≤ limits.cutoff =
        subst (IsWithinFull limits.cutoff) (get_or_from_slice_get runs has.of_cell.number has.run has.run has.of_cell.among)
        (All-get_or (IsWithinFull limits.cutoff) runs has.of_cell.number has.run (slice_get_within runs has.of_cell.number has.run has.of_cell.among) within) in
        ap (λ t. if t then exact_cost limits b else None) same ∙ untold limits b out.timeout (omega (arith, out.more, full))
    | inr other ↦ ap (λ t. if t then exact_cost limits b else None) other
  ]

  -- the cost of an exact run is the one that is told of its cell
  pub cost-logged : (cell : Cell) (x : ℕ) → HasCost limits runs cell x → slice_get (filter_map (cost_told limits cell) runs) 0 ≡ Some x
  cost-logged cell x has =
      let here : cost_told limits cell has.run ≡ Some x =
      ap (λ t. if t then exact_cost limits has.run else None) ((same_cell-Decides cell has.run.cell).1 (sym has.of_cell.same)) ∙ has.exact in
      first-told (cost_told limits cell) runs has.of_cell.number has.run x has.of_cell.among here (told-before cell x has)

-- a cost that is known exactly is told
cost-known : (limits : Bounds) (runs : List CellRun) (cell : Cell) (k : Known) (x : ℕ) → sums.exact_cost k ≡ Some x → IsBackedAt limits runs cell k → HasCost limits runs cell x
cost-known limits runs cell Nothing x e backed = absurd (none-some x e)
cost-known limits runs cell (Over t) x e backed = absurd (none-some x e)
cost-known limits runs cell (Exact cost) x e backed = subst (HasCost limits runs cell) (same_Some cost.0 x e) backed
cost-known limits runs cell Abort x e backed = absurd (none-some x e)

module _ (limits : Bounds) (rows : List LoggedRun) (known : Knowledge) (rising : IsRising (runs_in rows)) (within : All (IsWithinFull limits.cutoff) (runs_in rows))
    (backed : IsBacked limits (runs_in rows) known) where
  -- where a cost is known, the rows tell it
  pub known-logged : (cell : Cell) (x : ℕ) → sums.exact_cost (known cell.config cell.place) ≡ Some x → logged_cost limits rows cell ≡ Some x
  known-logged cell x e = cost-logged limits (runs_in rows) rising within cell x (cost-known limits (runs_in rows) cell (known cell.config cell.place) x e (backed.cells cell))

  -- a sum of known costs is one of the rows
  pub sum-logged : (config : List ℕ) (n sum : ℕ) → sums.exact_sum (known config) n ≡ Some sum → logged_sum limits rows config n ≡ Some sum
  sum-logged config zero sum e = e
  sum-logged config (suc n) sum e =
      let parts = parts_of (sums.exact_sum (known config) n) (sums.exact_cost (known config (suc n))) sum e in
      let cell : Cell = record { config = config; place = suc n } in
      let before = sum-logged config n parts.left parts.left_is in
      let here = known-logged cell parts.right parts.right_is in
      (λ i. plus (before i) (here i)) ∙ ap Some (sym parts.sum_is)
