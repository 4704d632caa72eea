-- Lists of due runs, with one more at their end.
use Rattle.std.proofs.Common.{ℕ, ◌≤◌, List, [], ◌∷◌, ◌++◌, arith}
use Rattle.objective.specs.Bounds.{Bounds}
use Rattle.objective.specs.Costs.{Table}
use Rattle.uncapped.specs.Procedure.{Question}
use Rattle.run_cache.specs.Runs.{CellRun, IsDue, AreDueBetween}

module _ (limits : Bounds) (T : Table) (asks : List Question) where
  -- a later last ask serves too
  pub due_up_to_later : (first last later : ℕ) (runs : List CellRun) → last ≤ later → AreDueBetween limits T asks first last runs
      → AreDueBetween limits T asks first later runs
  due_up_to_later first last later [] more within = omega arith
  due_up_to_later first last later (run ∷ runs) more due =
      record { number = due.number; from = due.from; due = due.due; rest = due_up_to_later due.number last later runs more due.rest }

  -- one more run, which is due at the last ask
  pub one_more_due : (first last : ℕ) (runs : List CellRun) (run : CellRun) → AreDueBetween limits T asks first last runs
      → IsDue limits T asks last run → AreDueBetween limits T asks first last (runs ++ run ∷ [])
  one_more_due first last [] run within due = record { number = last; from = within; due = due; rest = omega arith }
  one_more_due first last (r ∷ runs) run before due =
      record { number = before.number; from = before.from; due = before.due; rest = one_more_due before.number last runs run before.rest due }
