-- What holds of the rows of a board's journal.
use Rattle.std.proofs.Common.{ℕ, zero, suc, ◌≡◌, ◌⊎◌, List, [], ◌∷◌, Option, Some, None, All, IsSome, take, refl, sym, ap, ◌∙◌, arith, subst, inl, inr}
use Rattle.std.specs.Prelude.{IfSome}
use Rattle.std.proofs.lemmas.List.Elements.{All-nil}
use Rattle.objective.specs.Costs.{Table}
use Rattle.objective.specs.declared.Outcome.{Outcome}
use Rattle.wrapper_lines.specs.declared.runs.Key.{Key}
use Rattle.uncapped.specs.Procedure.{Incumbent}
use Rattle.uncapped.specs.Uncapped.{Run}
use Rattle.ils_face.specs.declared.asks.Ask.{Ask}
use Rattle.ils_face.specs.declared.asks.Ask.TheVariants.{Full, Versus, End}
use Rattle.ils_face.specs.declared.asks.Reply.{Reply}
use Rattle.ils_face.specs.declared.asks.Reply.TheVariants.{Exact, Exceeds}
use Rattle.ils_face.specs.Rules.{Rules, AreRules}
use Rattle.ils_face.specs.Steady.{AsksFor, WasReplied, IsEarned, IsSteady}
use Rattle.ils_face.specs.Views.{View, AreFitting}
use Rattle.run_cache.specs.declared.cell.Cell.{Cell}
use Rattle.run_cache.specs.declared.known.Known.{Known}
use Rattle.run_cache.specs.declared.known.Known.TheVariants.{Abort}
use Rattle.run_cache.specs.Caches.{Knowledge}
use Rattle.run_cache.specs.Runs.{CellRun, IsRising, HasAbort, IsBackedAt, IsBacked}
use Rattle.capping.specs.ExactSums.{exact_sum}
use Rattle.board_steps.specs.AgreeingBoards.{IsShown}
use Rattle.board_steps.specs.BoardInvariant.{BoardInvariant}
use Rattle.board_steps.specs.Boards.{BoardState, plain_board}
use Rattle.board_steps.specs.JournalRuns.{runs_of}
use Rattle.board_steps.specs.Numbering.{IsRunnableTake, tickets_of}
use Rattle.board_steps.specs.ProblemRuns.{table_of}
use Rattle.board_steps.specs.SummedReplies.{IsSummed, AreSummedReplies}
use Rattle.tuning_logs.specs.RunLog.{LoggedRun}
use Rattle.run_logs.specs.LoggedRuns.{logged_runs, runs_in, HaveOwnTickets}
use Rattle.run_logs.specs.LoggedCosts.{logged_sum}
use Rattle.run_logs.proofs.LoggedRuns.{IsWithinFull, runs-logged, runs-within, logged-tickets}
use Rattle.run_logs.proofs.LoggedCosts.{sum-logged}

-- ---- what was replied

-- the sum that a reply tells
abbrev sum_in : Reply → ℕ
sum_in (Exact sum) = sum.0
sum_in Exceeds = 0

-- a sum that was replied to an ask of the configuration is one of known costs
summed-at : (known : Knowledge) (ask : Ask) (r : Reply) (θ : List ℕ) (n x : ℕ) → IsSummed known ask r → AsksFor ask θ n
    → r ≡ Exact (record { 0 = x }) → exact_sum (known θ) n ≡ Some x
summed-at known (Full φ m) (Exact sum) θ n x s asks is =
    let cost : sum.0 ≡ x = ap sum_in is in
    (λ i. exact_sum (known (sym asks.0 i)) (sym asks.1 i)) ∙ s.same ∙ ap Some cost
summed-at known (Versus φ m bound) (Exact sum) θ n x s asks is =
    let cost : sum.0 ≡ x = ap sum_in is in
    (λ i. exact_sum (known (sym asks.0 i)) (sym asks.1 i)) ∙ s.same ∙ ap Some cost
summed-at known End r θ n x s asks is = absurd asks
summed-at known ask Exceeds θ n x s asks is = absurd (cc)

replied-sum : (shown : List Reply → View) (known : Knowledge) (replies : List Reply) (θ : List ℕ) (n x : ℕ) → AreSummedReplies shown known replies
    → WasReplied shown replies θ n x → exact_sum (known θ) n ≡ Some x
replied-sum shown known [] θ n x summed was = absurd was
replied-sum shown known (r ∷ later) θ n x summed (inl now) = summed-at known (shown []).ask r θ n x (summed.each 0 r refl) now.0 now.1
replied-sum shown known (r ∷ later) θ n x summed (inr was) =
    replied-sum (λ rest. shown (r ∷ rest)) known later θ n x (record { each = λ i s at. summed.each (suc i) s at }) was

-- the cost of an incumbent's runs is a sum of known costs
earned-sum : (shown : List Reply → View) (known : Knowledge) (replies : List Reply) (last : Incumbent) → AreSummedReplies shown known replies
    → IsEarned shown replies last → exact_sum (known last.config) last.runs ≡ Some last.sum
earned-sum shown known replies last summed (inl none) = ap (exact_sum (known last.config)) none.0 ∙ ap Some (sym none.1)
earned-sum shown known replies last summed (inr was) = replied-sum shown known replies last.config last.runs last.sum summed was

-- ---- boards

module _ (shown : Rules → List Reply → View) (procedure : Rules → Table → Run) (truth : Option (Key → Outcome)) (b : BoardState)
    (inv : BoardInvariant shown procedure truth b) where
  runs-same : runs_in (logged_runs b.journal) ≡ runs_of b.journal
  runs-same = runs-logged [] b.journal

  pub board-rising : IsRising (runs_in (logged_runs b.journal))
  unfolding plain_board
  board-rising = subst IsRising (sym runs-same) inv.rising.runs.rising

  pub board-tickets : HaveOwnTickets (logged_runs b.journal)
  board-tickets = logged-tickets b.problem (tickets_of b.live) b.next b.journal inv.numbering.numbers

  pub board-shown : IsSome truth → All (IsShown (table_of truth b.problem)) (runs_in (logged_runs b.journal))
  unfolding plain_board
  board-shown told = subst (All (IsShown (table_of truth b.problem))) (sym runs-same) (inv.agrees told).shown

  board-within : All (IsWithinFull b.problem.rules.limits.cutoff) (runs_in (logged_runs b.journal))
  board-within = subst (All (IsWithinFull b.problem.rules.limits.cutoff)) (sym runs-same)
      (runs-within b.problem.rules [] b.journal (All-nil (IsRunnableTake b.problem.rules)) inv.numbering.numbers.takes)

  -- the cost of an incumbent's runs is the sum that the rows tell
  pub board-earned : (last : Incumbent) → IsEarned (shown b.problem.rules) b.replies last
      → logged_sum b.problem.rules.limits (logged_runs b.journal) last.config last.runs ≡ Some last.sum
  unfolding plain_board
  board-earned last earned =
      let limits = b.problem.rules.limits in
      let known = (plain_board b).known in
      let backed : IsBacked limits (runs_in (logged_runs b.journal)) known = subst (λ rs. IsBacked limits rs known) (sym runs-same) inv.rising.runs.backed in
      sum-logged limits (logged_runs b.journal) known board-rising board-within backed last.config last.runs last.sum
      (earned-sum (shown b.problem.rules) known b.replies last inv.sums.replies earned)

  aborts-known : (cell : Cell) (k : Known) → k ≡ Abort → IsBackedAt b.problem.rules.limits (runs_of b.journal) cell k → HasAbort (runs_of b.journal) cell
  aborts-known cell k is backed = subst (IsBackedAt b.problem.rules.limits (runs_of b.journal) cell) is backed

  -- the cell that a board ended at has a row that aborts
  pub board-abort : (cell : Cell) → b.aborted ≡ Some cell → HasAbort (runs_in (logged_runs b.journal)) cell
  unfolding plain_board
  board-abort cell is =
      subst (λ rs. HasAbort rs cell) (sym runs-same)
      (aborts-known cell ((plain_board b).known cell.config cell.place) (inv.aborting.at cell is).known (inv.rising.runs.backed.cells cell))

  -- where a board ended at a cell, that cell has such a row
  pub board-ending : IfSome b.aborted (HasAbort (runs_in (logged_runs b.journal)))
  board-ending = at b.aborted refl
    where
      at : (o : Option Cell) → b.aborted ≡ o → IfSome o (HasAbort (runs_in (logged_runs b.journal)))
      at None is = tt
      at (Some cell) is = board-abort cell is

  -- the incumbent of the search is one whose cost the rows tell
  pub board-incumbent : ((rules : Rules) → AreRules rules → IsSteady rules (shown rules))
      → (rules : Rules) (replies : List Reply) → rules ≡ b.problem.rules → replies ≡ b.replies → AreFitting (shown rules) replies
      → logged_sum b.problem.rules.limits (logged_runs b.journal) (shown b.problem.rules b.replies).last.config (shown b.problem.rules b.replies).last.runs
      ≡ Some (shown b.problem.rules b.replies).last.sum
  board-incumbent steady rules replies r e fits =
      let here : AreFitting (shown b.problem.rules) b.replies = subst (AreFitting (shown b.problem.rules)) e (subst (λ x. AreFitting (shown x) replies) r fits) in
      board-earned (shown b.problem.rules b.replies).last ((steady b.problem.rules inv.ruled).earned b.replies here)
