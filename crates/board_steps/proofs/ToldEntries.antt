-- What holds of each board makes of the entries that it shows over a told truth.
use Rattle.std.proofs.Common.{◌≡◌, List, Option, Some, IsSome}
use Rattle.std.specs.Prelude.{IsSomeAnd}
use Rattle.objective.specs.Costs.{Table}
use Rattle.objective.specs.declared.Outcome.{Outcome}
use Rattle.wrapper_lines.specs.declared.runs.Key.{Key}
use Rattle.uncapped.specs.Totals.{quiet}
use Rattle.uncapped.specs.Uncapped.{Run}
use Rattle.ils_face.specs.ProcedureAborts.{MeetsAborts, entries_of}
use Rattle.ils_face.specs.declared.asks.Ask.TheVariants.{End}
use Rattle.ils_face.specs.declared.asks.Reply.{Reply}
use Rattle.ils_face.specs.Follows.{Follows, sums_under}
use Rattle.ils_face.specs.Rules.{Rules, AreRules}
use Rattle.ils_face.specs.Steady.{IsSteady, Grows}
use Rattle.ils_face.specs.Traces.{question_of}
use Rattle.ils_face.specs.Views.{View}
use Rattle.run_cache.specs.declared.cell.Cell.{Cell}
use Rattle.board_steps.specs.BoardInvariant.{BoardInvariant}
use Rattle.board_steps.specs.Boards.{BoardState, plain_board}
use Rattle.board_steps.specs.ProblemRuns.{table_of}
use Rattle.board_steps.specs.RepliedAsks.{quiet_by}
use Rattle.board_steps.specs.ShownEntries.{true_by, ShowsAll, ShowsAborted}
use Rattle.board_steps.proofs.AbortedBoards.{IsFirstAborting, aborting-first}
use Rattle.board_steps.proofs.ShownEntries.{first-entries-shown, all-entries-shown, aborted-entries-shown}

module _ (shown : Rules → List Reply → View) (procedure : Rules → Table → Run) (truth : Option (Key → Outcome)) where
  -- where a cell is set as aborted, its run is due at the present ask and aborts, and none before it does
  pub told-abort : (b : BoardState) (cell : Cell) → b.aborted ≡ Some cell → IsSome truth → BoardInvariant shown procedure truth b
      → IsSomeAnd (question_of (shown b.problem.rules b.replies).ask) (IsFirstAborting b.problem.rules.limits (table_of truth b.problem) cell)
  unfolding plain_board
  told-abort b cell is told inv = aborting-first shown (plain_board b) (table_of truth b.problem) (inv.agrees told).known cell is inv.aborting

  module _ (follows : (rules : Rules) (T : Table) → AreRules rules → Follows (shown rules) (sums_under rules T) (procedure rules T))
      (steady : (rules : Rules) → AreRules rules → IsSteady rules (shown rules)) where
    -- the entries that are shown are the first ones of the procedure, where each abort counts as unsolved
    pub told-entries : (b : BoardState) → IsSome truth → BoardInvariant shown procedure truth b
        → Grows (shown b.problem.rules b.replies).entries (entries_of (quiet_by procedure truth b.problem))
    unfolding plain_board
    told-entries b told inv = first-entries-shown procedure truth shown follows steady (plain_board b) inv.ruled (inv.replies told)

    module _ (aborts : (rules : Rules) (T : Table) → AreRules rules → MeetsAborts (sums_under rules T) (procedure rules T) (procedure rules (quiet T))) where
      -- at the end of the search all of them are shown, and the last line
      pub told-finished : (b : BoardState) → (shown b.problem.rules b.replies).ask ≡ End → IsSome truth → BoardInvariant shown procedure truth b
          → ShowsAll (shown b.problem.rules b.replies) (true_by procedure truth b.problem) (quiet_by procedure truth b.problem)
      unfolding plain_board
      told-finished b ended told inv = all-entries-shown procedure truth shown follows steady aborts (plain_board b) ended inv.ruled (inv.replies told)

      -- where a cell is set as aborted, so is the procedure, and its entries are the first ones that are shown
      pub told-aborted : (b : BoardState) (cell : Cell) → b.aborted ≡ Some cell → IsSome truth → BoardInvariant shown procedure truth b
          → ShowsAborted (shown b.problem.rules b.replies) (true_by procedure truth b.problem) (quiet_by procedure truth b.problem)
      unfolding plain_board
      told-aborted b cell is told inv =
          let here = inv.aborting.at cell is in
          aborted-entries-shown procedure truth shown follows steady aborts (plain_board b) cell here.known here.config here.first here.within inv.ruled
          (inv.agrees told) (inv.replies told)
