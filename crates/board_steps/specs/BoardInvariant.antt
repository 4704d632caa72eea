-- What holds of each board, part by part, with and without a told truth.
use Rattle.std.specs.Prelude.{◌≡◌, List, Option, All, IsSome, true}
use Rattle.objective.specs.Costs.{Table}
use Rattle.objective.specs.declared.Outcome.{Outcome}
use Rattle.wrapper_lines.specs.declared.runs.Key.{Key}
use Rattle.uncapped.specs.Uncapped.{Run}
use Rattle.ils_face.specs.declared.asks.Reply.{Reply}
use Rattle.ils_face.specs.Rules.{Rules, AreRules}
use Rattle.ils_face.specs.Views.{View}
use Rattle.board_steps.specs.BoardAborts.{IsAborting}
use Rattle.board_steps.specs.AgreeingBoards.{IsAgreeing}
use Rattle.board_steps.specs.AskedTickets.{AreAsked}
use Rattle.board_steps.specs.Boards.{BoardState, plain_board}
use Rattle.board_steps.specs.DueTickets.{AreDueTickets}
use Rattle.board_steps.specs.JournalRuns.{AreTaken}
use Rattle.board_steps.specs.Numbering.{IsNumbered}
use Rattle.board_steps.specs.RangedBoards.{IsRanged}
use Rattle.board_steps.specs.RecordedRuns.{AreRising}
use Rattle.board_steps.specs.RepliedAsks.{AreReplied}
use Rattle.board_steps.specs.Replays.{replay}
use Rattle.board_steps.specs.SummedReplies.{AreSummed}

-- every live ticket of a stopped board is marked
pub record IsStopped (b : BoardState) : Type 0 where
  pub marked : b.stopped ≡ true → All (λ l. l.marked ≡ true) b.live

-- what holds of each board, after any steps; the last three parts where the truth is told
pub record BoardInvariant (shown : Rules → List Reply → View) (procedure : Rules → Table → Run) (truth : Option (Key → Outcome)) (b : BoardState) : Type 0 where
  pub ruled : AreRules b.problem.rules
  pub limits : b.cache.limits ≡ b.problem.rules.limits
  pub replays : plain_board b ≡ replay shown b.problem b.journal
  pub numbering : IsNumbered b
  pub stopped : IsStopped b
  pub ranged : IsRanged (plain_board b)
  pub taken : AreTaken (plain_board b)
  pub asked : AreAsked shown (plain_board b)
  pub aborting : IsAborting shown (plain_board b)
  pub rising : AreRising (plain_board b)
  pub sums : AreSummed shown (plain_board b)
  pub agrees : IsSome truth → IsAgreeing truth (plain_board b)
  pub replies : IsSome truth → AreReplied procedure truth (plain_board b)
  pub due : IsSome truth → AreDueTickets procedure truth (plain_board b)
