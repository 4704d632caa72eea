-- What the search of a board asks for, and where the board stands.
use Rattle.std.specs.Prelude.{ℕ, ◌-◌, List, [], Option, Some, None, if◌then◌else◌}
use Rattle.ils_face.specs.declared.asks.Ask.{Ask}
use Rattle.ils_face.specs.declared.asks.Ask.TheVariants.{Full, Versus, End}
use Rattle.ils_face.specs.declared.asks.Reply.{Reply}
use Rattle.ils_face.specs.Rules.{Rules}
use Rattle.ils_face.specs.Views.{View}
use Rattle.run_cache.specs.declared.cell.Cell.{Cell}
use Rattle.capping.specs.declared.verdicts.Verdict.{Verdict}
use Rattle.capping.specs.Verdicts.{verdict_of}
use Rattle.predictor.specs.declared.wish.Wish.{Wish}
use Rattle.predictor.specs.Wishes.{wishes_of}
use Rattle.board_steps.specs.declared.answers.BoardVerdict.{BoardVerdict}
use Rattle.board_steps.specs.declared.answers.BoardVerdict.TheVariants.{Stopped, Aborted, Open}
use Rattle.board_steps.specs.Boards.{PlainBoard}

-- the configuration that an ask is of; none at the end
abbrev pub config_of : Ask → List ℕ
config_of (Full θ n) = θ
config_of (Versus θ n bound) = θ
config_of End = []

module _ (shown : Rules → List Reply → View) where
  -- the present ask
  abbrev pub ask_on : PlainBoard → Ask
  ask_on b = (shown b.problem.rules b.replies).ask

  -- what is known makes this of the present ask
  unfoldable pub verdict_on : PlainBoard → Verdict
  verdict_on b = verdict_of b.problem.rules.limits b.known (ask_on b)

  -- a cell of the present ask
  unfoldable pub asked_cell : PlainBoard → ℕ → Cell
  asked_cell b place = record { config = config_of (ask_on b); place = place }

  -- the wishes at the present ask: one for each seat beside the first
  unfoldable pub wishes_on : PlainBoard → List Wish
  wishes_on b = wishes_of (shown b.problem.rules) b.problem.rules.limits b.known b.replies (b.problem.rules.workers - 1)

  -- where a board stands that isn't stopped
  abbrev pub board_verdict_by : PlainBoard → Option Cell → BoardVerdict
  board_verdict_by b None = Open (verdict_on b)
  board_verdict_by b (Some cell) = Aborted

  -- where a board stands
  unfoldable pub board_verdict_of : PlainBoard → BoardVerdict
  board_verdict_of b = if b.stopped then Stopped else board_verdict_by b b.aborted

-- the fact of the verdict of an open board
abbrev pub IfOpen : BoardVerdict → (Verdict → Type 0) → Type 0
IfOpen Stopped P = Unit {0}
IfOpen Aborted P = Unit {0}
IfOpen (Open v) P = P v
