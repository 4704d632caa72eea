-- An open board: the verdict on its present ask, and the runs that this may need.
use Rattle.std.specs.Prelude.{ℕ, ◌≡◌, List}
use Rattle.ils_face.specs.declared.asks.Ask.{Ask}
use Rattle.ils_face.specs.declared.asks.Reply.{Reply}
use Rattle.ils_face.specs.Rules.{Rules}
use Rattle.ils_face.specs.Views.{View}
use Rattle.capping.specs.declared.verdicts.Verdict.{Verdict}
use Rattle.board_steps.specs.declared.answers.BoardVerdict.TheVariants.{Open}
use Rattle.board_steps.specs.Boards.{BoardState, plain_board}
use Rattle.board_steps.specs.BoardVerdicts.{config_of, asked_cell, board_verdict_of}
use Rattle.board_steps.specs.Numbering.{IsRunnable}

-- the run of an ask at a place may be made under a cutoff
abbrev pub IsRunnableFor : Rules → Ask → ℕ → ℕ → Type 0
IsRunnableFor rules ask place cutoff = IsRunnable rules (record { config = config_of ask; place = place }) cutoff

module _ (shown : Rules → List Reply → View) where
  -- the board is open, and this is the verdict on its present ask
  abbrev pub StandsAt : BoardState → Verdict → Type 0
  StandsAt b v = board_verdict_of shown (plain_board b) ≡ Open v

  -- the run of the present ask at a place may be made under a cutoff
  abbrev pub IsRunnableAt : BoardState → ℕ → ℕ → Type 0
  IsRunnableAt b place cutoff = IsRunnable b.problem.rules (asked_cell shown (plain_board b) place) cutoff
