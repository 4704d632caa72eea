-- The cell that a board's walk came to and that aborts.
use Rattle.std.specs.Prelude.{◌≡◌, ◌≤◌, ◌++◌, List, ◌∷◌, Some, All, false}
use Rattle.ils_face.specs.declared.asks.Reply.{Reply}
use Rattle.ils_face.specs.Rules.{Rules}
use Rattle.ils_face.specs.Views.{View}
use Rattle.run_cache.specs.declared.cell.Cell.{Cell}
use Rattle.run_cache.specs.declared.known.Known.TheVariants.{Abort}
use Rattle.capping.specs.declared.verdicts.Verdict.TheVariants as verdict
use Rattle.capping.specs.Decisions.{place_count}
use Rattle.board_steps.specs.declared.events.Event.{Event}
use Rattle.board_steps.specs.declared.events.Event.TheVariants.{Advance}
use Rattle.board_steps.specs.Boards.{PlainBoard}
use Rattle.board_steps.specs.Events.{is_advance}
use Rattle.board_steps.specs.BoardVerdicts.{config_of, ask_on, verdict_on, asked_cell}
use Rattle.board_steps.specs.Replays.{replay}

-- the event isn't an advance
abbrev pub IsNoAdvance : Event → Type 0
IsNoAdvance e = is_advance e ≡ false

module _ (shown : Rules → List Reply → View) where
  -- before its last advance the journal makes a board with the same replies, whose verdict is that this cell aborts
  pub record CameTo (b : PlainBoard) (cell : Cell) : Type 0 where
    pub earlier : List Event
    pub later : List Event
    pub parted : b.journal ≡ earlier ++ Advance ∷ later
    pub last : All IsNoAdvance later
    pub replies : (replay shown b.problem earlier).replies ≡ b.replies
    pub aborts : verdict_on shown (replay shown b.problem earlier) ≡ verdict.Aborted cell.place
    pub there : asked_cell shown (replay shown b.problem earlier) cell.place ≡ cell

  -- the cell is known to abort and is one of the present ask, at a place that is asked for; the walk of this ask comes to it,
  -- as it did before the last advance
  pub record IsAbortedAt (b : PlainBoard) (cell : Cell) : Type 0 where
    pub known : b.known cell.config cell.place ≡ Abort
    pub config : cell.config ≡ config_of (ask_on shown b)
    pub first : 1 ≤ cell.place
    pub within : cell.place ≤ place_count (ask_on shown b)
    pub aborts : verdict_on shown b ≡ verdict.Aborted cell.place
    pub came : CameTo b cell

  -- a cell is set as aborted only where the walk of the present ask came to it
  pub record IsAborting (b : PlainBoard) : Type 0 where
    pub at : (cell : Cell) → b.aborted ≡ Some cell → IsAbortedAt b cell
