-- When the run of a live ticket is no longer wanted.
use Rattle.std.specs.Prelude.{ℕ, ◌&&◌, not, Bool, true, false, List, nat_lt, if◌then◌else◌}
use Rattle.std.specs.List.{list_any}
use Rattle.ils_face.specs.declared.asks.Reply.{Reply}
use Rattle.ils_face.specs.Rules.{Rules}
use Rattle.ils_face.specs.Views.{View}
use Rattle.run_cache.specs.declared.cell.Cell.{Cell}
use Rattle.capping.specs.declared.verdicts.Verdict.TheVariants as verdict
use Rattle.predictor.specs.declared.wish.Wish.{Wish}
use Rattle.board_steps.specs.declared.answers.BoardVerdict.{BoardVerdict}
use Rattle.board_steps.specs.declared.answers.BoardVerdict.TheVariants as board_verdict
use Rattle.board_steps.specs.declared.tickets.LiveTicket.{LiveTicket}
use Rattle.board_steps.specs.Boards.{PlainBoard}
use Rattle.board_steps.specs.BoardVerdicts.{asked_cell, board_verdict_of}
use Rattle.board_steps.specs.Tickets.{same_cell, is_ahead}

-- the cell is wished for
abbrev pub is_wished : List Wish → Cell → Bool
is_wished wishes cell = list_any (λ w. same_cell cell w.cell) wishes

-- a run that is needed
pub record NeededRun : Type 0 where
  pub cell : Cell
  pub cutoff : ℕ

-- the run of a live ticket isn't wanted beside a needed one
unfoldable pub is_unwanted_beside : List Wish → NeededRun → LiveTicket → Bool
is_unwanted_beside wishes needed l = is_ahead l.ticket.kind
    && (if same_cell needed.cell l.ticket.cell then nat_lt needed.cutoff l.ticket.run.cutoff.0 else not (is_wished wishes l.ticket.cell))

-- all runs are unwanted
abbrev pub all_unwanted : LiveTicket → Bool
all_unwanted l = true

module _ (shown : Rules → List Reply → View) where
  -- the run of the present ask at a place, which is needed under a cutoff
  abbrev pub needed_run : PlainBoard → ℕ → ℕ → NeededRun
  needed_run b place cutoff = record { cell = asked_cell shown b place; cutoff = cutoff }

  -- the run of a live ticket isn't wanted, by where the board stands
  abbrev pub is_unwanted_by : PlainBoard → BoardVerdict → LiveTicket → Bool
  is_unwanted_by b board_verdict.Stopped l = true
  is_unwanted_by b board_verdict.Aborted l = true
  is_unwanted_by b (board_verdict.Open (verdict.Reply r)) l = false
  is_unwanted_by b (board_verdict.Open (verdict.Need place cutoff)) l = is_unwanted_beside b.wishes (needed_run b place cutoff.0) l
  is_unwanted_by b (board_verdict.Open (verdict.Aborted place)) l = false
  is_unwanted_by b (board_verdict.Open verdict.Ended) l = true

  -- the run of a live ticket isn't wanted
  unfoldable pub is_unwanted : PlainBoard → LiveTicket → Bool
  is_unwanted b l = is_unwanted_by b (board_verdict_of shown b) l
