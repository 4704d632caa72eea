-- Boards over a told truth: each step keeps what is said of it, and what a board shows then.
use Rattle.std.proofs.Common.{ℕ, ◌≡◌, Bool, List, Option, Some}
use Rattle.objective.specs.Costs.{Table, seen}
use Rattle.objective.specs.declared.Answer.{Answer}
use Rattle.objective.specs.declared.Outcome.{Outcome}
use Rattle.wrapper_lines.specs.declared.runs.Key.{Key}
use Rattle.uncapped.specs.Totals.{quiet}
use Rattle.uncapped.specs.Uncapped.{Run}
use Rattle.ils_face.specs.ProcedureAborts.{MeetsAborts}
use Rattle.ils_face.specs.declared.asks.Reply.{Reply}
use Rattle.ils_face.specs.Follows.{Follows, sums_under}
use Rattle.ils_face.specs.Rules.{Rules, AreRules}
use Rattle.ils_face.specs.Steady.{IsSteady}
use Rattle.ils_face.specs.Views.{View}
use Rattle.run_cache.specs.declared.cell.Cell.{Cell}
use Rattle.capping.specs.declared.verdicts.Verdict.TheVariants as verdict
use Rattle.board_steps.specs.declared.answers.BoardVerdict.TheVariants as board_verdict
use Rattle.board_steps.specs.declared.answers.Taken.TheVariants as taken
use Rattle.board_steps.specs.declared.tickets.LiveTicket.{LiveTicket}
use Rattle.board_steps.specs.declared.tickets.Ticket.{Ticket}
use Rattle.board_steps.specs.BoardAborts.{IsAborting}
use Rattle.board_steps.specs.AgreeingBoards.{IsAgreeing}
use Rattle.board_steps.specs.Boards.{PlainBoard, opening}
use Rattle.board_steps.specs.DueTickets.{AreDueTickets}
use Rattle.board_steps.specs.JournalRuns.{AreTaken}
use Rattle.board_steps.specs.Numbering.{AreNumbered, tickets_of}
use Rattle.board_steps.specs.BoardVerdicts.{board_verdict_of}
use Rattle.board_steps.specs.Problem.{Problem}
use Rattle.board_steps.specs.ProblemRuns.{told_outcome}
use Rattle.board_steps.specs.RepliedAsks.{AreReplied, quiet_by}
use Rattle.board_steps.specs.ShownEntries.{ShowsAborted, true_by}
use Rattle.board_steps.specs.Steps.{taken_on, with_ticket, with_answer, with_loss, with_kill, with_reply, with_wishes, with_abort, marked_board, stopped_board, resumed_board}
use Rattle.board_steps.specs.Tickets.{live_at}
use Rattle.board_steps.proofs.AgreeingBoards.{agreeing-opening, agreeing-ticket, agreeing-answer, agreeing-loss, agreeing-kill, agreeing-marks, agreeing-stop, agreeing-resume, agreeing-reply, agreeing-abort, agreeing-wishes}
use Rattle.board_steps.proofs.DueTickets.{due-opening, due-ticket, due-answer, due-loss, due-kill, due-marks, due-stop, due-resume, due-reply, due-abort, due-wishes}
use Rattle.board_steps.proofs.RepliedAsks.{replied-opening, replied-ticket, replied-answer, replied-loss, replied-kill, replied-marks, replied-stop, replied-resume, replied-reply, replied-abort, replied-wishes}
use Rattle.board_steps.proofs.ShownEntries.{aborted-entries-shown}

-- what is known agrees with the truth, the replies are those of the procedure over it, each abort as unsolved, and the runs
-- that were asked for are due there
pub record IsTruthful (procedure : Rules → Table → Run) (truth : Option (Key → Outcome)) (b : PlainBoard) : Type 0 where
  pub agreeing : IsAgreeing truth b
  pub replied : AreReplied procedure truth b
  pub due : AreDueTickets procedure truth b

module _ (procedure : Rules → Table → Run) (truth : Option (Key → Outcome)) where
  -- ---- each step

  pub truthful-opening : (problem : Problem) → IsTruthful procedure truth (opening problem)
  truthful-opening problem =
      record { agreeing = agreeing-opening truth problem; replied = replied-opening procedure truth problem; due = due-opening procedure truth problem }

  pub truthful-answer : (b : PlainBoard) (answer : Answer) (l : LiveTicket) → live_at b.live l.ticket.number ≡ Some l
      → answer ≡ seen (told_outcome truth l.ticket.run.key) l.ticket.run.cutoff.0
      → AreNumbered b.problem (tickets_of b.live) b.next b.journal → AreTaken b → IsTruthful procedure truth b → IsTruthful procedure truth (with_answer b answer l)
  truthful-answer b answer l found told numbers given h = record {
    agreeing = agreeing-answer truth b answer l found told numbers given h.agreeing;
    replied = replied-answer procedure truth b answer l h.replied;
    due = due-answer procedure truth b answer l h.due;
  }

  pub truthful-loss : (b : PlainBoard) (l : LiveTicket) → IsTruthful procedure truth b → IsTruthful procedure truth (with_loss b l)
  truthful-loss b l h =
      record { agreeing = agreeing-loss truth b l h.agreeing; replied = replied-loss procedure truth b l h.replied; due = due-loss procedure truth b l h.due }

  pub truthful-kill : (b : PlainBoard) (l : LiveTicket) → IsTruthful procedure truth b → IsTruthful procedure truth (with_kill b l)
  truthful-kill b l h =
      record { agreeing = agreeing-kill truth b l h.agreeing; replied = replied-kill procedure truth b l h.replied; due = due-kill procedure truth b l h.due }

  pub truthful-marks : (b : PlainBoard) (p : LiveTicket → Bool) → IsTruthful procedure truth b → IsTruthful procedure truth (marked_board b p)
  truthful-marks b p h =
      record { agreeing = agreeing-marks truth b p h.agreeing; replied = replied-marks procedure truth b p h.replied; due = due-marks procedure truth b p h.due }

  pub truthful-stop : (b : PlainBoard) → IsTruthful procedure truth b → IsTruthful procedure truth (stopped_board b)
  truthful-stop b h =
      record { agreeing = agreeing-stop truth b h.agreeing; replied = replied-stop procedure truth b h.replied; due = due-stop procedure truth b h.due }

  pub truthful-resume : (b : PlainBoard) → IsTruthful procedure truth b → IsTruthful procedure truth (resumed_board b)
  truthful-resume b h =
      record { agreeing = agreeing-resume truth b h.agreeing; replied = replied-resume procedure truth b h.replied; due = due-resume procedure truth b h.due }

  module _ (shown : Rules → List Reply → View) where
    pub truthful-abort : (b : PlainBoard) (place : ℕ) → IsTruthful procedure truth b → IsTruthful procedure truth (with_abort shown b place)
    truthful-abort b place h = record {
      agreeing = agreeing-abort truth shown b place h.agreeing;
      replied = replied-abort procedure truth shown b place h.replied;
      due = due-abort procedure truth shown b place h.due;
    }

    pub truthful-wishes : (b : PlainBoard) → IsTruthful procedure truth b → IsTruthful procedure truth (with_wishes shown b)
    truthful-wishes b h = record {
      agreeing = agreeing-wishes truth shown b h.agreeing;
      replied = replied-wishes procedure truth shown b h.replied;
      due = due-wishes procedure truth shown b h.due;
    }

    module _ (follows : (rules : Rules) (T : Table) → AreRules rules → Follows (shown rules) (sums_under rules T) (procedure rules T)) where
      pub truthful-reply : (b : PlainBoard) (r : Reply) → board_verdict_of shown b ≡ board_verdict.Open (verdict.Reply r) → AreRules b.problem.rules
          → IsTruthful procedure truth b → IsTruthful procedure truth (with_reply shown b r)
      truthful-reply b r stands ruled h = record {
        agreeing = agreeing-reply truth shown b r h.agreeing;
        replied = replied-reply procedure truth shown follows b r stands ruled h.agreeing h.replied;
        due = due-reply procedure truth shown b r h.due;
      }

      pub truthful-ticket : (b : PlainBoard) (t : Ticket) → taken_on shown b ≡ taken.Ticket t → AreRules b.problem.rules
          → IsTruthful procedure truth b → IsTruthful procedure truth (with_ticket b t)
      truthful-ticket b t offered ruled h = record {
        agreeing = agreeing-ticket truth b t h.agreeing;
        replied = replied-ticket procedure truth b t h.replied;
        due = due-ticket procedure truth shown follows b t offered ruled h.agreeing h.replied h.due;
      }

      -- ---- what is shown

      -- where a cell is set as aborted, so is the procedure, and its entries are the first ones that are shown
      pub shown-aborted : (steady : (rules : Rules) → AreRules rules → IsSteady rules (shown rules))
          → (aborts : (rules : Rules) (T : Table) → AreRules rules → MeetsAborts (sums_under rules T) (procedure rules T) (procedure rules (quiet T)))
          → (b : PlainBoard) (cell : Cell) → b.aborted ≡ Some cell → AreRules b.problem.rules → IsAborting shown b → IsTruthful procedure truth b
          → ShowsAborted (shown b.problem.rules b.replies) (true_by procedure truth b.problem) (quiet_by procedure truth b.problem)
      shown-aborted steady aborts b cell is ruled aborting h =
          let at = aborting.at cell is in
          aborted-entries-shown procedure truth shown follows steady aborts b cell at.known at.config at.first at.within ruled h.agreeing h.replied
