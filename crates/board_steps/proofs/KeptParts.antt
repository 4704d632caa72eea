-- What each change keeps of the parts of a board's invariant that are over the plain board.
use Rattle.std.proofs.Common.{ℕ, ◌≡◌, List, Option, Some, IsSome, Bool}
use Rattle.objective.specs.Costs.{Table, IsWithin}
use Rattle.objective.specs.declared.Answer.{Answer}
use Rattle.objective.specs.declared.Micros.{Micros}
use Rattle.objective.specs.declared.Outcome.{Outcome}
use Rattle.wrapper_lines.specs.declared.runs.Key.{Key}
use Rattle.uncapped.specs.Uncapped.{Run}
use Rattle.ils_face.specs.declared.asks.Reply.{Reply}
use Rattle.ils_face.specs.Follows.{Follows, sums_under}
use Rattle.ils_face.specs.Rules.{Rules, AreRules}
use Rattle.ils_face.specs.Views.{View}
use Rattle.capping.specs.declared.verdicts.Verdict.TheVariants as verdict
use Rattle.board_steps.specs.declared.answers.BoardVerdict.TheVariants as board_verdict
use Rattle.board_steps.specs.declared.answers.Taken.TheVariants as taken
use Rattle.board_steps.specs.declared.tickets.LiveTicket.{LiveTicket}
use Rattle.board_steps.specs.declared.tickets.Ticket.{Ticket}
use Rattle.board_steps.specs.BoardAborts.{IsAborting}
use Rattle.board_steps.specs.AskedTickets.{AreAsked}
use Rattle.board_steps.specs.Boards.{PlainBoard, opening}
use Rattle.board_steps.specs.JournalRuns.{AreTaken}
use Rattle.board_steps.specs.Numbering.{AreNumbered, tickets_of}
use Rattle.board_steps.specs.BoardVerdicts.{board_verdict_of}
use Rattle.board_steps.specs.Problem.{Problem}
use Rattle.board_steps.specs.RangedBoards.{IsRanged}
use Rattle.board_steps.specs.RecordedRuns.{AreRising}
use Rattle.board_steps.specs.Steps.{taken_on, with_ticket, with_answer, with_loss, with_kill, with_reply, with_wishes, with_abort, marked_board, stopped_board, resumed_board}
use Rattle.board_steps.specs.SummedReplies.{AreSummed}
use Rattle.board_steps.specs.Tickets.{live_at}
use Rattle.board_steps.proofs.AbortedBoards.{aborting-opening, aborting-reply, aborting-wishes, aborting-abort, aborting-ticket, aborting-answer, aborting-loss, aborting-kill, aborting-marks, aborting-stop, aborting-resume}
use Rattle.board_steps.specs.AgreeingBoards.{IsTold}
use Rattle.board_steps.proofs.AgreeingBoards.{told-answer}
use Rattle.board_steps.proofs.AskedTickets.{asked-opening, asked-reply, asked-wishes, asked-abort, asked-ticket, asked-answer, asked-loss, asked-kill, asked-marks, asked-stop, asked-resume}
use Rattle.board_steps.proofs.JournalRuns.{taken-opening, taken-reply, taken-wishes, taken-abort, taken-ticket, taken-answer, taken-loss, taken-kill, taken-marks, taken-stop, taken-resume}
use Rattle.board_steps.proofs.RangedBoards.{ranged-opening, ranged-reply, ranged-wishes, ranged-abort, ranged-ticket, ranged-answer, ranged-loss, ranged-kill, ranged-marks, ranged-stop, ranged-resume}
use Rattle.board_steps.proofs.Replayed.{IsReplayed}
use Rattle.board_steps.proofs.RisingBoards.{rising-opening, rising-reply, rising-wishes, rising-abort, rising-ticket, rising-answer, rising-loss, rising-kill, rising-marks, rising-stop, rising-resume}
use Rattle.board_steps.proofs.SummedReplies.{sums-opening, sums-reply, sums-wishes, sums-abort, sums-ticket, sums-answer, sums-loss, sums-kill, sums-marks, sums-stop, sums-resume}
use Rattle.board_steps.proofs.TruthfulBoards.{IsTruthful, truthful-opening, truthful-reply, truthful-wishes, truthful-abort, truthful-ticket, truthful-answer, truthful-loss, truthful-kill, truthful-marks, truthful-stop, truthful-resume}

module _ (shown : Rules → List Reply → View) (procedure : Rules → Table → Run) (truth : Option (Key → Outcome)) where
  -- the parts of a board's invariant that are over the plain board
  pub record HasParts (b : PlainBoard) : Type 0 where
    pub ranged : IsRanged b
    pub taken : AreTaken b
    pub asked : AreAsked shown b
    pub aborting : IsAborting shown b
    pub rising : AreRising b
    pub sums : AreSummed shown b
    pub truthful : IsSome truth → IsTruthful procedure truth b

  -- the opening board
  pub parts-opening : (problem : Problem) → HasParts (opening problem)
  parts-opening problem = record {
    ranged = ranged-opening problem;
    taken = taken-opening problem;
    asked = asked-opening shown problem;
    aborting = aborting-opening shown problem;
    rising = rising-opening problem;
    sums = sums-opening shown problem;
    truthful = λ told. truthful-opening procedure truth problem;
  }

  -- the search is answered
  pub parts-reply : ((rules : Rules) (T : Table) → AreRules rules → Follows (shown rules) (sums_under rules T) (procedure rules T))
      → (b : PlainBoard) (r : Reply) → board_verdict_of shown b ≡ board_verdict.Open (verdict.Reply r) → AreRules b.problem.rules
      → HasParts b → HasParts (with_reply shown b r)
  parts-reply follows b r stands ruled has = record {
    ranged = ranged-reply shown b r has.ranged;
    taken = taken-reply shown b r has.taken;
    asked = asked-reply shown b r stands has.asked;
    aborting = aborting-reply shown b r stands;
    rising = rising-reply shown b r has.rising;
    sums = sums-reply shown b r stands has.sums;
    truthful = λ told. truthful-reply procedure truth shown follows b r stands ruled (has.truthful told);
  }

  -- there may be other wishes
  pub parts-wishes : (b : PlainBoard) (place : ℕ) (cutoff : Micros) → board_verdict_of shown b ≡ board_verdict.Open (verdict.Need place cutoff)
      → HasParts b → HasParts (with_wishes shown b)
  parts-wishes b place cutoff stands has = record {
    ranged = ranged-wishes shown b has.ranged;
    taken = taken-wishes shown b has.taken;
    asked = asked-wishes shown b has.asked;
    aborting = aborting-wishes shown b place cutoff stands;
    rising = rising-wishes shown b has.rising;
    sums = sums-wishes shown b has.sums;
    truthful = λ told. truthful-wishes procedure truth shown b (has.truthful told);
  }

  -- the walk of the present ask came to an abort
  pub parts-abort : (b : PlainBoard) (place : ℕ) → board_verdict_of shown b ≡ board_verdict.Open (verdict.Aborted place) → IsReplayed shown b
      → HasParts b → HasParts (with_abort shown b place)
  parts-abort b place stands replayed has = record {
    ranged = ranged-abort shown b place has.ranged;
    taken = taken-abort shown b place has.taken;
    asked = asked-abort shown b place has.asked;
    aborting = aborting-abort shown b place stands replayed;
    rising = rising-abort shown b place has.rising;
    sums = sums-abort shown b place has.sums;
    truthful = λ told. truthful-abort procedure truth shown b place (has.truthful told);
  }

  -- a ticket is taken
  pub parts-ticket : ((rules : Rules) (T : Table) → AreRules rules → Follows (shown rules) (sums_under rules T) (procedure rules T))
      → (b : PlainBoard) (t : Ticket) → taken_on shown b ≡ taken.Ticket t → t.number ≡ b.next → AreRules b.problem.rules
      → AreNumbered b.problem (tickets_of b.live) b.next b.journal
      → HasParts b → HasParts (with_ticket b t)
  parts-ticket follows b t offered number ruled numbers has = record {
    ranged = ranged-ticket b t has.ranged;
    taken = taken-ticket b t number numbers has.taken;
    asked = asked-ticket shown b t offered has.asked;
    aborting = aborting-ticket shown b t has.aborting;
    rising = rising-ticket shown b t offered (λ q. record { bounds = ruled.limits; places = has.ranged.known q.config }) has.rising;
    sums = sums-ticket shown b t has.sums;
    truthful = λ told. truthful-ticket procedure truth shown follows b t offered ruled (has.truthful told);
  }

  -- the answer of a live ticket is learnt
  pub parts-answer : (b : PlainBoard) (answer : Answer) (l : LiveTicket) → live_at b.live l.ticket.number ≡ Some l → IsWithin answer l.ticket.run.cutoff.0 → IsTold truth l.ticket answer
      → AreNumbered b.problem (tickets_of b.live) b.next b.journal → HasParts b → HasParts (with_answer b answer l)
  parts-answer b answer l found within told_of numbers has = record {
    ranged = ranged-answer b answer l found within numbers has.ranged;
    taken = taken-answer b answer l has.taken;
    asked = asked-answer shown b answer l found numbers.cells has.asked;
    aborting = aborting-answer shown b answer l has.aborting;
    rising = rising-answer b answer l found numbers has.taken has.rising;
    sums = sums-answer shown b answer l has.sums;
    truthful = λ told. truthful-answer procedure truth b answer l found (told-answer truth l.ticket.run.key l.ticket.run.cutoff.0 answer told told_of) numbers has.taken (has.truthful told);
  }

  -- the run of a live ticket can't be made
  pub parts-loss : (b : PlainBoard) (l : LiveTicket) → HasParts b → HasParts (with_loss b l)
  parts-loss b l has = record {
    ranged = ranged-loss b l has.ranged;
    taken = taken-loss b l has.taken;
    asked = asked-loss shown b l has.asked;
    aborting = aborting-loss shown b l has.aborting;
    rising = rising-loss b l has.rising;
    sums = sums-loss shown b l has.sums;
    truthful = λ told. truthful-loss procedure truth b l (has.truthful told);
  }

  -- the run of a live ticket is given up
  pub parts-kill : (b : PlainBoard) (l : LiveTicket) → HasParts b → HasParts (with_kill b l)
  parts-kill b l has = record {
    ranged = ranged-kill b l has.ranged;
    taken = taken-kill b l has.taken;
    asked = asked-kill shown b l has.asked;
    aborting = aborting-kill shown b l has.aborting;
    rising = rising-kill b l has.rising;
    sums = sums-kill shown b l has.sums;
    truthful = λ told. truthful-kill procedure truth b l (has.truthful told);
  }

  -- live tickets are marked
  pub parts-marks : (b : PlainBoard) (p : LiveTicket → Bool) → HasParts b → HasParts (marked_board b p)
  parts-marks b p has = record {
    ranged = ranged-marks b p has.ranged;
    taken = taken-marks b p has.taken;
    asked = asked-marks shown b p has.asked;
    aborting = aborting-marks shown b p has.aborting;
    rising = rising-marks b p has.rising;
    sums = sums-marks shown b p has.sums;
    truthful = λ told. truthful-marks procedure truth b p (has.truthful told);
  }

  -- a board is stopped
  pub parts-stop : (b : PlainBoard) → HasParts b → HasParts (stopped_board b)
  parts-stop b has = record {
    ranged = ranged-stop b has.ranged;
    taken = taken-stop b has.taken;
    asked = asked-stop shown b has.asked;
    aborting = aborting-stop shown b has.aborting;
    rising = rising-stop b has.rising;
    sums = sums-stop shown b has.sums;
    truthful = λ told. truthful-stop procedure truth b (has.truthful told);
  }

  -- a board goes on without its live tickets
  pub parts-resume : (b : PlainBoard) → HasParts b → HasParts (resumed_board b)
  parts-resume b has = record {
    ranged = ranged-resume b has.ranged;
    taken = taken-resume b;
    asked = asked-resume shown b;
    aborting = aborting-resume shown b has.aborting;
    rising = rising-resume b has.rising;
    sums = sums-resume shown b has.sums;
    truthful = λ told. truthful-resume procedure truth b (has.truthful told);
  }
