-- Boards that are the replay of their journal.
use Rattle.std.proofs.Common.{ℕ, ◌≡◌, ◌++◌, ◌||◌, true, false, List, [], ◌∷◌, Some, length, refl, sym, ap, ◌∙◌, nat_lt}
use Rattle.std.proofs.lemmas.List.Sums.{fold_push}
use Rattle.objective.specs.declared.Answer.{Answer}
use Rattle.ils_face.specs.declared.asks.Reply.{Reply}
use Rattle.ils_face.specs.Rules.{Rules}
use Rattle.ils_face.specs.Views.{View}
use Rattle.objective.specs.declared.Micros.{Micros}
use Rattle.capping.specs.declared.verdicts.Verdict.TheVariants as verdict
use Rattle.board_steps.specs.declared.answers.BoardVerdict.TheVariants as board_verdict
use Rattle.board_steps.specs.declared.answers.Taken.TheVariants as taken
use Rattle.board_steps.specs.declared.events.Event.{Event}
use Rattle.board_steps.specs.declared.events.Event.TheVariants as event
use Rattle.board_steps.specs.declared.tickets.LiveTicket.{LiveTicket}
use Rattle.board_steps.specs.declared.tickets.Ticket.{Ticket}
use Rattle.board_steps.specs.Boards.{PlainBoard, opening}
use Rattle.board_steps.specs.Ledgers.{take_event}
use Rattle.board_steps.specs.BoardVerdicts.{board_verdict_of}
use Rattle.board_steps.specs.Problem.{Problem}
use Rattle.board_steps.specs.Replays.{after_event, replay}
use Rattle.board_steps.specs.Steps.{with_ticket, with_answer, with_loss, with_kill, with_reply, with_wishes, with_abort, after_advance, advanced_by, taken_on, after_take, stopped_board, after_stop, resumed_board, after_resume}
use Rattle.board_steps.specs.Tickets.{live_at}

module _ (shown : Rules → List Reply → View) where
  -- the board is the replay of its journal
  abbrev pub IsReplayed : PlainBoard → Type 0
  IsReplayed b = b ≡ replay shown b.problem b.journal

  -- the opening board
  pub opening-replayed : (problem : Problem) → IsReplayed (opening problem)
  unfolding replay
  opening-replayed problem = refl

  -- a board after one more event
  pub replayed-next : (b after : PlainBoard) (e : Event) → IsReplayed b → after_event shown b e ≡ after
      → after.problem ≡ b.problem → after.journal ≡ b.journal ++ e ∷ [] → IsReplayed after
  unfolding replay
  replayed-next b after e before step problem journal =
      let made : replay shown b.problem (b.journal ++ e ∷ []) ≡ after = fold_push (after_event shown) (opening b.problem) b.journal e ∙ ap (λ x. after_event shown x e) (sym before) ∙ step in
      sym (ap (λ p. replay shown p after.journal) problem ∙ ap (λ j. replay shown b.problem j) journal ∙ made)

  -- the search was answered
  pub replayed-reply : (b : PlainBoard) (r : Reply) → board_verdict_of shown b ≡ board_verdict.Open (verdict.Reply r) → IsReplayed b → IsReplayed (with_reply shown b r)
  unfolding with_reply after_advance after_event
  replayed-reply b r stands before = replayed-next b (with_reply shown b r) event.Advance before (rw stands refl) refl refl

  -- the walk of the present ask came to an abort
  pub replayed-abort : (b : PlainBoard) (place : ℕ) → board_verdict_of shown b ≡ board_verdict.Open (verdict.Aborted place) → IsReplayed b → IsReplayed (with_abort shown b place)
  unfolding with_abort after_advance after_event
  replayed-abort b place stands before = replayed-next b (with_abort shown b place) event.Advance before (rw stands refl) refl refl

  -- a ticket was taken
  pub replayed-take : (b : PlainBoard) (t : Ticket) → taken_on shown b ≡ taken.Ticket t → IsReplayed b → IsReplayed (with_ticket b t)
  unfolding after_take after_event
  replayed-take b t offered before = replayed-next b (with_ticket b t) (take_event t) before (rw offered refl) refl refl

  -- an answer was learnt
  pub replayed-answer : (b : PlainBoard) (answer : Answer) (l : LiveTicket) → live_at b.live l.ticket.number ≡ Some l → IsReplayed b → IsReplayed (with_answer b answer l)
  unfolding with_answer after_event
  replayed-answer b answer l live before = replayed-next b (with_answer b answer l) (event.Record l.ticket.number answer) before (rw live refl) refl refl

  -- a run couldn't be made
  pub replayed-loss : (b : PlainBoard) (l : LiveTicket) → live_at b.live l.ticket.number ≡ Some l → IsReplayed b → IsReplayed (with_loss b l)
  unfolding with_loss after_event
  replayed-loss b l live before = replayed-next b (with_loss b l) (event.Lost l.ticket.number) before (rw live refl) refl refl

  -- a run was given up
  pub replayed-kill : (b : PlainBoard) (l : LiveTicket) → live_at b.live l.ticket.number ≡ Some l → IsReplayed b → IsReplayed (with_kill b l)
  unfolding with_kill after_event
  replayed-kill b l live before = replayed-next b (with_kill b l) (event.Killed l.ticket.number) before (rw live refl) refl refl

  -- there are other wishes
  pub replayed-wishes : (b after : PlainBoard) (place : ℕ) (cutoff : Micros) → board_verdict_of shown b ≡ board_verdict.Open (verdict.Need place cutoff)
      → with_wishes shown b ≡ after → after.problem ≡ b.problem → after.journal ≡ b.journal ++ event.Advance ∷ [] → IsReplayed b → IsReplayed after
  unfolding after_advance after_event
  replayed-wishes b after place cutoff stands other problem journal before =
      replayed-next b after event.Advance before (ap (advanced_by shown b) stands ∙ other) problem journal

  -- a board is stopped
  pub replayed-stop : (b : PlainBoard) → b.stopped ≡ false → IsReplayed b → IsReplayed (stopped_board b)
  unfolding after_stop after_event
  replayed-stop b running before = replayed-next b (stopped_board b) event.Stop before (rw running refl) refl refl

  -- a board goes on
  pub replayed-resume : (b : PlainBoard) → (b.stopped || nat_lt 0 (length b.live)) ≡ true → IsReplayed b → IsReplayed (resumed_board b)
  unfolding after_resume after_event
  replayed-resume b halted before = replayed-next b (resumed_board b) event.Resume before (rw halted refl) refl refl
