-- What a board knows lies in its range, after each of its steps.
use Rattle.std.proofs.Common.{ℕ, ◌≡◌, ◌++◌, Bool, true, false, List, [], ◌∷◌, Some, if◌then◌else◌}
use Rattle.std.specs.Cmp.Lexicographic.{pointwise}
use Rattle.objective.specs.Costs.{IsWithin}
use Rattle.objective.specs.declared.Answer.{Answer}
use Rattle.ils_face.specs.declared.asks.Reply.{Reply}
use Rattle.ils_face.specs.Rules.{Rules}
use Rattle.ils_face.specs.Views.{View}
use Rattle.run_cache.specs.Caches.{is_at}
use Rattle.run_cache.specs.Knowledge.{IsInRange}
use Rattle.run_cache.proofs.Ranges.{lesson_ranged}
use Rattle.board_steps.specs.declared.events.Event.TheVariants.{Advance}
use Rattle.board_steps.specs.declared.tickets.LiveTicket.{LiveTicket}
use Rattle.board_steps.specs.declared.tickets.Ticket.{Ticket}
use Rattle.board_steps.specs.Boards.{PlainBoard, opening}
use Rattle.board_steps.specs.Numbering.{IsTicket, AreNumbered, tickets_of}
use Rattle.board_steps.specs.BoardVerdicts.{wishes_on}
use Rattle.board_steps.specs.Problem.{Problem}
use Rattle.board_steps.specs.RangedBoards.{IsRanged}
use Rattle.board_steps.specs.Steps.{with_ticket, known_from, with_answer, with_loss, with_kill, with_reply, with_wishes, with_abort, same_wish, marked_board, stopped_board, resumed_board}
use Rattle.board_steps.specs.Tickets.{live_at}
use Rattle.board_steps.proofs.JournalRuns.{of-live}

pub ranged-opening : (problem : Problem) → IsRanged (opening problem)
ranged-opening problem = record { known = λ config place. tt }

pub ranged-ticket : (b : PlainBoard) (t : Ticket) → IsRanged b → IsRanged (with_ticket b t)
ranged-ticket b t r = record { known = r.known }

-- the answer lies within the cutoff of the ticket's run
pub ranged-answer : (b : PlainBoard) (shown : Answer) (l : LiveTicket) → live_at b.live l.ticket.number ≡ Some l → IsWithin shown l.ticket.run.cutoff.0
    → AreNumbered b.problem (tickets_of b.live) b.next b.journal → IsRanged b → IsRanged (with_answer b shown l)
unfolding with_answer known_from
ranged-answer b shown l found within n r = record { known = λ config place. by config place (is_at l.ticket.cell config place) }
  where
    learnt : IsInRange b.problem.rules.limits (known_from b shown l)
    learnt =
        let cell = l.ticket.cell in
        let ticket : IsTicket b.problem b.next l.ticket = of-live (IsTicket b.problem b.next) b.live l found n.each in
        lesson_ranged b.problem.rules.limits (b.known cell.config cell.place) l.ticket.run.cutoff.0 shown ticket.runnable.in_range within (r.known cell.config cell.place)

    by : (config : List ℕ) (place : ℕ) (here : Bool) → IsInRange b.problem.rules.limits (if here then known_from b shown l else b.known config place)
    by config place true = learnt
    by config place false = r.known config place

pub ranged-loss : (b : PlainBoard) (l : LiveTicket) → IsRanged b → IsRanged (with_loss b l)
unfolding with_loss
ranged-loss b l r = record { known = r.known }

pub ranged-kill : (b : PlainBoard) (l : LiveTicket) → IsRanged b → IsRanged (with_kill b l)
unfolding with_kill
ranged-kill b l r = record { known = r.known }

pub ranged-marks : (b : PlainBoard) (p : LiveTicket → Bool) → IsRanged b → IsRanged (marked_board b p)
ranged-marks b p r = record { known = r.known }

pub ranged-stop : (b : PlainBoard) → IsRanged b → IsRanged (stopped_board b)
ranged-stop b r = record { known = r.known }

pub ranged-resume : (b : PlainBoard) → IsRanged b → IsRanged (resumed_board b)
ranged-resume b r = record { known = r.known }

module _ (shown : Rules → List Reply → View) where
  pub ranged-reply : (b : PlainBoard) (r : Reply) → IsRanged b → IsRanged (with_reply shown b r)
  unfolding with_reply
  ranged-reply b r is = record { known = is.known }

  pub ranged-abort : (b : PlainBoard) (place : ℕ) → IsRanged b → IsRanged (with_abort shown b place)
  unfolding with_abort
  ranged-abort b place r = record { known = r.known }

  pub ranged-wishes : (b : PlainBoard) → IsRanged b → IsRanged (with_wishes shown b)
  unfolding with_wishes
  ranged-wishes b r = at (pointwise same_wish b.wishes (wishes_on shown b))
    where
      at : (same : Bool) → IsRanged (if same then b else record b { wishes = wishes_on shown b; journal = b.journal ++ Advance ∷ [] })
      at true = r
      at false = record { known = r.known }
