-- The replies of a board are those of the procedure, where each abort counts as unsolved.
use Rattle.std.proofs.Common.{ℕ, ◌≡◌, ◌++◌, Bool, true, false, List, [], ◌∷◌, Option, Some, None, length, refl, subst, arith, if◌then◌else◌}
use Rattle.std.specs.Prelude.{IsSomeAnd, slice_get}
use Rattle.std.specs.Cmp.Lexicographic.{pointwise}
use Rattle.objective.specs.Bounds.{Bounds}
use Rattle.objective.specs.Costs.{Table}
use Rattle.objective.specs.declared.Answer.{Answer}
use Rattle.objective.specs.declared.Outcome.{Outcome}
use Rattle.wrapper_lines.specs.declared.runs.Key.{Key}
use Rattle.uncapped.specs.Totals.{total_cost, quiet}
use Rattle.uncapped.specs.Uncapped.{Run}
use Rattle.ils_face.specs.declared.asks.Ask.{Ask}
use Rattle.ils_face.specs.declared.asks.Ask.TheVariants.{Full, Versus, End}
use Rattle.ils_face.specs.declared.asks.Reply.{Reply}
use Rattle.ils_face.specs.Follows.{Follows, sums_under}
use Rattle.ils_face.specs.Rules.{Rules, AreRules}
use Rattle.ils_face.specs.Traces.{question_of, IsReplyBy}
use Rattle.ils_face.specs.Views.{View}
use Rattle.ils_face.proofs.Traces.{asked_next, traced_first, traced_on}
use Rattle.run_cache.specs.Caches.{Knowledge}
use Rattle.run_cache.specs.Knowledge.{Agrees}
use Rattle.capping.specs.declared.verdicts.Verdict.{Verdict}
use Rattle.capping.specs.declared.verdicts.Verdict.TheVariants as verdict
use Rattle.capping.specs.Verdicts.{verdict_from, verdict_of}
use Rattle.capping.proofs.RepliedCosts.{replied}
use Rattle.capping.proofs.WalkEnds.{IsEnd, walk_end}
use Rattle.board_steps.specs.declared.answers.BoardVerdict.TheVariants as board_verdict
use Rattle.board_steps.specs.declared.events.Event.TheVariants as event
use Rattle.board_steps.specs.declared.tickets.LiveTicket.{LiveTicket}
use Rattle.board_steps.specs.declared.tickets.Ticket.{Ticket}
use Rattle.board_steps.specs.Boards.{PlainBoard, opening}
use Rattle.board_steps.specs.BoardVerdicts.{ask_on, verdict_on, board_verdict_of, wishes_on}
use Rattle.board_steps.specs.Problem.{Problem}
use Rattle.board_steps.specs.ProblemRuns.{table_of}
use Rattle.board_steps.specs.Steps.{with_ticket, with_answer, with_loss, with_kill, with_reply, with_wishes, with_abort, same_wish, marked_board, stopped_board, resumed_board}
use Rattle.board_steps.specs.AgreeingBoards.{IsAgreeing}
use Rattle.board_steps.specs.RepliedAsks.{quiet_sums, quiet_by, AreReplied}
use Rattle.board_steps.proofs.GivenTickets.{verdict-open}

-- ---- what a verdict replies

-- how the walk of a question ends that comes to a verdict
pub ended-walk : (limits : Bounds) (known : Knowledge) (θ : List ℕ) (bound : Option ℕ) (n : ℕ) (v : Verdict) → verdict_from limits (known θ) bound n 1 0 ≡ v
    → IsEnd limits (known θ) bound n v
ended-walk limits known θ bound n v is = subst (IsEnd limits (known θ) bound n) is (walk_end limits (known θ) bound n n 0 0 (omega arith) refl)

module _ (limits : Bounds) (known : Knowledge) (T : Table) (agrees : (config : List ℕ) (place : ℕ) → Agrees limits (known config place) (T config place)) where
  -- a reply is that of the total cost that is asked for
  pub replied-ask : (ask : Ask) (r : Reply) → verdict_of limits known ask ≡ verdict.Reply r
      → IsSomeAnd (question_of ask) (IsReplyBy (total_cost limits (quiet T)) r)
  replied-ask (Full θ n) r is = replied limits T θ (known θ) (agrees θ) n None r (ended-walk limits known θ None n (verdict.Reply r) is)
  replied-ask (Versus θ n bound) r is = replied limits T θ (known θ) (agrees θ) n (Some bound.0) r (ended-walk limits known θ (Some bound.0) n (verdict.Reply r) is)
  replied-ask End r is = absurd (cc)

module _ (procedure : Rules → Table → Run) (truth : Option (Key → Outcome)) where
  -- ---- each step

  pub replied-opening : (problem : Problem) → AreReplied procedure truth (opening problem)
  replied-opening problem = record { traced = traced_first (quiet_sums truth problem) (quiet_by procedure truth problem) }

  pub replied-ticket : (b : PlainBoard) (t : Ticket) → AreReplied procedure truth b → AreReplied procedure truth (with_ticket b t)
  replied-ticket b t a = record { traced = a.traced }

  pub replied-answer : (b : PlainBoard) (answer : Answer) (l : LiveTicket) → AreReplied procedure truth b → AreReplied procedure truth (with_answer b answer l)
  unfolding with_answer
  replied-answer b answer l a = record { traced = a.traced }

  pub replied-loss : (b : PlainBoard) (l : LiveTicket) → AreReplied procedure truth b → AreReplied procedure truth (with_loss b l)
  unfolding with_loss
  replied-loss b l a = record { traced = a.traced }

  pub replied-kill : (b : PlainBoard) (l : LiveTicket) → AreReplied procedure truth b → AreReplied procedure truth (with_kill b l)
  unfolding with_kill
  replied-kill b l a = record { traced = a.traced }

  pub replied-marks : (b : PlainBoard) (p : LiveTicket → Bool) → AreReplied procedure truth b → AreReplied procedure truth (marked_board b p)
  replied-marks b p a = record { traced = a.traced }

  pub replied-stop : (b : PlainBoard) → AreReplied procedure truth b → AreReplied procedure truth (stopped_board b)
  replied-stop b a = record { traced = a.traced }

  pub replied-resume : (b : PlainBoard) → AreReplied procedure truth b → AreReplied procedure truth (resumed_board b)
  replied-resume b a = record { traced = a.traced }

  module _ (shown : Rules → List Reply → View) where
    pub replied-abort : (b : PlainBoard) (place : ℕ) → AreReplied procedure truth b → AreReplied procedure truth (with_abort shown b place)
    unfolding with_abort
    replied-abort b place a = record { traced = a.traced }

    pub replied-wishes : (b : PlainBoard) → AreReplied procedure truth b → AreReplied procedure truth (with_wishes shown b)
    unfolding with_wishes
    replied-wishes b a = at (pointwise same_wish b.wishes (wishes_on shown b))
      where
        at : (same : Bool) → AreReplied procedure truth (if same then b else record b { wishes = wishes_on shown b; journal = b.journal ++ event.Advance ∷ [] })
        at true = a
        at false = record { traced = a.traced }

    module _ (follows : (rules : Rules) (T : Table) → AreRules rules → Follows (shown rules) (sums_under rules T) (procedure rules T)) where
      -- the procedure over the truth, where each abort counts as unsolved, is followed
      pub quiet-follows : (problem : Problem) → AreRules problem.rules → Follows (shown problem.rules) (quiet_sums truth problem) (quiet_by procedure truth problem)
      quiet-follows problem ruled = follows problem.rules (quiet (table_of truth problem)) ruled

      -- the present ask is the procedure's next one
      pub present-ask : (b : PlainBoard) → AreRules b.problem.rules → AreReplied procedure truth b
          → question_of (ask_on shown b) ≡ slice_get (quiet_by procedure truth b.problem).asks (length b.replies)
      present-ask b ruled a =
          asked_next (shown b.problem.rules) (quiet_sums truth b.problem) (quiet_by procedure truth b.problem) b.replies (quiet-follows b.problem ruled) a.traced

      -- the search is answered as what is known makes of its ask
      pub replied-reply : (b : PlainBoard) (r : Reply) → board_verdict_of shown b ≡ board_verdict.Open (verdict.Reply r) → AreRules b.problem.rules
          → IsAgreeing truth b → AreReplied procedure truth b → AreReplied procedure truth (with_reply shown b r)
      unfolding with_reply verdict_on
      replied-reply b r stands ruled agreeing a =
          let is : verdict_of b.problem.rules.limits b.known (ask_on shown b) ≡ verdict.Reply r = verdict-open shown b (verdict.Reply r) stands in
          let by = replied-ask b.problem.rules.limits b.known (table_of truth b.problem) agreeing.known (ask_on shown b) r is in
          record { traced = traced_on (shown b.problem.rules) (quiet_sums truth b.problem) (quiet_by procedure truth b.problem) b.replies r (quiet-follows b.problem ruled) a.traced by }
