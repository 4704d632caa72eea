-- The live tickets that were asked for: the verdict on the present ask needs their runs.
use Rattle.std.proofs.Common.{ℕ, ◌≡◌, ◌≤◌, ◌++◌, ◌⊎◌, Bool, true, false, List, [], ◌∷◌, Some, All, length, refl, sym, ap, ◌∙◌, inl, inr, subst, if◌then◌else◌}
use Rattle.std.specs.Prelude.{IfSome}
use Rattle.std.specs.Cmp.Lexicographic.{pointwise}
use Rattle.std.specs.List.{count_by}
use Rattle.std.proofs.lemmas.List.Elements.{All-nil, All-push, All-weaker}
use Rattle.objective.specs.declared.Answer.{Answer}
use Rattle.ils_face.specs.declared.asks.Ask.{Ask}
use Rattle.ils_face.specs.declared.asks.Ask.TheVariants.{Full, Versus, End}
use Rattle.ils_face.specs.declared.asks.Reply.{Reply}
use Rattle.ils_face.specs.Rules.{Rules}
use Rattle.ils_face.specs.Traces.{question_of}
use Rattle.ils_face.specs.Views.{View}
use Rattle.run_cache.specs.declared.cell.Cell.{Cell}
use Rattle.run_cache.specs.Caches.{is_at}
use Rattle.capping.specs.declared.verdicts.Verdict.{Verdict}
use Rattle.capping.specs.declared.verdicts.Verdict.TheVariants as verdict
use Rattle.capping.proofs.OtherCells.{need-stays, abort-stays}
use Rattle.board_steps.specs.declared.answers.BoardVerdict.TheVariants as board_verdict
use Rattle.board_steps.specs.declared.answers.Taken.TheVariants as taken
use Rattle.board_steps.specs.declared.events.Event.TheVariants as event
use Rattle.board_steps.specs.declared.tickets.Kind.{Kind}
use Rattle.board_steps.specs.declared.tickets.Kind.TheVariants.{Asked, Ahead}
use Rattle.board_steps.specs.declared.tickets.LiveTicket.{LiveTicket}
use Rattle.board_steps.specs.declared.tickets.Ticket.{Ticket}
use Rattle.board_steps.specs.Boards.{PlainBoard, opening}
use Rattle.board_steps.specs.Numbering.{tickets_of}
use Rattle.board_steps.specs.BoardVerdicts.{config_of, ask_on, verdict_on, asked_cell, board_verdict_of, wishes_on}
use Rattle.board_steps.specs.Problem.{Problem}
use Rattle.board_steps.specs.Steps.{same_wish, ticket_for, taken_on, with_ticket, known_from, with_answer, with_loss, with_kill, with_reply, with_wishes, with_abort, marked_board, stopped_board, resumed_board}
use Rattle.board_steps.specs.Tickets.{same_cell, live_at, without}
use Rattle.board_steps.specs.AskedTickets.{IsRunAt, IsWanted, IfAsked, AreAsked}
use Rattle.board_steps.proofs.GivenTickets.{IsNeededTicket, IsAheadTicket, verdict-open, given}
use Rattle.board_steps.proofs.LiveTickets.{tickets-marked, tickets-marked_if, tickets-push, all-without, others-apart}

-- a cell that isn't at the place of an ask's configuration isn't at that of its question
apart-asked : (ask : Ask) (cell : Cell) (place : ℕ) → is_at cell (config_of ask) place ≡ false
    → IfSome (question_of ask) (λ q. is_at cell q.config place ≡ false)
apart-asked (Full θ n) cell place apart = apart
apart-asked (Versus θ n bound) cell place apart = apart
apart-asked End cell place apart = tt

-- no ticket is both asked for and made ahead
ahead-unasked : (kind : Kind) → kind ≡ Ahead → kind ≡ Asked → ⊥
ahead-unasked kind ahead asked = absurd (let e : Ahead ≡ Asked = sym ahead ∙ asked in cc)

module _ (shown : Rules → List Reply → View) where
  -- ---- changes that leave the present ask and its verdict

  -- tickets that are for the present ask are still for it after a change that leaves it and its verdict
  still : (b after : PlainBoard) (tickets : List Ticket) → after.replies ≡ b.replies → verdict_on shown after ≡ verdict_on shown b
      → ask_on shown after ≡ ask_on shown b → All (IfAsked shown b) tickets → All (IfAsked shown after) tickets
  still b after tickets replies verdicts asks all = All-weaker (IfAsked shown b) (IfAsked shown after) (λ t has kind. record {
    place = (has kind).place ∙ ap length (sym replies);
    wanted = subst (λ v. IsWanted v (config_of (ask_on shown after)) t) (sym verdicts)
        (subst (λ ask. IsWanted (verdict_on shown b) (config_of ask) t) (sym asks) (has kind).wanted);
  }) tickets all

  -- the opening board has no live ticket
  pub asked-opening : (problem : Problem) → AreAsked shown (opening problem)
  asked-opening problem = record { each = All-nil (IfAsked shown (opening problem)) }

  -- there may be other wishes
  pub asked-wishes : (b : PlainBoard) → AreAsked shown b → AreAsked shown (with_wishes shown b)
  unfolding with_wishes verdict_on
  asked-wishes b asked = by (pointwise same_wish b.wishes (wishes_on shown b))
    where
      other : PlainBoard
      other = record b { wishes = wishes_on shown b; journal = b.journal ++ event.Advance ∷ [] }

      by : (same : Bool) → AreAsked shown (if same then b else other)
      by true = asked
      by false = record { each = still b other (tickets_of b.live) refl refl refl asked.each }

  -- the walk of the present ask came to an abort
  pub asked-abort : (b : PlainBoard) (place : ℕ) → AreAsked shown b → AreAsked shown (with_abort shown b place)
  unfolding with_abort verdict_on
  asked-abort b place asked = record { each = still b (with_abort shown b place) (tickets_of b.live) refl refl refl asked.each }

  -- the run of a live ticket can't be made
  pub asked-loss : (b : PlainBoard) (l : LiveTicket) → AreAsked shown b → AreAsked shown (with_loss b l)
  unfolding with_loss verdict_on
  asked-loss b l asked =
      record { each = all-without (IfAsked shown (with_loss b l)) b.live l.ticket.number (still b (with_loss b l) (tickets_of b.live) refl refl refl asked.each) }

  -- the run of a live ticket is given up
  pub asked-kill : (b : PlainBoard) (l : LiveTicket) → AreAsked shown b → AreAsked shown (with_kill b l)
  unfolding with_kill verdict_on
  asked-kill b l asked =
      record { each = all-without (IfAsked shown (with_kill b l)) b.live l.ticket.number (still b (with_kill b l) (tickets_of b.live) refl refl refl asked.each) }

  -- live tickets are marked
  pub asked-marks : (b : PlainBoard) (p : LiveTicket → Bool) → AreAsked shown b → AreAsked shown (marked_board b p)
  unfolding verdict_on
  asked-marks b p asked =
      record { each = rw (tickets-marked_if p b.live) (still b (marked_board b p) (tickets_of b.live) refl refl refl asked.each) }

  -- a board is stopped
  pub asked-stop : (b : PlainBoard) → AreAsked shown b → AreAsked shown (stopped_board b)
  unfolding verdict_on
  asked-stop b asked = record { each = rw (tickets-marked b.live) (still b (stopped_board b) (tickets_of b.live) refl refl refl asked.each) }

  -- a board goes on without its live tickets
  pub asked-resume : (b : PlainBoard) → AreAsked shown (resumed_board b)
  asked-resume b = record { each = All-nil (IfAsked shown (resumed_board b)) }

  -- ---- an answer to the search

  -- where the verdict is a reply, no live ticket was asked for
  pub asked-none : (b : PlainBoard) (r : Reply) → board_verdict_of shown b ≡ board_verdict.Open (verdict.Reply r) → AreAsked shown b
      → All (λ t. t.kind ≡ Asked → ⊥) (tickets_of b.live)
  asked-none b r stands asked = All-weaker (IfAsked shown b) (λ t. t.kind ≡ Asked → ⊥)
      (λ t has kind. subst (λ v. IsWanted v (config_of (ask_on shown b)) t) (verdict-open shown b (verdict.Reply r) stands) (has kind).wanted)
      (tickets_of b.live) asked.each

  -- the search is answered
  pub asked-reply : (b : PlainBoard) (r : Reply) → board_verdict_of shown b ≡ board_verdict.Open (verdict.Reply r) → AreAsked shown b
      → AreAsked shown (with_reply shown b r)
  unfolding with_reply
  asked-reply b r stands asked = record {
    each = All-weaker (λ t. t.kind ≡ Asked → ⊥) (IfAsked shown (with_reply shown b r)) (λ t none kind. absurd (none kind)) (tickets_of b.live) (asked-none b r stands asked);
  }

  -- ---- a further ticket

  -- a ticket that was asked for is for the present ask
  asked-new : (b : PlainBoard) (t : Ticket) → IsNeededTicket shown b t ⊎ IsAheadTicket shown b t → IfAsked shown (with_ticket b t) t
  unfolding verdict_on ticket_for asked_cell
  asked-new b t (inl needed) kind = record {
    place = ap (λ u. u.place) needed.ticket;
    wanted =
        let wanted : IsRunAt (config_of (ask_on shown b)) needed.place needed.cutoff.0 t = record {
          config = ap (λ u. u.cell.config) needed.ticket;
          at = ap (λ u. u.cell.place) needed.ticket;
          under = ap (λ u. u.run.cutoff.0) needed.ticket;
        } in
        subst (λ v. IsWanted v (config_of (ask_on shown b)) t) (sym (verdict-open shown b (verdict.Need needed.place needed.cutoff) needed.stands)) wanted;
  }
  asked-new b t (inr ahead) kind = absurd (ahead-unasked t.kind (ap (λ u. u.kind) ahead.ticket) kind)

  -- a ticket is taken
  pub asked-ticket : (b : PlainBoard) (t : Ticket) → taken_on shown b ≡ taken.Ticket t → AreAsked shown b → AreAsked shown (with_ticket b t)
  unfolding verdict_on
  asked-ticket b t offered asked = record {
    each = rw (tickets-push b.live t) (All-push (IfAsked shown (with_ticket b t)) (tickets_of b.live) t
        (still b (with_ticket b t) (tickets_of b.live) refl refl refl asked.each) (asked-new b t (given shown b t offered)));
  }

  -- ---- an answer of a run

  -- a run that is wanted is wanted still, once the answer of a run of another cell is learnt
  wanted-still : (b : PlainBoard) (answer : Answer) (l : LiveTicket) (t : Ticket) → same_cell l.ticket.cell t.cell ≡ false
      → (v : Verdict) → verdict_on shown b ≡ v → IsWanted v (config_of (ask_on shown b)) t
      → IsWanted (verdict_on shown (with_answer b answer l)) (config_of (ask_on shown b)) t
  unfolding verdict_on with_answer known_from
  wanted-still b answer l t apart (verdict.Reply r) stands wanted = absurd wanted
  wanted-still b answer l t apart (verdict.Need place cutoff) stands wanted =
      let θ = config_of (ask_on shown b) in
      let other : is_at l.ticket.cell θ place ≡ false = (λ i. is_at l.ticket.cell (sym wanted.config i) (sym wanted.at i)) ∙ apart in
      let same = need-stays b.problem.rules.limits b.known l.ticket.cell l.ticket.run.cutoff.0 answer (ask_on shown b) place cutoff
      (apart-asked (ask_on shown b) l.ticket.cell place other) stands in
      subst (λ v. IsWanted v θ t) (sym same) wanted
  wanted-still b answer l t apart (verdict.Aborted place) stands wanted =
      let same = abort-stays b.problem.rules.limits b.known l.ticket.cell l.ticket.run.cutoff.0 answer (ask_on shown b) place stands in
      subst (λ v. IsWanted v (config_of (ask_on shown b)) t) (sym same) wanted
  wanted-still b answer l t apart verdict.Ended stands wanted = absurd wanted

  -- the answer of a live ticket is learnt
  pub asked-answer : (b : PlainBoard) (answer : Answer) (l : LiveTicket) → live_at b.live l.ticket.number ≡ Some l
      → ((cell : Cell) → count_by (λ t. same_cell cell t.cell) (tickets_of b.live) ≤ 1)
      → AreAsked shown b → AreAsked shown (with_answer b answer l)
  unfolding with_answer
  asked-answer b answer l found cells asked = record {
    each = All-weaker (λ t. (same_cell l.ticket.cell t.cell ≡ false) × IfAsked shown b t) (IfAsked shown (with_answer b answer l))
        (λ t has kind. record {
          place = (has.1 kind).place;
          wanted = wanted-still b answer l t has.0 (verdict_on shown b) refl (has.1 kind).wanted;
        }) (tickets_of (without b.live l.ticket.number)) both;
  }
    where
      both : All (λ t. (same_cell l.ticket.cell t.cell ≡ false) × IfAsked shown b t) (tickets_of (without b.live l.ticket.number))
      both k d within = (others-apart b.live l found (cells l.ticket.cell) k d within, all-without (IfAsked shown b) b.live l.ticket.number asked.each k d within)
