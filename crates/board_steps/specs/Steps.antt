-- The steps of a board, each with its answer. A step that changes something is an event of the journal.
use Rattle.std.specs.Prelude.{ℕ, suc, ◌==◌, ◌++◌, ◌&&◌, ◌||◌, Bool, true, false, not, List, [], ◌∷◌, Option, Some, None, length, map, nat_lt, if◌then◌else◌}
use Rattle.std.specs.Cmp.Lexicographic.{pointwise}
use Rattle.std.specs.List.{find}
use Rattle.objective.specs.declared.Answer.{Answer}
use Rattle.ils_face.specs.declared.asks.Reply.{Reply}
use Rattle.ils_face.specs.Rules.{Rules}
use Rattle.ils_face.specs.Views.{View}
use Rattle.run_cache.specs.declared.cell.Cell.{Cell}
use Rattle.run_cache.specs.declared.known.Known.{Known}
use Rattle.run_cache.specs.declared.known.Learnt.{Learnt}
use Rattle.run_cache.specs.declared.known.Learnt.TheVariants as learnt
use Rattle.run_cache.specs.Knowledge.{is_settled}
use Rattle.run_cache.specs.Learning.{lesson}
use Rattle.run_cache.specs.Learning
use Rattle.run_cache.specs.Caches.{known_after, conflicts_after}
use Rattle.capping.specs.declared.verdicts.Verdict.TheVariants as verdict
use Rattle.predictor.specs.declared.wish.Wish.{Wish}
use Rattle.board_steps.specs.declared.answers.Advanced.{Advanced}
use Rattle.board_steps.specs.declared.answers.Advanced.TheVariants as advanced
use Rattle.board_steps.specs.declared.answers.BoardVerdict.{BoardVerdict}
use Rattle.board_steps.specs.declared.answers.BoardVerdict.TheVariants as board_verdict
use Rattle.board_steps.specs.declared.answers.Recorded.{Recorded}
use Rattle.board_steps.specs.declared.answers.Recorded.TheVariants as recorded
use Rattle.board_steps.specs.declared.answers.Taken.{Taken}
use Rattle.board_steps.specs.declared.answers.Taken.TheVariants as taken
use Rattle.board_steps.specs.declared.events.Event.TheVariants as event
use Rattle.board_steps.specs.declared.tickets.Kind.{Kind}
use Rattle.board_steps.specs.declared.tickets.Kind.TheVariants.{Asked, Ahead}
use Rattle.board_steps.specs.declared.tickets.LiveTicket.{LiveTicket}
use Rattle.board_steps.specs.declared.tickets.Ticket.{Ticket}
use Rattle.board_steps.specs.Boards.{PlainBoard}
use Rattle.board_steps.specs.Ledgers.{take_event, unmarked, lost_ahead_after}
use Rattle.board_steps.specs.BoardVerdicts.{asked_cell, wishes_on, board_verdict_of}
use Rattle.board_steps.specs.ProblemRuns.{key_of}
use Rattle.board_steps.specs.Tickets.{same_cell, has_number, without, found_in, marked, marked_if, mark_events, has_ticket, has_cell}
use Rattle.board_steps.specs.UnwantedRuns.{is_unwanted}

-- the wishes are the same
abbrev pub same_wish : Wish → Wish → Bool
same_wish one other = same_cell one.cell other.cell && (one.cutoff.0 == other.cutoff.0)

-- a board that gave a ticket
abbrev pub with_ticket : PlainBoard → Ticket → PlainBoard
with_ticket b t = record b {
  live = b.live ++ unmarked t ∷ [];
  next = suc b.next;
  journal = b.journal ++ take_event t ∷ [];
}

-- a board after a take that came to this
abbrev pub with_taken : PlainBoard → Taken → PlainBoard
with_taken b (taken.Ticket t) = with_ticket b t
with_taken b taken.Idle = b
with_taken b taken.Decided = b
with_taken b taken.Ended = b
with_taken b taken.Stopped = b

-- a ticket for a cell under a cutoff
unfoldable pub ticket_for : PlainBoard → Kind → Cell → ℕ → Ticket
ticket_for b kind cell cutoff = record {
  number = b.next;
  cell = cell;
  run = record { key = key_of b.problem cell; cutoff = record { 0 = cutoff } };
  kind = kind;
  place = length b.replies;
}

-- a wish that a seat may run ahead, beside a needed cell
unfoldable pub is_free : PlainBoard → Cell → Wish → Bool
is_free b needed w = not (has_ticket b.live w.cell)
    && not (has_cell b.lost_ahead w.cell)
    && not (same_cell needed w.cell)
    && not (is_settled (b.known w.cell.config w.cell.place) w.cutoff.0)

-- a ticket for a wish, where there is one
abbrev pub taken_ahead : PlainBoard → Option Wish → Taken
taken_ahead b None = taken.Idle
taken_ahead b (Some w) = taken.Ticket (ticket_for b Ahead w.cell w.cutoff.0)

-- where this cell is needed: a ticket for it, or where its run is being made for the first wish that is free
abbrev pub taken_beside : PlainBoard → Cell → ℕ → Taken
taken_beside b needed cutoff = if has_ticket b.live needed then taken_ahead b (find (is_free b needed) b.wishes)
    else taken.Ticket (ticket_for b Asked needed cutoff)

-- what is known of the cell of a live ticket
abbrev pub known_before : PlainBoard → LiveTicket → Known
known_before b l = b.known l.ticket.cell.config l.ticket.cell.place

-- what is known of the cell of a live ticket after its answer
unfoldable pub known_from : PlainBoard → Answer → LiveTicket → Known
known_from b answer l = (lesson b.problem.rules.limits (known_before b l) l.ticket.run.cutoff.0 answer).known

-- the answer of a live ticket contradicts what is known
unfoldable pub is_conflict : PlainBoard → Answer → LiveTicket → Bool
is_conflict b answer l = (lesson b.problem.rules.limits (known_before b l) l.ticket.run.cutoff.0 answer).conflict

-- what is learnt of the answer of a live ticket
unfoldable pub learnt_from : PlainBoard → Answer → LiveTicket → Learnt
learnt_from b answer l = Learning.learnt (known_before b l) (lesson b.problem.rules.limits (known_before b l) l.ticket.run.cutoff.0 answer)

-- the board learns the answer of a live ticket
unfoldable pub with_answer : PlainBoard → Answer → LiveTicket → PlainBoard
with_answer b answer l = record b {
  known = known_after b.known l.ticket.cell (known_from b answer l);
  conflicts = conflicts_after b.conflicts (is_conflict b answer l);
  live = without b.live l.ticket.number;
  journal = b.journal ++ event.Record l.ticket.number answer ∷ [];
}

-- what a record comes to by what is learnt
abbrev pub recorded_as : Learnt → Recorded
recorded_as learnt.Fresh = recorded.Fresh
recorded_as learnt.Same = recorded.Same
recorded_as learnt.Conflict = recorded.Conflict

-- the run of a live ticket can't be made
unfoldable pub with_loss : PlainBoard → LiveTicket → PlainBoard
with_loss b l = record b {
  live = without b.live l.ticket.number;
  lost_ahead = lost_ahead_after b.lost_ahead l.ticket;
  journal = b.journal ++ event.Lost l.ticket.number ∷ [];
}

-- the run of a live ticket is given up
unfoldable pub with_kill : PlainBoard → LiveTicket → PlainBoard
with_kill b l = record b { live = without b.live l.ticket.number; journal = b.journal ++ event.Killed l.ticket.number ∷ [] }

-- a live ticket with a number is marked
unfoldable pub with_mark : PlainBoard → ℕ → PlainBoard
with_mark b number = record b {
  live = map (marked_if (has_number number)) b.live;
  journal = b.journal ++ event.Mark number ∷ [];
}

-- a board whose live tickets are marked where they aren't wanted
abbrev pub marked_board : PlainBoard → (LiveTicket → Bool) → PlainBoard
marked_board b p = record b { live = map (marked_if p) b.live; journal = b.journal ++ mark_events p b.live }

module _ (shown : Rules → List Reply → View) where
  -- the search is answered, and there are other wishes
  unfoldable pub with_reply : PlainBoard → Reply → PlainBoard
  with_reply b r =
      let answered : PlainBoard = record b { replies = b.replies ++ r ∷ [] } in
      record answered { wishes = wishes_on shown answered; journal = b.journal ++ event.Advance ∷ [] }

  -- a run is needed, and there may be other wishes
  unfoldable pub with_wishes : PlainBoard → PlainBoard
  with_wishes b = if pointwise same_wish b.wishes (wishes_on shown b) then b
      else record b { wishes = wishes_on shown b; journal = b.journal ++ event.Advance ∷ [] }

  -- the walk of the present ask came to a run that aborts
  unfoldable pub with_abort : PlainBoard → ℕ → PlainBoard
  with_abort b place = record b { aborted = Some (asked_cell shown b place); wishes = []; journal = b.journal ++ event.Advance ∷ [] }

  -- a board after an advance, by where it stood
  abbrev pub advanced_by : PlainBoard → BoardVerdict → PlainBoard
  advanced_by b board_verdict.Stopped = b
  advanced_by b board_verdict.Aborted = b
  advanced_by b (board_verdict.Open (verdict.Reply r)) = with_reply b r
  advanced_by b (board_verdict.Open (verdict.Need place cutoff)) = with_wishes b
  advanced_by b (board_verdict.Open (verdict.Aborted place)) = with_abort b place
  advanced_by b (board_verdict.Open verdict.Ended) = b

  -- a board after an advance
  unfoldable pub after_advance : PlainBoard → PlainBoard
  after_advance b = advanced_by b (board_verdict_of shown b)

  -- what a take comes to, by where the board stands
  abbrev pub taken_by : PlainBoard → BoardVerdict → Taken
  taken_by b board_verdict.Stopped = taken.Stopped
  taken_by b board_verdict.Aborted = taken.Ended
  taken_by b (board_verdict.Open (verdict.Reply r)) = taken.Decided
  taken_by b (board_verdict.Open (verdict.Need place cutoff)) = taken_beside b (asked_cell shown b place) cutoff.0
  taken_by b (board_verdict.Open (verdict.Aborted place)) = taken.Decided
  taken_by b (board_verdict.Open verdict.Ended) = taken.Ended

  -- what a take comes to
  unfoldable pub taken_on : PlainBoard → Taken
  taken_on b = taken_by b (board_verdict_of shown b)

  -- a board after a take
  unfoldable pub after_take : PlainBoard → PlainBoard
  after_take b = with_taken b (taken_on b)

  -- a board after marking
  unfoldable pub after_mark : PlainBoard → PlainBoard
  after_mark b = marked_board b (is_unwanted shown b)

  -- how many live tickets are newly marked
  unfoldable pub marked_on : PlainBoard → ℕ
  marked_on b = length (mark_events (is_unwanted shown b) b.live)

-- what an advance comes to, by where the board stood
abbrev pub advanced_to : BoardVerdict → Advanced
advanced_to board_verdict.Stopped = advanced.Stopped
advanced_to board_verdict.Aborted = advanced.Aborted
advanced_to (board_verdict.Open (verdict.Reply r)) = advanced.Moved
advanced_to (board_verdict.Open (verdict.Need place cutoff)) = advanced.Waits
advanced_to (board_verdict.Open (verdict.Aborted place)) = advanced.Aborted
advanced_to (board_verdict.Open verdict.Ended) = advanced.Ended

-- what an advance comes to
unfoldable pub advanced_on : (Rules → List Reply → View) → PlainBoard → Advanced
advanced_on shown b = advanced_to (board_verdict_of shown b)

-- a board after the end of a live ticket, where there is one
abbrev pub with_end : (LiveTicket → PlainBoard) → PlainBoard → Option LiveTicket → PlainBoard
with_end ended b None = b
with_end ended b (Some l) = ended l

-- a board after the answer of a live ticket, unless it is marked
abbrev pub with_record : PlainBoard → Answer → LiveTicket → PlainBoard
with_record b answer l = if l.marked then b else with_answer b answer l

-- a board after a record
unfoldable pub after_record : PlainBoard → Ticket → Answer → PlainBoard
after_record b t answer = with_end (with_record b answer) b (found_in b.live t)

-- what a record comes to, for a live ticket where there is one
abbrev pub recorded_by : PlainBoard → Answer → Option LiveTicket → Recorded
recorded_by b answer None = recorded.Stranger
recorded_by b answer (Some l) = if l.marked then recorded.Marked else recorded_as (learnt_from b answer l)

-- what a record comes to
unfoldable pub recorded_on : PlainBoard → Ticket → Answer → Recorded
recorded_on b t answer = recorded_by b answer (found_in b.live t)

-- a board after a ticket's run couldn't be made
unfoldable pub after_lost : PlainBoard → Ticket → PlainBoard
after_lost b t = with_end (with_loss b) b (found_in b.live t)

-- a board after the run of a live ticket was given up, where it is marked
abbrev pub with_given_up : PlainBoard → LiveTicket → PlainBoard
with_given_up b l = if l.marked then with_kill b l else b

-- a board after a ticket's run was given up
unfoldable pub after_killed : PlainBoard → Ticket → PlainBoard
after_killed b t = with_end (with_given_up b) b (found_in b.live t)

-- a board that is stopped: every live ticket is marked
abbrev pub stopped_board : PlainBoard → PlainBoard
stopped_board b = record b { live = map marked b.live; stopped = true; journal = b.journal ++ event.Stop ∷ [] }

-- a board after a stop
unfoldable pub after_stop : PlainBoard → PlainBoard
after_stop b = if b.stopped then b else stopped_board b

-- a board that goes on without its live tickets
abbrev pub resumed_board : PlainBoard → PlainBoard
resumed_board b = record b { live = []; stopped = false; journal = b.journal ++ event.Resume ∷ [] }

-- a board that isn't stopped and has no live ticket
unfoldable pub after_resume : PlainBoard → PlainBoard
after_resume b = if b.stopped || nat_lt 0 (length b.live) then resumed_board b else b
