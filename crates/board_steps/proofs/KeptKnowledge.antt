-- Steps that change neither the replies nor what is known.
use Rattle.std.proofs.Common.{◌≡◌, ◌||◌, Bool, true, false, List, Option, Some, None, length, nat_lt, refl, if◌then◌else◌}
use Rattle.objective.specs.declared.Answer.{Answer}
use Rattle.ils_face.specs.declared.asks.Reply.{Reply}
use Rattle.ils_face.specs.Rules.{Rules}
use Rattle.ils_face.specs.Views.{View}
use Rattle.board_steps.specs.declared.answers.Taken.{Taken}
use Rattle.board_steps.specs.declared.answers.Taken.TheVariants as taken
use Rattle.board_steps.specs.declared.tickets.LiveTicket.{LiveTicket}
use Rattle.board_steps.specs.declared.tickets.Ticket.{Ticket}
use Rattle.board_steps.specs.Boards.{PlainBoard}
use Rattle.board_steps.specs.KeptKnowledge.{KeepsKnowledge, IsUnheard}
use Rattle.board_steps.specs.Steps.{with_taken, taken_on, after_take, with_end, with_loss, with_kill, with_given_up, with_record, with_answer, after_lost, after_killed, after_mark, stopped_board, after_stop, resumed_board, after_resume, after_record}
use Rattle.board_steps.specs.Tickets.{found_in}

-- nothing changes
same-knowledge : (b : PlainBoard) → KeepsKnowledge b b
same-knowledge b = record { replies = refl; known = refl; conflicts = refl }

-- one of two boards that keep it
either-keeps : (b one other : PlainBoard) (test : Bool) → KeepsKnowledge b one → KeepsKnowledge b other → KeepsKnowledge b (if test then one else other)
either-keeps b one other true first second = first
either-keeps b one other false first second = second

-- a take
taken-keeps : (b : PlainBoard) (t : Taken) → KeepsKnowledge b (with_taken b t)
taken-keeps b (taken.Ticket t) = record { replies = refl; known = refl; conflicts = refl }
taken-keeps b taken.Idle = same-knowledge b
taken-keeps b taken.Decided = same-knowledge b
taken-keeps b taken.Ended = same-knowledge b
taken-keeps b taken.Stopped = same-knowledge b

pub take-keeps : (shown : Rules → List Reply → View) (b : PlainBoard) → KeepsKnowledge b (after_take shown b)
unfolding after_take
take-keeps shown b = taken-keeps b (taken_on shown b)

-- a lost ticket
loss-keeps : (b : PlainBoard) (o : Option LiveTicket) → KeepsKnowledge b (with_end (with_loss b) b o)
unfolding with_loss
loss-keeps b None = same-knowledge b
loss-keeps b (Some l) = record { replies = refl; known = refl; conflicts = refl }

pub lost-keeps : (b : PlainBoard) (t : Ticket) → KeepsKnowledge b (after_lost b t)
unfolding after_lost
lost-keeps b t = loss-keeps b (found_in b.live t)

-- a killed ticket
kill-keeps : (b : PlainBoard) (o : Option LiveTicket) → KeepsKnowledge b (with_end (with_given_up b) b o)
unfolding with_kill
kill-keeps b None = same-knowledge b
kill-keeps b (Some l) = either-keeps b (with_kill b l) b l.marked (record { replies = refl; known = refl; conflicts = refl }) (same-knowledge b)

pub killed-keeps : (b : PlainBoard) (t : Ticket) → KeepsKnowledge b (after_killed b t)
unfolding after_killed
killed-keeps b t = kill-keeps b (found_in b.live t)

-- marks
pub mark-keeps : (shown : Rules → List Reply → View) (b : PlainBoard) → KeepsKnowledge b (after_mark shown b)
unfolding after_mark
mark-keeps shown b = record { replies = refl; known = refl; conflicts = refl }

-- a stop
pub stop-keeps : (b : PlainBoard) → KeepsKnowledge b (after_stop b)
unfolding after_stop
stop-keeps b = either-keeps b b (stopped_board b) b.stopped (same-knowledge b) (record { replies = refl; known = refl; conflicts = refl })

-- a resume
pub resume-keeps : (b : PlainBoard) → KeepsKnowledge b (after_resume b)
unfolding after_resume
resume-keeps b = either-keeps b (resumed_board b) b (b.stopped || nat_lt 0 (length b.live)) (record { replies = refl; known = refl; conflicts = refl }) (same-knowledge b)

-- the record of a ticket that is marked or strange
unheard-keeps : (b : PlainBoard) (answer : Answer) (o : Option LiveTicket) → IsUnheard o → with_end (with_record b answer) b o ≡ b
unheard-keeps b answer None unheard = refl
unheard-keeps b answer (Some l) unheard = either l.marked unheard
  where
    either : (m : Bool) → m ≡ true → (if m then b else with_answer b answer l) ≡ b
    either true is = refl
    either false is = absurd (let e : false ≡ true = is in cc)

pub record-keeps : (b : PlainBoard) (t : Ticket) (answer : Answer) → IsUnheard (found_in b.live t) → after_record b t answer ≡ b
unfolding after_record
record-keeps b t answer unheard = unheard-keeps b answer (found_in b.live t) unheard
