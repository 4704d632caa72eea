-- What the tickets of a seat and the runs that a board records become by each event.
use Rattle.std.proofs.Common.{◌≡◌, ◌==◌, ◌++◌, true, List, [], ◌∷◌, Some, None, All, filter, map, refl, sym, ap, subst, ◌∙◌, if◌then◌else◌}
use Rattle.std.proofs.lemmas.Bool.{eq-eqb}
use Rattle.std.proofs.lemmas.List.{append-nil, append_assoc, map-append}
use Rattle.std.proofs.lemmas.List.Elements.{All-nil, All-push, filter-append}
use Rattle.objective.specs.declared.Answer.{Answer}
use Rattle.wrapper_lines.specs.declared.runs.Program.{Program}
use Rattle.outside.specs.ToldStates.{SpawnerTold}
use Rattle.board_steps.specs.Boards.{PlainBoard}
use Rattle.board_steps.specs.declared.events.Event.{Event}
use Rattle.board_steps.specs.declared.events.Event.TheVariants.{Record}
use Rattle.board_steps.specs.declared.tickets.LiveTicket.{LiveTicket}
use Rattle.board_steps.specs.declared.tickets.Ticket.{Ticket}
use Rattle.board_steps.specs.JournalRuns.{run_of, runs_of, AreTaken}
use Rattle.board_steps.specs.Ledgers.{take_event, unmarked}
use Rattle.board_steps.specs.Steps.{with_answer, with_end, with_loss, with_record, with_ticket, after_lost, after_record}
use Rattle.board_steps.specs.Tickets.{live_at, without, if_same, found_in}
use Rattle.board_steps.proofs.JournalRuns.{runs-other, runs-answer}
use Rattle.board_steps.proofs.SameItself.{same_ticket-itself}
use Rattle.pool_run.specs.Drives.{Answered, tickets_in, run_in, record_event, IsAskedTicket, HasMade}
use Rattle.pool_run.specs.Starts.{HasStarted}
use Rattle.pool_run.specs.Turns.{is_take, is_record, AddsNoRun}
use Rattle.pool_run.proofs.StartedRuns.{started-none, started-then}

-- ---- a ticket that alone is live

-- the only live ticket
abbrev pub alone : Ticket → List LiveTicket
alone t = unmarked t ∷ []

number-itself : (t : Ticket) → (t.number == t.number) ≡ true
number-itself t = eq-eqb t.number t.number refl

alone-at : (t : Ticket) → live_at (alone t) t.number ≡ Some (unmarked t)
alone-at t = ap (λ b. if b then Some (unmarked t) else None) (number-itself t)

alone-found : (t : Ticket) → found_in (alone t) t ≡ Some (unmarked t)
unfolding found_in
alone-found t = ap (if_same t) (alone-at t) ∙ ap (λ b. if b then Some (unmarked t) else None) (same_ticket-itself t)

alone-without : (t : Ticket) → without (alone t) t.number ≡ []
unfolding without
alone-without t = rw (number-itself t) refl

-- its answer is recorded
answer-alone : (b : PlainBoard) (t : Ticket) (answer : Answer) → b.live ≡ alone t → after_record b t answer ≡ with_answer b answer (unmarked t)
unfolding after_record
answer-alone b t answer live =
    let found : found_in b.live t ≡ Some (unmarked t) = ap (λ ls. found_in ls t) live ∙ alone-found t in
    ap (with_end (with_record b answer) b) found

-- the board after that has no live ticket, and is stopped where it was before
pub live-answered : (b : PlainBoard) (t : Ticket) (answer : Answer) → b.live ≡ alone t → (after_record b t answer).live ≡ []
unfolding with_answer
live-answered b t answer live =
    ap (λ c. c.live) (answer-alone b t answer live) ∙ ap (λ ls. without ls t.number) live ∙ alone-without t

pub stopped-answered : (b : PlainBoard) (t : Ticket) (answer : Answer) → b.live ≡ alone t → (after_record b t answer).stopped ≡ b.stopped
unfolding with_answer
stopped-answered b t answer live = ap (λ c. c.stopped) (answer-alone b t answer live)

-- nor has the board after it was lost
pub live-lost : (b : PlainBoard) (t : Ticket) → b.live ≡ alone t → (after_lost b t).live ≡ []
unfolding after_lost with_loss
live-lost b t live =
    let found : found_in b.live t ≡ Some (unmarked t) = ap (λ ls. found_in ls t) live ∙ alone-found t in
    ap (λ o. (with_end (with_loss b) b o).live) found ∙ ap (λ ls. without ls t.number) live ∙ alone-without t

-- ---- runs of a journal

-- events that record nothing leave the runs
runs-still : (journal events : List Event) → filter is_record events ≡ [] → runs_of (journal ++ events) ≡ runs_of journal
runs-still journal [] none = ap runs_of (append-nil journal)
runs-still journal (Record number answer ∷ later) none = absurd (cc)
runs-still journal (e ∷ later) none =
    ap runs_of (sym (append_assoc journal (e ∷ []) later)) ∙ runs-still (journal ++ e ∷ []) later none ∙ runs-other journal e refl

-- ---- what was made so far

-- nothing yet
pub made-none : (program : Program) (b : PlainBoard) (told : SpawnerTold) (tickets : List Ticket) → HasMade program [] b b told told tickets tickets
made-none program b told tickets = record {
  answered = [];
  events = [];
  added = sym (append-nil tickets);
  journal = sym (append-nil b.journal);
  takes = refl;
  records = refl;
  runs = sym (append-nil (runs_of b.journal));
  each = All-nil (IsAskedTicket b.problem);
  started = started-none program told;
  problem = refl;
}

module _ (program : Program) (first : PlainBoard) (told told' : SpawnerTold) (tickets tickets' : List Ticket) where
  -- steps that add no run
  pub made-still : (left : List Ticket) (b c : PlainBoard) → AddsNoRun b c → HasMade program left first b told told' tickets tickets'
      → HasMade program left first c told told' tickets tickets'
  made-still left b c none made = record {
    answered = made.answered;
    events = made.events ++ none.events;
    added = made.added;
    journal = none.journal ∙ ap (λ es. es ++ none.events) made.journal ∙ append_assoc first.journal made.events none.events;
    takes = filter-append is_take made.events none.events ∙ (λ i. made.takes i ++ none.takes i) ∙ append-nil _;
    records = filter-append is_record made.events none.events ∙ (λ i. made.records i ++ none.records i) ∙ append-nil _;
    runs = ap runs_of none.journal ∙ runs-still b.journal none.events none.records ∙ made.runs;
    each = made.each;
    started = made.started;
    problem = none.problem ∙ made.problem;
  }

  -- a ticket that was asked for is taken
  pub made-ticket : (b : PlainBoard) (t : Ticket) → IsAskedTicket first.problem t → HasMade program [] first b told told' tickets tickets'
      → HasMade program (t ∷ []) first (with_ticket b t) told told' tickets (tickets' ++ t ∷ [])
  made-ticket b t asked made =
      let taken = tickets_in made.answered in
      let so_far : taken ++ [] ≡ taken = append-nil taken in
      record {
        answered = made.answered;
        events = made.events ++ take_event t ∷ [];
        added = ap (λ ts. ts ++ t ∷ []) (made.added ∙ ap (λ ts. tickets ++ ts) so_far) ∙ append_assoc tickets taken (t ∷ []);
        journal = ap (λ es. es ++ take_event t ∷ []) made.journal ∙ append_assoc first.journal made.events (take_event t ∷ []);
        takes = filter-append is_take made.events (take_event t ∷ [])
            ∙ ap (λ es. es ++ take_event t ∷ []) (made.takes ∙ ap (map take_event) so_far)
            ∙ sym (map-append take_event taken (t ∷ []));
        records = filter-append is_record made.events (take_event t ∷ []) ∙ append-nil _ ∙ made.records;
        runs = runs-other b.journal (take_event t) refl ∙ made.runs;
        each = All-push (IsAskedTicket first.problem) taken t (subst (All (IsAskedTicket first.problem)) so_far made.each) asked;
        started = made.started;
        problem = made.problem;
      }

  -- the answer of the only live ticket is recorded
  made-answer_of : (b : PlainBoard) (t : Ticket) (answer : Answer) (now : SpawnerTold) → b.live ≡ alone t → AreTaken b
      → HasStarted program told' now (t.run ∷ []) → HasMade program (t ∷ []) first b told told' tickets tickets'
      → HasMade program [] first (with_answer b answer (unmarked t)) told now tickets tickets'
  unfolding with_answer
  made-answer_of b t answer now live taken started made =
      let a : Answered = record { ticket = t; answer = answer } in
      let more = made.answered ++ a ∷ [] in
      let all : tickets_in more ++ [] ≡ tickets_in made.answered ++ t ∷ [] = append-nil (tickets_in more) ∙ map-append (λ x. x.ticket) made.answered (a ∷ []) in
      let found : live_at b.live t.number ≡ Some (unmarked t) = ap (λ ls. live_at ls t.number) live ∙ alone-at t in
      let e = Record t.number answer in
      record {
        answered = more;
        events = made.events ++ e ∷ [];
        added = made.added ∙ ap (λ ts. tickets ++ ts) (sym all);
        journal = ap (λ es. es ++ e ∷ []) made.journal ∙ append_assoc first.journal made.events (e ∷ []);
        takes = filter-append is_take made.events (e ∷ []) ∙ append-nil _ ∙ made.takes ∙ ap (map take_event) (sym all);
        records = filter-append is_record made.events (e ∷ []) ∙ ap (λ es. es ++ e ∷ []) made.records ∙ sym (map-append record_event made.answered (a ∷ []));
        runs = runs-answer b answer (unmarked t) found taken ∙ ap (λ rs. rs ++ run_of t answer ∷ []) made.runs
            ∙ append_assoc (runs_of first.journal) (map run_in made.answered) (run_of t answer ∷ [])
            ∙ ap (λ rs. runs_of first.journal ++ rs) (sym (map-append run_in made.answered (a ∷ [])));
        each = subst (All (IsAskedTicket first.problem)) (sym all) made.each;
        started = subst (HasStarted program told now) (sym (map-append (λ x. x.ticket.run) made.answered (a ∷ [])))
            (started-then program told told' now (map (λ x. x.ticket.run) made.answered) (t.run ∷ []) made.started started);
        problem = made.problem;
      }

  pub made-answer : (b : PlainBoard) (t : Ticket) (answer : Answer) (now : SpawnerTold) → b.live ≡ alone t → AreTaken b
      → HasStarted program told' now (t.run ∷ []) → HasMade program (t ∷ []) first b told told' tickets tickets'
      → HasMade program [] first (after_record b t answer) told now tickets tickets'
  made-answer b t answer now live taken started made =
      let P : PlainBoard → Type 0 = λ c. HasMade program [] first c told now tickets tickets' in
      subst P (sym (answer-alone b t answer live)) (made-answer_of b t answer now live taken started made)
