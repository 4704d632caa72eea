-- The runs that a board's asks need are due there.
use Rattle.std.proofs.Common.{ℕ, ◌≡◌, ◌≤◌, ◌<◌, ◌-◌, ◌⊎◌, ◌++◌, ◌&&◌, not, Bool, true, false, List, [], ◌∷◌, Option, Some, None, All, length, get_or, refl, ap, subst, inl, inr, arith, length-append, if◌then◌else◌}
use Rattle.std.specs.Prelude.{IsSomeAnd}
use Rattle.std.specs.Cmp.Lexicographic.{pointwise}
use Rattle.std.specs.List.{Contains}
use Rattle.std.proofs.lemmas.List.{append_assoc, append-nil}
use Rattle.std.proofs.lemmas.List.Elements.{All-cons, All-head, All-contains, All-contains_itself, Contains-append_left, Contains-append_right, All-nil, All-push, All-weaker, All-get_or}
use Rattle.std.proofs.lemmas.List.Sorted.{IsNonDecreasingBy-short, IsNonDecreasingBy-push}
use Rattle.objective.specs.Bounds.{Bounds}
use Rattle.objective.specs.Costs.{Table}
use Rattle.objective.specs.declared.Answer.{Answer}
use Rattle.objective.specs.declared.Micros.{Micros}
use Rattle.objective.specs.declared.Outcome.{Outcome}
use Rattle.wrapper_lines.specs.declared.runs.Key.{Key}
use Rattle.uncapped.specs.Uncapped.{Run}
use Rattle.ils_face.specs.declared.asks.Ask.{Ask}
use Rattle.ils_face.specs.declared.asks.Ask.TheVariants.{Full, Versus, End}
use Rattle.ils_face.specs.declared.asks.Reply.{Reply}
use Rattle.ils_face.specs.Follows.{Follows, sums_under}
use Rattle.ils_face.specs.Rules.{Rules, AreRules}
use Rattle.ils_face.specs.Traces.{question_of}
use Rattle.ils_face.specs.Views.{View}
use Rattle.run_cache.specs.Caches.{Knowledge}
use Rattle.run_cache.specs.Knowledge.{Agrees}
use Rattle.run_cache.specs.Runs.{IsDue, IsDueFor}
use Rattle.capping.specs.declared.verdicts.Verdict.TheVariants as verdict
use Rattle.capping.specs.Decisions.{question}
use Rattle.capping.specs.Verdicts.{verdict_of}
use Rattle.capping.proofs.NeededRuns.{due}
use Rattle.capping.proofs.WalkEnds.{IsOpen}
use Rattle.board_steps.specs.declared.answers.Taken.TheVariants as taken
use Rattle.board_steps.specs.declared.events.Event.{Event}
use Rattle.board_steps.specs.declared.events.Event.TheVariants.{Advance, Take, Record, Lost, Mark, Killed, Stop, Resume}
use Rattle.board_steps.specs.declared.tickets.Kind.TheVariants.{Asked}
use Rattle.board_steps.specs.declared.tickets.LiveTicket.{LiveTicket}
use Rattle.board_steps.specs.declared.tickets.Ticket.{Ticket}
use Rattle.board_steps.specs.Boards.{PlainBoard, opening}
use Rattle.board_steps.specs.Ledgers.{take_event}
use Rattle.board_steps.specs.BoardVerdicts.{config_of, ask_on, verdict_on, asked_cell, wishes_on}
use Rattle.board_steps.specs.Problem.{Problem}
use Rattle.board_steps.specs.ProblemRuns.{table_of}
use Rattle.board_steps.specs.Steps.{ticket_for, taken_on, with_ticket, with_answer, with_loss, with_kill, with_reply, with_wishes, with_abort, same_wish, marked_board, stopped_board, resumed_board}
use Rattle.board_steps.specs.Tickets.{mark_event, mark_events}
use Rattle.board_steps.specs.AgreeingBoards.{IsAgreeing}
use Rattle.board_steps.specs.JournalRuns.{run_of}
use Rattle.board_steps.specs.RepliedAsks.{quiet_by, AreReplied}
use Rattle.board_steps.specs.DueTickets.{IsDueTake, ask_taken, asks_taken, AreInOrder, AreDueTickets}
use Rattle.board_steps.proofs.GivenTickets.{verdict-open, IsNeededTicket, IsAheadTicket, given}
use Rattle.board_steps.proofs.Ranges.{flat_map-push, flat_map-push_none}
use Rattle.board_steps.proofs.RepliedAsks.{ended-walk, present-ask}

-- ---- the order of the places

order-opening : (replies : ℕ) → AreInOrder replies []
order-opening replies = record { rising = IsNonDecreasingBy-short (λ place. place) [] (omega arith); within = All-nil (λ place. place ≤ replies) }

-- more replies
order-later : (replies more : ℕ) (journal : List Event) → replies ≤ more → AreInOrder replies journal → AreInOrder more journal
order-later replies more journal least o = record {
  rising = o.rising;
  within = All-weaker (λ place. place ≤ replies) (λ place. place ≤ more) (λ place low. omega (arith, low, least)) (asks_taken journal) o.within;
}

-- one more event that takes no ticket
order-other : (replies : ℕ) (journal : List Event) (e : Event) → ask_taken e ≡ [] → AreInOrder replies journal → AreInOrder replies (journal ++ e ∷ [])
order-other replies journal e none o = record {
  rising = rw (flat_map-push_none ask_taken journal e none) o.rising;
  within = rw (flat_map-push_none ask_taken journal e none) o.within;
}

-- one more ticket
order-take : (replies : ℕ) (journal : List Event) (t : Ticket) → t.place ≡ replies → AreInOrder replies journal → AreInOrder replies (journal ++ take_event t ∷ [])
order-take replies journal t now o =
    let places = asks_taken journal in
    let last : (d : ℕ) → 0 < length places → get_or places (length places - 1) d ≤ t.place = λ d some.
    let low = All-get_or (λ place. place ≤ replies) places (length places - 1) d (omega (arith, some)) o.within in omega (arith, low, now) in
    record {
      rising = rw (flat_map-push ask_taken journal (take_event t)) (IsNonDecreasingBy-push (λ place. place) places t.place o.rising last);
      within = rw (flat_map-push ask_taken journal (take_event t)) (All-push (λ place. place ≤ replies) places t.place o.within (omega (arith, now)));
    }

-- ---- a run that is needed

module _ (limits : Bounds) (known : Knowledge) (T : Table) (agrees : (config : List ℕ) (place : ℕ) → Agrees limits (known config place) (T config place)) where
  -- the run at the place of a question where its walk needs one
  needed-due : (θ : List ℕ) (n : ℕ) (bound : Option ℕ) (place : ℕ) (cutoff : Micros) (answer : Answer) → IsOpen limits (known θ) bound n place cutoff
      → IsDueFor limits T (record { cell = record { config = θ; place = place }; cutoff = cutoff.0; answer = answer }) (question θ n bound)
  needed-due θ n bound place cutoff answer needs = record {
    config = refl;
    positive = omega (arith, needs.place_is);
    place = omega (arith, needs.place_is, needs.inside);
    cutoff = due limits T θ (known θ) (agrees θ) bound n place cutoff needs;
  }

  -- a run that an ask needs is due there, whatever it answers
  pub due-ask : (ask : Ask) (place : ℕ) (cutoff : Micros) (answer : Answer) → verdict_of limits known ask ≡ verdict.Need place cutoff
      → IsSomeAnd (question_of ask) (IsDueFor limits T (record { cell = record { config = config_of ask; place = place }; cutoff = cutoff.0; answer = answer }))
  due-ask (Full θ n) place cutoff answer is =
      needed-due θ n None place cutoff answer (ended-walk limits known θ None n (verdict.Need place cutoff) is)
  due-ask (Versus θ n bound) place cutoff answer is =
      needed-due θ n (Some bound.0) place cutoff answer (ended-walk limits known θ (Some bound.0) n (verdict.Need place cutoff) is)
  due-ask End place cutoff answer is = absurd (cc)

module _ (procedure : Rules → Table → Run) (truth : Option (Key → Outcome)) where
  -- the event took no asked ticket, or one whose run is due
  abbrev IsDueOf : Problem → Event → Type 0
  IsDueOf problem e = IsDueTake problem.rules.limits (table_of truth problem) (quiet_by procedure truth problem).asks e

  -- one more event that takes no ticket, after as many replies or more
  due-other : (problem : Problem) (journal : List Event) (e : Event) → IsDueOf problem e → All (IsDueOf problem) journal → All (IsDueOf problem) (journal ++ e ∷ [])
  due-other problem journal e is all = All-push (IsDueOf problem) journal e all is

  -- ---- each step

  pub due-opening : (problem : Problem) → AreDueTickets procedure truth (opening problem)
  due-opening problem = record { due = All-nil (IsDueOf problem); order = order-opening 0 }

  pub due-answer : (b : PlainBoard) (answer : Answer) (l : LiveTicket) → AreDueTickets procedure truth b → AreDueTickets procedure truth (with_answer b answer l)
  unfolding with_answer
  due-answer b answer l d =
      let e = Record l.ticket.number answer in
      record { due = due-other b.problem b.journal e tt d.due; order = order-other (length b.replies) b.journal e refl d.order }

  pub due-loss : (b : PlainBoard) (l : LiveTicket) → AreDueTickets procedure truth b → AreDueTickets procedure truth (with_loss b l)
  unfolding with_loss
  due-loss b l d =
      let e = Lost l.ticket.number in
      record { due = due-other b.problem b.journal e tt d.due; order = order-other (length b.replies) b.journal e refl d.order }

  pub due-kill : (b : PlainBoard) (l : LiveTicket) → AreDueTickets procedure truth b → AreDueTickets procedure truth (with_kill b l)
  unfolding with_kill
  due-kill b l d =
      let e = Killed l.ticket.number in
      record { due = due-other b.problem b.journal e tt d.due; order = order-other (length b.replies) b.journal e refl d.order }

  -- a live ticket is marked, where it is to be
  due-mark : (problem : Problem) (replies : ℕ) (journal : List Event) (to_mark : Bool) (number : ℕ) → All (IsDueOf problem) journal → AreInOrder replies journal
      → All (IsDueOf problem) (journal ++ (if to_mark then Mark number ∷ [] else [])) × AreInOrder replies (journal ++ (if to_mark then Mark number ∷ [] else []))
  due-mark problem replies journal true number all o = (due-other problem journal (Mark number) tt all, order-other replies journal (Mark number) refl o)
  due-mark problem replies journal false number all o = (rw (append-nil journal) all, rw (append-nil journal) o)

  due-events : (problem : Problem) (replies : ℕ) (journal : List Event) (p : LiveTicket → Bool) (live : List LiveTicket) → All (IsDueOf problem) journal → AreInOrder replies journal
      → All (IsDueOf problem) (journal ++ mark_events p live) × AreInOrder replies (journal ++ mark_events p live)
  due-events problem replies journal p [] all o = (rw (append-nil journal) all, rw (append-nil journal) o)
  due-events problem replies journal p (l ∷ live) all o =
      let one = due-mark problem replies journal (p l && not l.marked) l.ticket.number all o in
      let rest = due-events problem replies (journal ++ mark_event p l) p live one.0 one.1 in
      let same = append_assoc journal (mark_event p l) (mark_events p live) in
      (subst (λ es. All (IsDueOf problem) es) same rest.0, subst (λ es. AreInOrder replies es) same rest.1)

  pub due-marks : (b : PlainBoard) (p : LiveTicket → Bool) → AreDueTickets procedure truth b → AreDueTickets procedure truth (marked_board b p)
  due-marks b p d =
      let both = due-events b.problem (length b.replies) b.journal p b.live d.due d.order in
      record { due = both.0; order = both.1 }

  pub due-stop : (b : PlainBoard) → AreDueTickets procedure truth b → AreDueTickets procedure truth (stopped_board b)
  due-stop b d = record { due = due-other b.problem b.journal Stop tt d.due; order = order-other (length b.replies) b.journal Stop refl d.order }

  pub due-resume : (b : PlainBoard) → AreDueTickets procedure truth b → AreDueTickets procedure truth (resumed_board b)
  due-resume b d = record { due = due-other b.problem b.journal Resume tt d.due; order = order-other (length b.replies) b.journal Resume refl d.order }

  module _ (shown : Rules → List Reply → View) where
    pub due-reply : (b : PlainBoard) (r : Reply) → AreDueTickets procedure truth b → AreDueTickets procedure truth (with_reply shown b r)
    unfolding with_reply
    due-reply b r d =
        let more = length-append b.replies (r ∷ []) in
        let later = order-later (length b.replies) (length (b.replies ++ r ∷ [])) b.journal (omega (arith, more)) d.order in
        record {
          due = due-other b.problem b.journal Advance tt d.due;
          order = order-other (length (b.replies ++ r ∷ [])) b.journal Advance refl later;
        }

    pub due-abort : (b : PlainBoard) (place : ℕ) → AreDueTickets procedure truth b → AreDueTickets procedure truth (with_abort shown b place)
    unfolding with_abort
    due-abort b place d =
        record { due = due-other b.problem b.journal Advance tt d.due; order = order-other (length b.replies) b.journal Advance refl d.order }

    pub due-wishes : (b : PlainBoard) → AreDueTickets procedure truth b → AreDueTickets procedure truth (with_wishes shown b)
    unfolding with_wishes
    due-wishes b d = at (pointwise same_wish b.wishes (wishes_on shown b))
      where
        at : (same : Bool) → AreDueTickets procedure truth (if same then b else record b { wishes = wishes_on shown b; journal = b.journal ++ Advance ∷ [] })
        at true = d
        at false =
            record { due = due-other b.problem b.journal Advance tt d.due; order = order-other (length b.replies) b.journal Advance refl d.order }

    module _ (follows : (rules : Rules) (T : Table) → AreRules rules → Follows (shown rules) (sums_under rules T) (procedure rules T)) where
      -- the run of the needed cell is due at the present ask
      needed-take : (b : PlainBoard) (t : Ticket) → IsNeededTicket shown b t → AreRules b.problem.rules → IsAgreeing truth b → AreReplied procedure truth b
          → IsDueOf b.problem (take_event t)
      unfolding ticket_for asked_cell verdict_on
      needed-take b t needed ruled agreeing a = rw needed.ticket at_ask
        where
          is : verdict_of b.problem.rules.limits b.known (ask_on shown b) ≡ verdict.Need needed.place needed.cutoff
          is = verdict-open shown b (verdict.Need needed.place needed.cutoff) needed.stands

          at_ask : IsDueOf b.problem (take_event (ticket_for b Asked (asked_cell shown b needed.place) needed.cutoff.0))
          at_ask answer =
              let run = run_of (ticket_for b Asked (asked_cell shown b needed.place) needed.cutoff.0) answer in
              subst (λ o. IsSomeAnd o (IsDueFor b.problem.rules.limits (table_of truth b.problem) run)) (present-ask procedure truth shown follows b ruled a)
              (due-ask b.problem.rules.limits b.known (table_of truth b.problem) agreeing.known (ask_on shown b) needed.place needed.cutoff answer is)

      -- a run ahead needn't be due
      ahead-take : (b : PlainBoard) (t : Ticket) → IsAheadTicket shown b t → IsDueOf b.problem (take_event t)
      unfolding ticket_for
      ahead-take b t ahead = rw ahead.ticket tt

      place-now : (b : PlainBoard) (t : Ticket) → IsNeededTicket shown b t ⊎ IsAheadTicket shown b t → t.place ≡ length b.replies
      unfolding ticket_for
      place-now b t (inl needed) = ap (λ u. u.place) needed.ticket
      place-now b t (inr ahead) = ap (λ u. u.place) ahead.ticket

      is-due : (b : PlainBoard) (t : Ticket) → IsNeededTicket shown b t ⊎ IsAheadTicket shown b t → AreRules b.problem.rules → IsAgreeing truth b → AreReplied procedure truth b
          → IsDueOf b.problem (take_event t)
      is-due b t (inl needed) ruled agreeing a = needed-take b t needed ruled agreeing a
      is-due b t (inr ahead) ruled agreeing a = ahead-take b t ahead

      -- a ticket is taken
      pub due-ticket : (b : PlainBoard) (t : Ticket) → taken_on shown b ≡ taken.Ticket t → AreRules b.problem.rules → IsAgreeing truth b → AreReplied procedure truth b
          → AreDueTickets procedure truth b → AreDueTickets procedure truth (with_ticket b t)
      due-ticket b t offered ruled agreeing a d =
          let why = given shown b t offered in
          record {
            due = due-other b.problem b.journal (take_event t) (is-due b t why ruled agreeing a) d.due;
            order = order-take (length b.replies) b.journal t (place-now b t why) d.order;
          }

-- ---- a ticket that was taken

-- what holds of the places of all tickets holds of those of each event
each-event : (P : ℕ → Type 0) (journal : List Event) → All P (asks_taken journal) → All (λ e. All P (ask_taken e)) journal
each-event P [] all = All-nil (λ e. All P (ask_taken e))
each-event P (e ∷ journal) all =
    let whole = ask_taken e ++ asks_taken journal in
    let here : All P (ask_taken e) = All-weaker (Contains (ask_taken e)) P
    (λ place among. All-contains P whole place all (Contains-append_left (ask_taken e) (asks_taken journal) place among)) (ask_taken e) (All-contains_itself (ask_taken e)) in
    let rest : All P (asks_taken journal) = All-weaker (Contains (asks_taken journal)) P
    (λ place among. All-contains P whole place all (Contains-append_right (ask_taken e) (asks_taken journal) place among)) (asks_taken journal) (All-contains_itself (asks_taken journal)) in
    All-cons (λ e. All P (ask_taken e)) e journal here (each-event P journal rest)

module _ (procedure : Rules → Table → Run) (truth : Option (Key → Outcome)) where
  -- the ask of an asked ticket that was taken: its run is due there, whatever it answers
  pub due-taken : (b : PlainBoard) (t : Ticket) (answer : Answer) → Contains b.journal (take_event t) → t.kind ≡ Asked → AreDueTickets procedure truth b
      → IsDue b.problem.rules.limits (table_of truth b.problem) (quiet_by procedure truth b.problem).asks t.place (run_of t answer)
  due-taken b t answer among asked d =
      let limits = b.problem.rules.limits in
      let T = table_of truth b.problem in
      let asks = (quiet_by procedure truth b.problem).asks in
      let taken : IsDueTake limits T asks (take_event t) = All-contains (IsDueTake limits T asks) b.journal (take_event t) d.due among in
      let is : IsDueTake limits T asks (Take Asked t.number t.cell t.run.cutoff t.place) =
      subst (λ kind. IsDueTake limits T asks (Take kind t.number t.cell t.run.cutoff t.place)) asked taken in
      is answer

  -- the place of a ticket that was taken isn't above the number of replies
  pub place-taken : (b : PlainBoard) (t : Ticket) → Contains b.journal (take_event t) → AreDueTickets procedure truth b → t.place ≤ length b.replies
  place-taken b t among d =
      let P : ℕ → Type 0 = λ place. place ≤ length b.replies in
      let each : All P (t.place ∷ []) = All-contains (λ e. All P (ask_taken e)) b.journal (take_event t) (each-event P b.journal d.order.within) among in
      All-head P t.place [] each
