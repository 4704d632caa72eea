-- What the steps of a turn keep of a board, and where it stands after them.
use Rattle.std.proofs.Common.{ℕ, ◌≡◌, ◌++◌, ◌&&◌, ◌⊎◌, inl, inr, not, Bool, true, false, List, [], ◌∷◌, Option, Some, None, filter, refl, sym, ap, subst, ◌∙◌, if◌then◌else◌}
use Rattle.std.specs.Cmp.Lexicographic.{pointwise}
use Rattle.std.specs.List.{find}
use Rattle.std.proofs.lemmas.List.{append-nil, append_assoc}
use Rattle.std.proofs.lemmas.List.Elements.{filter-append}
use Rattle.ils_face.specs.declared.asks.Reply.{Reply}
use Rattle.ils_face.specs.Rules.{Rules}
use Rattle.ils_face.specs.Views.{View}
use Rattle.capping.specs.declared.verdicts.Verdict.TheVariants as verdict
use Rattle.predictor.specs.declared.wish.Wish.{Wish}
use Rattle.run_cache.specs.declared.cell.Cell.{Cell}
use Rattle.board_steps.specs.Boards.{PlainBoard}
use Rattle.board_steps.specs.declared.answers.Advanced.{Advanced}
use Rattle.board_steps.specs.declared.answers.Advanced.TheVariants as advanced
use Rattle.board_steps.specs.declared.answers.BoardVerdict.{BoardVerdict}
use Rattle.board_steps.specs.declared.answers.BoardVerdict.TheVariants as board_verdict
use Rattle.board_steps.specs.declared.answers.Taken.{Taken}
use Rattle.board_steps.specs.declared.answers.Taken.TheVariants as taken
use Rattle.board_steps.specs.declared.events.Event.{Event}
use Rattle.board_steps.specs.declared.events.Event.TheVariants.{Advance, Lost, Mark, Stop}
use Rattle.board_steps.specs.declared.tickets.Kind.{Kind}
use Rattle.board_steps.specs.declared.tickets.Kind.TheVariants.{Asked, Ahead}
use Rattle.board_steps.specs.declared.tickets.LiveTicket.{LiveTicket}
use Rattle.board_steps.specs.declared.tickets.Ticket.{Ticket}
use Rattle.board_steps.specs.Numbering.{tickets_of}
use Rattle.board_steps.specs.BoardVerdicts.{asked_cell, board_verdict_of, verdict_on, wishes_on}
use Rattle.board_steps.specs.Steps.{with_taken, after_take, same_wish, with_reply, with_wishes, with_abort, advanced_by, advanced_to, advanced_on, after_advance, after_mark, stopped_board, after_stop, with_end, with_loss, after_lost, is_free, taken_ahead, taken_by, taken_on}
use Rattle.board_steps.specs.Tickets.{mark_event, mark_events, has_ticket, found_in}
use Rattle.board_steps.specs.UnwantedRuns.{is_unwanted}
use Rattle.board_steps.proofs.LiveTickets.{tickets-marked, tickets-marked_if}
use Rattle.pool_run.specs.RunEnds.{stopped_for}
use Rattle.pool_run.specs.Seats.{SeatState}
use Rattle.pool_run.specs.Turns.{is_take, is_record, AddsNoRun, KeepsTickets, KeepsGoing, AdvancedTo, TookTicket, StayedIdle, RanShort, needs_run, is_done}

-- ---- no run is added

-- no event
adds-none : (b : PlainBoard) → AddsNoRun b b
adds-none b = record { events = []; journal = sym (append-nil b.journal); takes = refl; records = refl; problem = refl }

-- one change after another
adds-then : (a b c : PlainBoard) → AddsNoRun a b → AddsNoRun b c → AddsNoRun a c
adds-then a b c one other = record {
  events = one.events ++ other.events;
  journal = other.journal ∙ ap (λ es. es ++ other.events) one.journal ∙ append_assoc a.journal one.events other.events;
  takes = filter-append is_take one.events other.events ∙ (λ i. one.takes i ++ other.takes i);
  records = filter-append is_record one.events other.events ∙ (λ i. one.records i ++ other.records i);
  problem = other.problem ∙ one.problem;
}

-- ---- besides, the search is the same

pub record KeepsSearch (before after : PlainBoard) : Type 0 where
  pub added : AddsNoRun before after
  pub replies : after.replies ≡ before.replies
  pub aborted : after.aborted ≡ before.aborted

search-none : (b : PlainBoard) → KeepsSearch b b
search-none b = record { added = adds-none b; replies = refl; aborted = refl }

-- a ticket is lost
search-lost : (b : PlainBoard) (t : Ticket) → KeepsSearch b (after_lost b t)
unfolding after_lost with_loss
search-lost b t = by (found_in b.live t)
  where
    by : (o : Option LiveTicket) → KeepsSearch b (with_end (with_loss b) b o)
    by None = search-none b
    by (Some l) = record {
      added = record { events = Lost l.ticket.number ∷ []; journal = refl; takes = refl; records = refl; problem = refl };
      replies = refl;
      aborted = refl;
    }

-- the board is stopped
search-stop : (b : PlainBoard) → KeepsSearch b (after_stop b)
unfolding after_stop
search-stop b = by b.stopped
  where
    by : (stopped : Bool) → KeepsSearch b (if stopped then b else stopped_board b)
    by true = search-none b
    by false = record {
      added = record { events = Stop ∷ []; journal = refl; takes = refl; records = refl; problem = refl };
      replies = refl;
      aborted = refl;
    }

-- a ticket is given up
pub search-given_up : (b : PlainBoard) (t : Ticket) → KeepsSearch b (stopped_for t.kind (after_lost b t))
search-given_up b t = by t.kind
  where
    lost : PlainBoard
    lost = after_lost b t

    by : (kind : Kind) → KeepsSearch b (stopped_for kind lost)
    by Ahead = search-lost b t
    by Asked =
        let one = search-lost b t in
        let other = search-stop lost in
        record {
          added = adds-then b lost (after_stop lost) one.added other.added;
          replies = other.replies ∙ one.replies;
          aborted = other.aborted ∙ one.aborted;
        }

-- ---- the same tickets are live

keeps-none : (b : PlainBoard) → KeepsTickets b b
keeps-none b = record { added = adds-none b; live = refl }

keeps-then : (a b c : PlainBoard) → KeepsTickets a b → KeepsTickets b c → KeepsTickets a c
keeps-then a b c one other = record { added = adds-then a b c one.added other.added; live = other.live ∙ one.live }

-- the board is stopped
pub keeps-stop : (b : PlainBoard) → KeepsTickets b (after_stop b)
unfolding after_stop
keeps-stop b = record { added = (search-stop b).added; live = by b.stopped }
  where
    by : (stopped : Bool) → tickets_of (if stopped then b else stopped_board b).live ≡ tickets_of b.live
    by true = refl
    by false = tickets-marked b.live

-- a stopped board is stopped
pub stop-stops : (b : PlainBoard) → (after_stop b).stopped ≡ true
unfolding after_stop
stop-stops b = by b.stopped refl
  where
    by : (stopped : Bool) → b.stopped ≡ stopped → (if stopped then b else stopped_board b).stopped ≡ true
    by true is = is
    by false is = refl

-- ---- and whether it is stopped

pub going-none : (b : PlainBoard) → KeepsGoing b b
going-none b = record { keeps = keeps-none b; going = refl }

going-then : (a b c : PlainBoard) → KeepsGoing a b → KeepsGoing b c → KeepsGoing a c
going-then a b c one other = record { keeps = keeps-then a b c one.keeps other.keeps; going = other.going ∙ one.going }

-- marks don't pass a test that no mark passes
marks-fail : (test : Event → Bool) → ((number : ℕ) → test (Mark number) ≡ false) → (p : LiveTicket → Bool) (live : List LiveTicket)
    → filter test (mark_events p live) ≡ []
marks-fail test none p [] = refl
marks-fail test none p (l ∷ live) =
    filter-append test (mark_event p l) (mark_events p live) ∙ (λ i. one (p l && not l.marked) l.ticket.number i ++ marks-fail test none p live i)
  where
    one : (to_mark : Bool) (number : ℕ) → filter test (if to_mark then Mark number ∷ [] else []) ≡ []
    one true number = ap (λ passes. if passes then Mark number ∷ [] else []) (none number)
    one false number = refl

-- what an advance comes to, and where the board stands after it
abbrev pub StandsAfter : Advanced → BoardVerdict → Type 0
StandsAfter advanced.Moved p = Unit {0}
StandsAfter advanced.Waits p = (needs_run p ≡ true) × (is_done p ≡ false)
StandsAfter a p = (needs_run p ≡ false) × (is_done p ≡ true)

-- what a take comes to where a run is needed
abbrev pub IsTakeOfNeed : PlainBoard → Taken → Type 0
IsTakeOfNeed b (taken.Ticket t) = Unit {0}
IsTakeOfNeed b taken.Idle = tickets_of b.live ≡ [] → ⊥
IsTakeOfNeed b r = ⊥

-- live tickets without a ticket are none
pub none-live : (live : List LiveTicket) → tickets_of live ≡ [] → live ≡ []
none-live [] none = refl
none-live (l ∷ live) none = absurd (cc)

module _ (shown : Rules → List Reply → View) where
  -- live tickets are marked
  going-mark : (b : PlainBoard) → KeepsGoing b (after_mark shown b)
  unfolding after_mark
  going-mark b = record {
    keeps = record {
      added = record {
        events = mark_events (is_unwanted shown b) b.live;
        journal = refl;
        takes = marks-fail is_take (λ number. refl) (is_unwanted shown b) b.live;
        records = marks-fail is_record (λ number. refl) (is_unwanted shown b) b.live;
        problem = refl;
      };
      live = tickets-marked_if (is_unwanted shown b) b.live;
    };
    going = refl;
  }

  -- that leaves where the board stands
  board_verdict-marked : (b : PlainBoard) → board_verdict_of shown (after_mark shown b) ≡ board_verdict_of shown b
  unfolding after_mark board_verdict_of verdict_on
  board_verdict-marked b = refl

  -- an event of an advance
  advances : (b c : PlainBoard) → c.journal ≡ b.journal ++ Advance ∷ [] → c.problem ≡ b.problem → c.live ≡ b.live → c.stopped ≡ b.stopped → KeepsGoing b c
  advances b c journal problem live going = record {
    keeps = record {
      added = record { events = Advance ∷ []; journal = journal; takes = refl; records = refl; problem = problem };
      live = ap tickets_of live;
    };
    going = going;
  }

  going-wishes : (b : PlainBoard) → KeepsGoing b (with_wishes shown b)
  unfolding with_wishes
  going-wishes b = by (pointwise same_wish b.wishes (wishes_on shown b))
    where
      by : (same : Bool) → KeepsGoing b (if same then b else record b { wishes = wishes_on shown b; journal = b.journal ++ Advance ∷ [] })
      by true = going-none b
      by false = advances b (record b { wishes = wishes_on shown b; journal = b.journal ++ Advance ∷ [] }) refl refl refl refl

  going-by : (b : PlainBoard) (p : BoardVerdict) → KeepsGoing b (advanced_by shown b p)
  unfolding with_reply with_abort
  going-by b (board_verdict.Open (verdict.Reply r)) = advances b (with_reply shown b r) refl refl refl refl
  going-by b (board_verdict.Open (verdict.Need place cutoff)) = going-wishes b
  going-by b (board_verdict.Open (verdict.Aborted place)) = advances b (with_abort shown b place) refl refl refl refl
  going-by b p = going-none b

  -- the board advances
  going-advance : (b : PlainBoard) → KeepsGoing b (after_advance shown b)
  unfolding after_advance
  going-advance b = going-by b (board_verdict_of shown b)

  -- other wishes leave where the board stands
  board_verdict-wishes : (b : PlainBoard) → board_verdict_of shown (with_wishes shown b) ≡ board_verdict_of shown b
  unfolding with_wishes board_verdict_of verdict_on
  board_verdict-wishes b = by (pointwise same_wish b.wishes (wishes_on shown b))
    where
      by : (same : Bool) → board_verdict_of shown (if same then b else record b { wishes = wishes_on shown b; journal = b.journal ++ Advance ∷ [] }) ≡ board_verdict_of shown b
      by true = refl
      by false = refl

  -- a board with a cell that aborted needs no run any more
  board_verdict-abort : (b : PlainBoard) (place : ℕ) → (needs_run (board_verdict_of shown (with_abort shown b place)) ≡ false) × (is_done (board_verdict_of shown (with_abort shown b place)) ≡ true)
  unfolding with_abort board_verdict_of
  board_verdict-abort b place = by b.stopped
    where
      by : (stopped : Bool) → (needs_run (if stopped then board_verdict.Stopped else board_verdict.Aborted) ≡ false) × (is_done (if stopped then board_verdict.Stopped else board_verdict.Aborted) ≡ true)
      by true = (refl, refl)
      by false = (refl, refl)

  stands-by : (b : PlainBoard) (p : BoardVerdict) → board_verdict_of shown b ≡ p → StandsAfter (advanced_to p) (board_verdict_of shown (advanced_by shown b p))
  stands-by b (board_verdict.Open (verdict.Reply r)) is = tt
  stands-by b (board_verdict.Open (verdict.Need place cutoff)) is =
      let same = board_verdict-wishes b ∙ is in
      (ap needs_run same, ap is_done same)
  stands-by b (board_verdict.Open (verdict.Aborted place)) is = board_verdict-abort b place
  stands-by b p is = (ap needs_run is, ap is_done is)

  -- where the board stands after an advance that came to this
  stands-after : (b c : PlainBoard) (a : Advanced) → a ≡ advanced_on shown b → c ≡ after_advance shown b → StandsAfter a (board_verdict_of shown c)
  unfolding advanced_on after_advance
  stands-after b c a came is =
      subst (λ x. StandsAfter x (board_verdict_of shown c)) (sym came)
      (subst (λ d. StandsAfter (advanced_to (board_verdict_of shown b)) (board_verdict_of shown d)) (sym is) (stands-by b (board_verdict_of shown b) refl))

  -- ---- where a run is needed a take gives a ticket, or a live one runs already

  need-beside : (b : PlainBoard) (needed : Cell) (t : Ticket) (running : Bool) → has_ticket b.live needed ≡ running
      → IsTakeOfNeed b (if running then taken_ahead b (find (is_free b needed) b.wishes) else taken.Ticket t)
  unfolding has_ticket
  need-beside b needed t false is = tt
  need-beside b needed t true is = ahead (find (is_free b needed) b.wishes)
    where
      ahead : (o : Option Wish) → IsTakeOfNeed b (taken_ahead b o)
      ahead None = λ none.
          let empty = none-live b.live none in
          let e : false ≡ true = sym (ap (λ live. has_ticket live needed) empty) ∙ is in
          absurd (cc)
      ahead (Some w) = tt

  need-by : (b : PlainBoard) (p : BoardVerdict) → needs_run p ≡ true → IsTakeOfNeed b (taken_by shown b p)
  unfolding has_ticket
  need-by b (board_verdict.Open (verdict.Need place cutoff)) needs =
      need-beside b (asked_cell shown b place) _ (has_ticket b.live (asked_cell shown b place)) refl
  need-by b p needs = absurd (let e : false ≡ true = needs in cc)

  take-needed : (b : PlainBoard) (r : Taken) → needs_run (board_verdict_of shown b) ≡ true → r ≡ taken_on shown b → IsTakeOfNeed b r
  unfolding taken_on
  take-needed b r needs is = subst (IsTakeOfNeed b) (sym is) (need-by b (board_verdict_of shown b) needs)

  -- ---- the parts of a turn

  -- one more advance
  pub going-more : (a b c : PlainBoard) → KeepsGoing a b → c ≡ after_advance shown b → KeepsGoing a c
  going-more a b c keeps is = going-then a b c keeps (subst (KeepsGoing b) (sym is) (going-advance b))

  -- the last advance
  pub advanced-so : (a b c : PlainBoard) (x y : Advanced) (needed : Bool) → KeepsGoing a b → x ≡ advanced_on shown b → c ≡ after_advance shown b → x ≡ y
      → ((p : BoardVerdict) → StandsAfter y p → (needs_run p ≡ needed) × (is_done p ≡ not needed)) → AdvancedTo shown needed a c
  advanced-so a b c x y needed keeps came is same stands =
      let P : Advanced → Type 0 = λ z. StandsAfter z (board_verdict_of shown c) in
      let both = stands (board_verdict_of shown c) (subst P same (stands-after b c x came is)) in
      record { keeps = going-more a b c keeps is; needs = both.0; done = both.1 }

  -- it ended there
  pub advanced-over : (a b c : PlainBoard) (x : Advanced) → KeepsGoing a b → x ≡ advanced_on shown b → c ≡ after_advance shown b
      → (x ≡ advanced.Ended) ⊎ ((x ≡ advanced.Aborted) ⊎ (x ≡ advanced.Stopped)) → AdvancedTo shown false a c
  advanced-over a b c x keeps came is which = by which
    where
      by : (x ≡ advanced.Ended) ⊎ ((x ≡ advanced.Aborted) ⊎ (x ≡ advanced.Stopped)) → AdvancedTo shown false a c
      by (inl e) = advanced-so a b c x advanced.Ended false keeps came is e (λ p stands. stands)
      by (inr (inl e)) = advanced-so a b c x advanced.Aborted false keeps came is e (λ p stands. stands)
      by (inr (inr e)) = advanced-so a b c x advanced.Stopped false keeps came is e (λ p stands. stands)

  -- marks after the advances
  pub marked-so : (a b c : PlainBoard) (needed : Bool) → AdvancedTo shown needed a b → c ≡ after_mark shown b → AdvancedTo shown needed a c
  marked-so a b c needed to is =
      let stands : board_verdict_of shown c ≡ board_verdict_of shown b = ap (board_verdict_of shown) is ∙ board_verdict-marked b in
      record {
        keeps = going-then a b c to.keeps (subst (KeepsGoing b) (sym is) (going-mark b));
        needs = ap needs_run stands ∙ to.needs;
        done = ap is_done stands ∙ to.done;
      }

  -- what a take comes to then, where a run is needed
  need-so : (a b : PlainBoard) (needed : Bool) (r x : Taken) → AdvancedTo shown needed a b → needed ≡ true → r ≡ taken_on shown b → r ≡ x → IsTakeOfNeed b x
  need-so a b needed r x to some came same = subst (IsTakeOfNeed b) same (take-needed b r (to.needs ∙ some) came)

  -- a ticket is given, or the needed run is being made
  pub need-never : (a b : PlainBoard) (needed : Bool) (r : Taken) → AdvancedTo shown needed a b → needed ≡ true → r ≡ taken_on shown b
      → (r ≡ taken.Decided) ⊎ ((r ≡ taken.Ended) ⊎ (r ≡ taken.Stopped)) → ⊥
  need-never a b needed r to some came which = by which
    where
      by : (r ≡ taken.Decided) ⊎ ((r ≡ taken.Ended) ⊎ (r ≡ taken.Stopped)) → ⊥
      by (inl e) = need-so a b needed r taken.Decided to some came e
      by (inr (inl e)) = need-so a b needed r taken.Ended to some came e
      by (inr (inr e)) = need-so a b needed r taken.Stopped to some came e

  -- a ticket was given
  pub took-so : (a b c : PlainBoard) (needed : Bool) (r : Taken) (seat seat' : SeatState) (t : Ticket) → AdvancedTo shown needed a b
      → r ≡ taken_on shown b → r ≡ taken.Ticket t → c ≡ after_take shown b → seat' ≡ record seat { tickets = seat.tickets ++ t ∷ [] }
      → TookTicket shown a c seat seat'
  unfolding after_take
  took-so a b c needed r seat seat' t to came same after list = record {
    one = record { ticket = t; list = list };
    between = b;
    keeps = to.keeps.keeps;
    given = sym came ∙ same;
    after = after ∙ ap (with_taken b) (sym came ∙ same);
  }

  -- none was
  pub idle-so : (a b c : PlainBoard) (needed : Bool) (r : Taken) (seat seat' : SeatState) → AdvancedTo shown needed a b → needed ≡ true
      → r ≡ taken_on shown b → r ≡ taken.Idle → c ≡ after_take shown b → seat' ≡ seat → StayedIdle shown a c seat seat'
  unfolding after_take
  idle-so a b c needed r seat seat' to some came same after list =
      let still : c ≡ b = after ∙ ap (with_taken b) (sym came ∙ same) in
      record {
        keeps = subst (KeepsTickets a) (sym still) to.keeps.keeps;
        none = ap (taken_on shown) still ∙ sym came ∙ same;
        busy = λ none. need-so a b needed r taken.Idle to some came same (to.keeps.keeps.live ∙ none);
        same = list;
      }

  -- there was no memory
  pub short-so : (a b c : PlainBoard) (seat now seat' : SeatState) → KeepsGoing a b → c ≡ after_stop b → now ≡ seat → seat' ≡ record now { short = true }
      → RanShort shown a c seat seat'
  short-so a b c seat now seat' keeps is same noted =
      let short : SeatState → SeatState = λ s. record s { short = true } in
      record {
        keeps = keeps-then a b c keeps.keeps (subst (KeepsTickets b) (sym is) (keeps-stop b));
        stopped = ap (λ x. x.stopped) is ∙ stop-stops b;
        noted = noted ∙ ap short same;
      }
