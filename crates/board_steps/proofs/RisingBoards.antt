-- The recorded runs of a board, after each of its steps.
use Rattle.std.proofs.Common.{ℕ, ◌≡◌, ◌-◌, ◌++◌, ◌⊎◌, ◌&&◌, not, Bool, true, false, List, [], ◌∷◌, Some, None, refl, sym, ap, subst, ◌∙◌, inl, inr, arith, if◌then◌else◌}
use Rattle.std.specs.Prelude.{IfSome, IsSomeAnd}
use Rattle.std.specs.List.{find, slice_get, position_or_len}
use Rattle.std.specs.Cmp.Lexicographic.{pointwise}
use Rattle.std.proofs.lemmas.Bool.{not-true}
use Rattle.std.proofs.lemmas.List.Elements.{All-nil}
use Rattle.std.proofs.lemmas.List.Folds.{find_at}
use Rattle.std.proofs.lemmas.List.Sums.{passes_at_first}
use Rattle.std.proofs.lemmas.Option.{none-some, get_or_from_slice_get, slice_get_within}
use Rattle.objective.specs.Bounds.{Bounds}
use Rattle.objective.specs.declared.Answer.{Answer}
use Rattle.objective.specs.declared.Micros.{Micros}
use Rattle.uncapped.specs.Procedure.{Question}
use Rattle.ils_face.specs.declared.asks.Ask.{Ask}
use Rattle.ils_face.specs.declared.asks.Ask.TheVariants.{Full, Versus, End}
use Rattle.ils_face.specs.declared.asks.Reply.{Reply}
use Rattle.ils_face.specs.Rules.{Rules}
use Rattle.ils_face.specs.Traces.{question_of}
use Rattle.ils_face.specs.Views.{View}
use Rattle.run_cache.specs.declared.cell.Cell.{Cell}
use Rattle.run_cache.specs.declared.known.Known.TheVariants.{Nothing}
use Rattle.run_cache.specs.Knowledge.{is_settled}
use Rattle.run_cache.specs.Caches.{Knowledge}
use Rattle.run_cache.proofs.FirstKnowledge.{rising_first}
use Rattle.capping.specs.declared.verdicts.Verdict.TheVariants as verdict
use Rattle.capping.specs.Verdicts.{verdict_of}
use Rattle.capping.specs.Decisions.{IsNeeded, IfNeedOf, AreRanged}
use Rattle.capping.proofs.Promises.{needs}
use Rattle.predictor.specs.declared.wish.Wish.{Wish}
use Rattle.predictor.proofs.PresentWishes.{with_no_room}
use Rattle.board_steps.specs.declared.answers.Taken.TheVariants as taken
use Rattle.board_steps.specs.declared.events.Event.TheVariants.{Advance, Lost, Killed, Stop, Resume}
use Rattle.board_steps.specs.declared.tickets.Kind.TheVariants.{Asked}
use Rattle.board_steps.specs.declared.tickets.LiveTicket.{LiveTicket}
use Rattle.board_steps.specs.declared.tickets.Ticket.{Ticket}
use Rattle.board_steps.specs.Boards.{PlainBoard, opening}
use Rattle.board_steps.specs.Numbering.{AreNumbered, tickets_of}
use Rattle.board_steps.specs.BoardVerdicts.{config_of, ask_on, verdict_on, asked_cell, wishes_on}
use Rattle.board_steps.specs.Problem.{Problem}
use Rattle.board_steps.specs.Steps.{same_wish, ticket_for, is_free, known_from, with_ticket, with_answer, with_loss, with_kill, marked_board, with_reply, with_wishes, with_abort, taken_on, stopped_board, resumed_board}
use Rattle.board_steps.specs.Tickets.{same_cell, has_ticket, has_cell, live_at, without}
use Rattle.board_steps.specs.JournalRuns.{AreTaken}
use Rattle.board_steps.specs.RecordedRuns.{IsAskedTake, IsUnsettled, AreRising}
use Rattle.board_steps.proofs.GivenTickets.{verdict-open, IsNeededTicket, IsAheadTicket, given}
use Rattle.board_steps.proofs.JournalRuns.{runs-answer}
use Rattle.board_steps.proofs.LiveTickets.{tickets-marked, tickets-marked_if, tickets-push, all-without}
use Rattle.board_steps.proofs.Ranges.{and-right}
use Rattle.board_steps.proofs.RecordedRuns.{recorded-other, recorded-tickets, recorded-marks, recorded-take, recorded-answer}

-- ---- tickets

-- what is found passes
found-passes : {X : Type 0} (p : X → Bool) (xs : List X) (x : X) → find p xs ≡ Some x → p x ≡ true
found-passes p xs x found =
    let at : slice_get xs (position_or_len p xs) ≡ Some x = sym (find_at p xs) ∙ found in
    let within = slice_get_within xs (position_or_len p xs) x at in
    ap p (sym (get_or_from_slice_get xs (position_or_len p xs) x x at)) ∙ passes_at_first p xs x within

-- a needed place, by the ask that it is of
needed-unsettled : (limits : Bounds) (known : Knowledge) (ask : Ask) (place cutoff : ℕ) → IsSomeAnd (question_of ask) (IsNeeded limits known place cutoff)
    → is_settled (known (config_of ask) place) cutoff ≡ false
needed-unsettled limits known (Full θ n) place cutoff n_is = n_is.unsettled
needed-unsettled limits known (Versus θ n bound) place cutoff n_is = n_is.unsettled
needed-unsettled limits known End place cutoff n_is = absurd n_is

-- what is known lies in its range, at what is asked for too
ranged-asked : (limits : Bounds) (known : Knowledge) (ask : Ask) → ((q : Question) → AreRanged limits known q) → IfSome (question_of ask) (AreRanged limits known)
ranged-asked limits known (Full θ n) ranged = ranged (record { config = θ; places = n; bound = None })
ranged-asked limits known (Versus θ n bound) ranged = ranged (record { config = θ; places = n; bound = Some bound.0 })
ranged-asked limits known End ranged = tt

-- the place that a verdict needs isn't settled at the cutoff
pub verdict-unsettled : (limits : Bounds) (known : Knowledge) (ask : Ask) (place : ℕ) (cutoff : Micros) → ((q : Question) → AreRanged limits known q)
    → verdict_of limits known ask ≡ verdict.Need place cutoff → is_settled (known (config_of ask) place) cutoff.0 ≡ false
verdict-unsettled limits known ask place cutoff ranged needs_it =
    needed-unsettled limits known ask place cutoff.0 (subst (λ v. IfNeedOf v ask (IsNeeded limits known)) needs_it (needs limits known ask (ranged-asked limits known ask ranged)))

-- a wish that is free isn't settled
free-unsettled : (b : PlainBoard) (needed : Cell) (w : Wish) → is_free b needed w ≡ true → is_settled (b.known w.cell.config w.cell.place) w.cutoff.0 ≡ false
unfolding is_free
free-unsettled b needed w free =
    not-true (is_settled (b.known w.cell.config w.cell.place) w.cutoff.0)
    (and-right (not (has_ticket b.live w.cell) && not (has_cell b.lost_ahead w.cell) && not (same_cell needed w.cell)) (not (is_settled (b.known w.cell.config w.cell.place) w.cutoff.0)) free)

module _ (shown : Rules → List Reply → View) where
  -- a needed ticket's run tells more
  needed-more : (b : PlainBoard) (t : Ticket) → ((q : Question) → AreRanged b.problem.rules.limits b.known q) → IsNeededTicket shown b t → IsUnsettled b.known t
  unfolding verdict_on ticket_for asked_cell
  needed-more b t ranged n =
      let needs_it = verdict-open shown b (verdict.Need n.place n.cutoff) n.stands in
      subst (IsUnsettled b.known) (sym n.ticket) (verdict-unsettled b.problem.rules.limits b.known (ask_on shown b) n.place n.cutoff ranged needs_it)

  -- so does a ticket ahead
  ahead-more : (b : PlainBoard) (t : Ticket) → IsAheadTicket shown b t → IsUnsettled b.known t
  unfolding ticket_for
  ahead-more b t a =
      let free = found-passes (is_free b (asked_cell shown b a.place)) b.wishes a.wish a.free in
      subst (IsUnsettled b.known) (sym a.ticket) (free-unsettled b (asked_cell shown b a.place) a.wish free)

  -- a ticket that is given tells more
  pub given-unsettled : (b : PlainBoard) (t : Ticket) → taken_on shown b ≡ taken.Ticket t → ((q : Question) → AreRanged b.problem.rules.limits b.known q)
      → IsUnsettled b.known t
  given-unsettled b t offered ranged = elim (given shown b t offered) [
    | inl n ↦ needed-more b t ranged n
    | inr a ↦ ahead-more b t a
  ]

  -- without wishes it is asked for
  given-asked : (b : PlainBoard) (t : Ticket) → b.wishes ≡ [] → IsNeededTicket shown b t ⊎ IsAheadTicket shown b t → t.kind ≡ Asked
  unfolding ticket_for
  given-asked b t none (inl n) = ap (λ u. u.kind) n.ticket
  given-asked b t none (inr a) =
      let P = is_free b (asked_cell shown b a.place) in
      absurd (none-some a.wish (sym (ap (find P) none) ∙ a.free))

  -- a single worker has no wishes
  single-wishes : (b : PlainBoard) → b.problem.rules.workers ≡ 1 → wishes_on shown b ≡ []
  unfolding wishes_on
  single-wishes b alone =
      let seats : b.problem.rules.workers - 1 ≡ 0 = omega (arith, alone) in
      rw seats (with_no_room (shown b.problem.rules) b.problem.rules.limits b.known b.replies (ask_on shown b) (verdict_of b.problem.rules.limits b.known (ask_on shown b)))

  -- ---- steps

  -- the search is answered
  pub rising-reply : (b : PlainBoard) (r : Reply) → AreRising b → AreRising (with_reply shown b r)
  unfolding with_reply
  rising-reply b r are = record {
    runs = recorded-other b.problem.rules b.known (tickets_of b.live) b.journal Advance refl tt are.runs;
    wishes = λ alone. single-wishes (record b { replies = b.replies ++ r ∷ [] }) alone;
  }

  -- there may be other wishes
  pub rising-wishes : (b : PlainBoard) → AreRising b → AreRising (with_wishes shown b)
  unfolding with_wishes
  rising-wishes b are = by (pointwise same_wish b.wishes (wishes_on shown b))
    where
      by : (same : Bool) → AreRising (if same then b else record b { wishes = wishes_on shown b; journal = b.journal ++ Advance ∷ [] })
      by true = are
      by false = record {
        runs = recorded-other b.problem.rules b.known (tickets_of b.live) b.journal Advance refl tt are.runs;
        wishes = λ alone. single-wishes b alone;
      }

  -- the walk of the present ask came to an abort
  pub rising-abort : (b : PlainBoard) (place : ℕ) → AreRising b → AreRising (with_abort shown b place)
  unfolding with_abort
  rising-abort b place are = record {
    runs = recorded-other b.problem.rules b.known (tickets_of b.live) b.journal Advance refl tt are.runs;
    wishes = λ alone. refl;
  }

  -- a ticket is taken, whose run tells more
  pub rising-given : (b : PlainBoard) (t : Ticket) → taken_on shown b ≡ taken.Ticket t → IsUnsettled b.known t → AreRising b → AreRising (with_ticket b t)
  rising-given b t offered tells_more are = record {
    runs = rw (tickets-push b.live t) (recorded-take b.problem.rules b.known (tickets_of b.live) b.journal t tells_more
        (λ alone. given-asked b t (are.wishes alone) (given shown b t offered)) are.runs);
    wishes = are.wishes;
  }

  -- a ticket is taken, where what is known lies in its range
  pub rising-ticket : (b : PlainBoard) (t : Ticket) → taken_on shown b ≡ taken.Ticket t → ((q : Question) → AreRanged b.problem.rules.limits b.known q)
      → AreRising b → AreRising (with_ticket b t)
  rising-ticket b t offered ranged are = rising-given b t offered (given-unsettled b t offered ranged) are

-- the opening board
pub rising-opening : (problem : Problem) → AreRising (opening problem)
rising-opening problem = record {
  runs = record {
    rising = rising_first;
    backed = record { cells = λ cell. λ run of. none-some run of.among };
    unsettled = All-nil (IsUnsettled (λ config place. Nothing));
    asked = λ alone. All-nil IsAskedTake;
  };
  wishes = λ alone. refl;
}

-- an answer is learnt
pub rising-answer : (b : PlainBoard) (answer : Answer) (l : LiveTicket) → live_at b.live l.ticket.number ≡ Some l
    → AreNumbered b.problem (tickets_of b.live) b.next b.journal → AreTaken b → AreRising b → AreRising (with_answer b answer l)
unfolding with_answer known_from
rising-answer b answer l found n are_taken are = record {
  runs = recorded-answer b.problem.rules b.known b.live b.journal answer l found (n.cells l.ticket.cell) (runs-answer b answer l found are_taken) are.runs;
  wishes = are.wishes;
}

-- the run of a live ticket can't be made
pub rising-loss : (b : PlainBoard) (l : LiveTicket) → AreRising b → AreRising (with_loss b l)
unfolding with_loss
rising-loss b l are = record {
  runs = recorded-tickets b.problem.rules b.known (tickets_of b.live) (tickets_of (without b.live l.ticket.number)) (b.journal ++ Lost l.ticket.number ∷ [])
      (all-without (IsUnsettled b.known) b.live l.ticket.number are.runs.unsettled)
      (recorded-other b.problem.rules b.known (tickets_of b.live) b.journal (Lost l.ticket.number) refl tt are.runs);
  wishes = are.wishes;
}

-- the run of a live ticket is given up
pub rising-kill : (b : PlainBoard) (l : LiveTicket) → AreRising b → AreRising (with_kill b l)
unfolding with_kill
rising-kill b l are = record {
  runs = recorded-tickets b.problem.rules b.known (tickets_of b.live) (tickets_of (without b.live l.ticket.number)) (b.journal ++ Killed l.ticket.number ∷ [])
      (all-without (IsUnsettled b.known) b.live l.ticket.number are.runs.unsettled)
      (recorded-other b.problem.rules b.known (tickets_of b.live) b.journal (Killed l.ticket.number) refl tt are.runs);
  wishes = are.wishes;
}

-- live tickets are marked
pub rising-marks : (b : PlainBoard) (p : LiveTicket → Bool) → AreRising b → AreRising (marked_board b p)
rising-marks b p are = record {
  runs = rw (tickets-marked_if p b.live) (recorded-marks b.problem.rules b.known (tickets_of b.live) b.journal p b.live are.runs);
  wishes = are.wishes;
}

-- a board is stopped
pub rising-stop : (b : PlainBoard) → AreRising b → AreRising (stopped_board b)
rising-stop b are = record {
  runs = rw (tickets-marked b.live) (recorded-other b.problem.rules b.known (tickets_of b.live) b.journal Stop refl tt are.runs);
  wishes = are.wishes;
}

-- a board goes on
pub rising-resume : (b : PlainBoard) → AreRising b → AreRising (resumed_board b)
rising-resume b are = record {
  runs = recorded-tickets b.problem.rules b.known (tickets_of b.live) [] (b.journal ++ Resume ∷ []) (All-nil (IsUnsettled b.known))
      (recorded-other b.problem.rules b.known (tickets_of b.live) b.journal Resume refl tt are.runs);
  wishes = are.wishes;
}
