-- The runs of a journal, and the events that took the live tickets.
use Rattle.std.proofs.Common.{ℕ, ◌≡◌, ◌<◌, ◌+◌, ◌-◌, ◌==◌, ◌++◌, ◌&&◌, not, Bool, true, false, List, [], ◌∷◌, Option, Some, All, filter, get_or, refl, sym, ap, ◌∙◌, arith, subst, if◌then◌else◌}
use Rattle.std.specs.Cmp.Lexicographic.{pointwise}
use Rattle.std.specs.List.{flat_map, slice_get, range_with_len}
use Rattle.std.proofs.lemmas.Bool.{eq-eqb, ne_eqb}
use Rattle.std.proofs.lemmas.List.{append_assoc, append-nil, length-map, get_or-map}
use Rattle.std.proofs.lemmas.List.Elements.{filter-append, All-nil, All-push, All-weaker, All-get_or, All-cons, All-head, All-tail}
use Rattle.std.proofs.lemmas.List.Folds.{find_at}
use Rattle.std.proofs.lemmas.Option.{get_or_from_slice_get, slice_get_within}
use Rattle.objective.specs.declared.Answer.{Answer}
use Rattle.ils_face.specs.declared.asks.Reply.{Reply}
use Rattle.ils_face.specs.Rules.{Rules}
use Rattle.ils_face.specs.Views.{View}
use Rattle.board_steps.specs.declared.events.Event.{Event}
use Rattle.board_steps.specs.declared.events.Event.TheVariants.{Advance, Take, Record, Lost, Mark, Killed, Stop, Resume}
use Rattle.board_steps.specs.declared.tickets.LiveTicket.{LiveTicket}
use Rattle.board_steps.specs.declared.tickets.Ticket.{Ticket}
use Rattle.board_steps.specs.Boards.{PlainBoard, opening}
use Rattle.board_steps.specs.Ledgers.{take_event}
use Rattle.board_steps.specs.Numbering.{IsTicket, AreNumbered, numbers_taken, tickets_of}
use Rattle.board_steps.specs.BoardVerdicts.{wishes_on}
use Rattle.board_steps.specs.Problem.{Problem}
use Rattle.board_steps.specs.Steps.{with_ticket, with_answer, with_loss, with_kill, with_reply, with_wishes, with_abort, same_wish, marked_board, stopped_board, resumed_board}
use Rattle.board_steps.specs.Tickets.{has_number, live_at, position_of, without, mark_event, mark_events}
use Rattle.board_steps.specs.JournalRuns.{takes, run_taken, recorded_in, runs_after, runs_of, run_of, IsTakenIn, AreTaken}
use Rattle.board_steps.proofs.LiveTickets.{tickets-marked, tickets-marked_if, tickets-push, all-without}
use Rattle.board_steps.proofs.Ranges.{range-below, lower-differs}

-- ---- journals with one more event

-- the runs of a journal with more at its end
runs_after-append : (before journal more : List Event) → runs_after before (journal ++ more) ≡ runs_after before journal ++ runs_after (before ++ journal) more
runs_after-append before [] more = ap (λ es. runs_after es more) (sym (append-nil before))
runs_after-append before (e ∷ journal) more =
    ap (λ rs. recorded_in before e ++ rs) (runs_after-append (before ++ e ∷ []) journal more
    ∙ ap (λ es. runs_after (before ++ e ∷ []) journal ++ runs_after es more) (append_assoc before (e ∷ []) journal))
    ∙ sym (append_assoc (recorded_in before e) (runs_after (before ++ e ∷ []) journal) (runs_after (before ++ e ∷ journal) more))

-- one more event
pub runs-push : (journal : List Event) (e : Event) → runs_of (journal ++ e ∷ []) ≡ runs_of journal ++ recorded_in journal e
runs-push journal e = runs_after-append [] journal (e ∷ []) ∙ ap (λ rs. runs_of journal ++ rs) (append-nil (recorded_in journal e))

-- one more event that records nothing
pub runs-other : (journal : List Event) (e : Event) → recorded_in journal e ≡ [] → runs_of (journal ++ e ∷ []) ≡ runs_of journal
runs-other journal e none = runs-push journal e ∙ ap (λ rs. runs_of journal ++ rs) none ∙ append-nil (runs_of journal)

-- a live ticket is marked, where it is to be
runs-mark : (journal : List Event) (to_mark : Bool) (number : ℕ) → runs_of (journal ++ (if to_mark then Mark number ∷ [] else [])) ≡ runs_of journal
runs-mark journal true number = runs-other journal (Mark number) refl
runs-mark journal false number = ap runs_of (append-nil journal)

-- live tickets are marked
pub runs-marks : (journal : List Event) (p : LiveTicket → Bool) (live : List LiveTicket) → runs_of (journal ++ mark_events p live) ≡ runs_of journal
runs-marks journal p [] = ap runs_of (append-nil journal)
runs-marks journal p (l ∷ live) =
    ap runs_of (sym (append_assoc journal (mark_event p l) (mark_events p live))) ∙ runs-marks (journal ++ mark_event p l) p live
    ∙ runs-mark journal (p l && not l.marked) l.ticket.number

-- ---- live tickets

-- a live ticket has what all tickets have
pub of-live : (P : Ticket → Type 0) (live : List LiveTicket) (l : LiveTicket) → live_at live l.ticket.number ≡ Some l → All P (tickets_of live) → P l.ticket
of-live P live l found all =
    let i = position_of live l.ticket.number in
    let at : ◌≡◌ {A = Option LiveTicket} (slice_get live i) (Some l) = sym (find_at (has_number l.ticket.number) live) ∙ found in
    let within = slice_get_within live i l at in
    let ticket : get_or (tickets_of live) i l.ticket ≡ l.ticket = get_or-map (λ k. k.ticket) live i l l.ticket within ∙ ap (λ k. k.ticket) (get_or_from_slice_get live i l l at) in
    subst P ticket (All-get_or P (tickets_of live) i l.ticket (omega (arith, within, length-map live (λ k. k.ticket))) all)

-- no event took a number above all those that were taken
none-takes : (number : ℕ) (journal : List Event) → All (λ m. m < number) (numbers_taken journal) → filter (takes number) journal ≡ []
none-takes number [] below = refl
none-takes number (Advance ∷ journal) below = none-takes number journal below
none-takes number (Take kind taken cell cutoff asked_at ∷ journal) below =
    let P : ℕ → Type 0 = λ m. m < number in
    let other = lower-differs taken number (All-head P taken (numbers_taken journal) below) in
    ap (λ b. if b then Take kind taken cell cutoff asked_at ∷ filter (takes number) journal else filter (takes number) journal) other
    ∙ none-takes number journal (All-tail P taken (numbers_taken journal) below)
none-takes number (Record ended answer ∷ journal) below = none-takes number journal below
none-takes number (Lost ended ∷ journal) below = none-takes number journal below
none-takes number (Mark marked ∷ journal) below = none-takes number journal below
none-takes number (Killed ended ∷ journal) below = none-takes number journal below
none-takes number (Stop ∷ journal) below = none-takes number journal below
none-takes number (Resume ∷ journal) below = none-takes number journal below

-- the numbers that were taken lie below the next one
taken-below : (problem : Problem) (tickets : List Ticket) (next : ℕ) (journal : List Event) → AreNumbered problem tickets next journal
    → All (λ m. m < next) (numbers_taken journal)
taken-below problem tickets next journal n =
    let P : List ℕ → Type 0 = λ xs. All (λ m. m < next) xs in
    subst P (sym n.taken) (All-weaker (λ m. m < 1 + (next - 1)) (λ m. m < next) (λ m below. omega (arith, below, n.first)) (range_with_len 1 (next - 1)) (range-below 1 (next - 1)))

-- a ticket that was taken stays so while no event takes its number
taken-more : (journal more : List Event) (t : Ticket) → filter (takes t.number) more ≡ [] → IsTakenIn journal t → IsTakenIn (journal ++ more) t
taken-more journal more t none is =
    filter-append (takes t.number) journal more ∙ ap (λ es. filter (takes t.number) journal ++ es) none ∙ append-nil (filter (takes t.number) journal) ∙ is

-- so do all
all-more : (tickets : List Ticket) (journal : List Event) (e : Event) → ((number : ℕ) → takes number e ≡ false) → All (IsTakenIn journal) tickets
    → All (IsTakenIn (journal ++ e ∷ [])) tickets
all-more tickets journal e none all =
    All-weaker (IsTakenIn journal) (IsTakenIn (journal ++ e ∷ []))
    (λ t is. taken-more journal (e ∷ []) t (ap (λ b. if b then e ∷ [] else []) (none t.number)) is) tickets all

-- marking takes no ticket
mark-takes : (number marked : ℕ) (to_mark : Bool) → filter (takes number) (if to_mark then Mark marked ∷ [] else []) ≡ []
mark-takes number marked true = refl
mark-takes number marked false = refl

marks-take : (number : ℕ) (p : LiveTicket → Bool) (live : List LiveTicket) → filter (takes number) (mark_events p live) ≡ []
marks-take number p [] = refl
marks-take number p (l ∷ live) =
    filter-append (takes number) (mark_event p l) (mark_events p live)
    ∙ (λ i. mark-takes number l.ticket.number (p l && not l.marked) i ++ marks-take number p live i)

-- ---- each step

pub taken-opening : (problem : Problem) → AreTaken (opening problem)
taken-opening problem = record { each = All-nil (IsTakenIn []) }

pub taken-ticket : (b : PlainBoard) (t : Ticket) → t.number ≡ b.next → AreNumbered b.problem (tickets_of b.live) b.next b.journal → AreTaken b → AreTaken (with_ticket b t)
taken-ticket b t number n are =
    let journal = b.journal ++ take_event t ∷ [] in
    let none : filter (takes t.number) b.journal ≡ [] = ap (λ m. filter (takes m) b.journal) number ∙ none-takes b.next b.journal (taken-below b.problem (tickets_of b.live) b.next b.journal n) in
    let last : filter (takes t.number) (take_event t ∷ []) ≡ take_event t ∷ [] = ap (λ b. if b then take_event t ∷ [] else []) (eq-eqb t.number t.number refl) in
    let new : IsTakenIn journal t = filter-append (takes t.number) b.journal (take_event t ∷ []) ∙ ap (λ es. es ++ filter (takes t.number) (take_event t ∷ [])) none ∙ last in
    let old : All (IsTakenIn journal) (tickets_of b.live) = kept (tickets_of b.live) n.each are.each in
    record { each = rw (tickets-push b.live t) (All-push (IsTakenIn journal) (tickets_of b.live) t old new) }
  where
    other : (u : Ticket) → IsTicket b.problem b.next u → IsTakenIn b.journal u → IsTakenIn (b.journal ++ take_event t ∷ []) u
    other u is before =
        let differs : (t.number == u.number) ≡ false = ne_eqb t.number u.number (λ same. omega (arith, is.below, number, same)) in
        taken-more b.journal (take_event t ∷ []) u (ap (λ b. if b then take_event t ∷ [] else []) differs) before

    kept : (us : List Ticket) → All (IsTicket b.problem b.next) us → All (IsTakenIn b.journal) us → All (IsTakenIn (b.journal ++ take_event t ∷ [])) us
    kept [] each before = All-nil (IsTakenIn (b.journal ++ take_event t ∷ []))
    kept (u ∷ us) each before =
        let P = IsTicket b.problem b.next in
        let Q = IsTakenIn b.journal in
        All-cons (IsTakenIn (b.journal ++ take_event t ∷ [])) u us (other u (All-head P u us each) (All-head Q u us before)) (kept us (All-tail P u us each) (All-tail Q u us before))

pub taken-answer : (b : PlainBoard) (answer : Answer) (l : LiveTicket) → AreTaken b → AreTaken (with_answer b answer l)
unfolding with_answer
taken-answer b answer l are =
    record { each = all-more (tickets_of (without b.live l.ticket.number)) b.journal (Record l.ticket.number answer) (λ n. refl) (all-without (IsTakenIn b.journal) b.live l.ticket.number are.each) }

pub taken-loss : (b : PlainBoard) (l : LiveTicket) → AreTaken b → AreTaken (with_loss b l)
unfolding with_loss
taken-loss b l are =
    record { each = all-more (tickets_of (without b.live l.ticket.number)) b.journal (Lost l.ticket.number) (λ n. refl) (all-without (IsTakenIn b.journal) b.live l.ticket.number are.each) }

pub taken-kill : (b : PlainBoard) (l : LiveTicket) → AreTaken b → AreTaken (with_kill b l)
unfolding with_kill
taken-kill b l are =
    record { each = all-more (tickets_of (without b.live l.ticket.number)) b.journal (Killed l.ticket.number) (λ n. refl) (all-without (IsTakenIn b.journal) b.live l.ticket.number are.each) }

pub taken-marks : (b : PlainBoard) (p : LiveTicket → Bool) → AreTaken b → AreTaken (marked_board b p)
taken-marks b p are =
    let more : All (IsTakenIn (b.journal ++ mark_events p b.live)) (tickets_of b.live) =
    All-weaker (IsTakenIn b.journal) (IsTakenIn (b.journal ++ mark_events p b.live))
    (λ t is. taken-more b.journal (mark_events p b.live) t (marks-take t.number p b.live) is) (tickets_of b.live) are.each in
    record { each = rw (tickets-marked_if p b.live) more }

pub taken-stop : (b : PlainBoard) → AreTaken b → AreTaken (stopped_board b)
taken-stop b are = record { each = rw (tickets-marked b.live) (all-more (tickets_of b.live) b.journal Stop (λ n. refl) are.each) }

pub taken-resume : (b : PlainBoard) → AreTaken (resumed_board b)
taken-resume b = record { each = All-nil (IsTakenIn (b.journal ++ Resume ∷ [])) }

module _ (shown : Rules → List Reply → View) where
  pub taken-reply : (b : PlainBoard) (r : Reply) → AreTaken b → AreTaken (with_reply shown b r)
  unfolding with_reply
  taken-reply b r are = record { each = all-more (tickets_of b.live) b.journal Advance (λ n. refl) are.each }

  pub taken-abort : (b : PlainBoard) (place : ℕ) → AreTaken b → AreTaken (with_abort shown b place)
  unfolding with_abort
  taken-abort b place are = record { each = all-more (tickets_of b.live) b.journal Advance (λ n. refl) are.each }

  pub taken-wishes : (b : PlainBoard) → AreTaken b → AreTaken (with_wishes shown b)
  unfolding with_wishes
  taken-wishes b are = at (pointwise same_wish b.wishes (wishes_on shown b))
    where
      at : (same : Bool) → AreTaken (if same then b else record b { wishes = wishes_on shown b; journal = b.journal ++ Advance ∷ [] })
      at true = are
      at false = record { each = all-more (tickets_of b.live) b.journal Advance (λ n. refl) are.each }

-- ---- a recorded answer

-- the answer of a live ticket is recorded: its run
pub runs-answer : (b : PlainBoard) (answer : Answer) (l : LiveTicket) → live_at b.live l.ticket.number ≡ Some l → AreTaken b
    → runs_of (b.journal ++ Record l.ticket.number answer ∷ []) ≡ runs_of b.journal ++ run_of l.ticket answer ∷ []
runs-answer b answer l found are =
    let taken : filter (takes l.ticket.number) b.journal ≡ take_event l.ticket ∷ [] = of-live (IsTakenIn b.journal) b.live l found are.each in
    runs-push b.journal (Record l.ticket.number answer) ∙ ap (λ es. runs_of b.journal ++ flat_map (run_taken answer) es) taken
