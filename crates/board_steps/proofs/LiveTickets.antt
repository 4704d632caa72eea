-- Live tickets: their tickets, those that are found, and those without one.
use Rattle.std.proofs.Common.{ℕ, suc, ◌≡◌, ◌<◌, ◌≤◌, ◌++◌, ◌&&◌, ◌||◌, not, Bool, true, false, cond, List, [], ◌∷◌, Option, Some, None, All, length, map, take, drop, get_or, refl, sym, ap, ◌∙◌, arith, if◌then◌else◌}
use Rattle.std.specs.List.{count_by, remove, list_any, slice_get, drop-map}
use Rattle.std.proofs.lemmas.Bool.{eqb-true}
use Rattle.std.proofs.lemmas.List.{map-append, take-map, length-map, append_assoc, append-nil, get_or-map}
use Rattle.std.proofs.lemmas.List.Elements.{All-nil, All-cons}
use Rattle.std.proofs.lemmas.List.Folds.{find_at}
use Rattle.std.proofs.lemmas.List.Sums.{sum_by-cons, sum_by-remove, passes_at_first}
use Rattle.std.proofs.lemmas.Option.{get_or_from_slice_get, slice_get_within, none-some}
use Rattle.run_cache.specs.declared.cell.Cell.{Cell}
use Rattle.board_steps.specs.declared.events.Event.{Event}
use Rattle.board_steps.specs.declared.events.Event.TheVariants.{Mark}
use Rattle.board_steps.specs.declared.tickets.LiveTicket.{LiveTicket}
use Rattle.board_steps.specs.declared.tickets.Ticket.{Ticket}
use Rattle.board_steps.specs.Ledgers.{unmarked}
use Rattle.board_steps.specs.Numbering.{number_taken, number_ended, IsRunnableTake, AreNumbered, tickets_of}
use Rattle.board_steps.specs.Problem.{Problem}
use Rattle.board_steps.specs.Tickets.{same_cell, same_ticket, has_number, live_at, position_of, without, if_same, found_in, marked, marked_if, mark_event, mark_events, has_ticket}
use Rattle.board_steps.proofs.SameCells.{same_cell-Decides}
use Rattle.board_steps.proofs.Numbered.{numbered-other, numbered-end, all-remove}

-- marking changes no ticket
pub tickets-marked : (live : List LiveTicket) → tickets_of (map marked live) ≡ tickets_of live
tickets-marked [] = refl
tickets-marked (l ∷ live) = ap (λ ts. l.ticket ∷ ts) (tickets-marked live)

-- a live ticket, marked or not, is of its ticket
ticket-marked_if : (unwanted : Bool) (l : LiveTicket) → (if unwanted then marked l else l).ticket ≡ l.ticket
ticket-marked_if true l = refl
ticket-marked_if false l = refl

-- marking some changes no ticket
pub tickets-marked_if : (p : LiveTicket → Bool) (live : List LiveTicket) → tickets_of (map (marked_if p) live) ≡ tickets_of live
tickets-marked_if p [] = refl
tickets-marked_if p (l ∷ live) = λ i. ticket-marked_if (p l) l i ∷ tickets-marked_if p live i

-- one more live ticket
pub tickets-push : (live : List LiveTicket) (t : Ticket) → tickets_of (live ++ unmarked t ∷ []) ≡ tickets_of live ++ t ∷ []
tickets-push live t = map-append (λ l. l.ticket) live (unmarked t ∷ [])

-- the tickets without the one with a number
pub tickets-without : (live : List LiveTicket) (number : ℕ) → tickets_of (without live number) ≡ remove (tickets_of live) (position_of live number)
unfolding without
tickets-without live number =
    let i = position_of live number in
    map-append (λ l. l.ticket) (take i live) (drop (suc i) live)
    ∙ (λ j. sym (take-map (λ l. l.ticket) i live) j ++ sym (drop-map (λ l. l.ticket) (suc i) live) j)

-- a live ticket that is found is the one with its number
pub found-number : (live : List LiveTicket) (number : ℕ) (l : LiveTicket) → live_at live number ≡ Some l → l.ticket.number ≡ number
found-number live number l found =
    let at : ◌≡◌ {A = Option LiveTicket} (slice_get live (position_of live number)) (Some l) = sym (find_at (has_number number) live) ∙ found in
    let within = slice_get_within live (position_of live number) l at in
    let passes = passes_at_first (has_number number) live l within in
    eqb-true l.ticket.number number (ap (has_number number) (sym (get_or_from_slice_get live (position_of live number) l l at)) ∙ passes)

-- what is found for a ticket is the live ticket with its own number
found-same : (t : Ticket) (o : Option LiveTicket) (l : LiveTicket) → if_same t o ≡ Some l → o ≡ Some l
found-same t None l found = found
found-same t (Some k) l found = kept (same_ticket k.ticket t) found
  where
    kept : (same : Bool) → (if same then Some k else None) ≡ Some l → Some k ≡ Some l
    kept true found = found
    kept false found = absurd (none-some l found)

-- what is found for a ticket is the live ticket with its own number
pub found-live : (live : List LiveTicket) (t : Ticket) (l : LiveTicket) → found_in live t ≡ Some l → live_at live l.ticket.number ≡ Some l
unfolding found_in
found-live live t l found =
    let at = found-same t (live_at live t.number) l found in
    ap (live_at live) (found-number live t.number l at) ∙ at

-- no live ticket is of the cell: none of their tickets is
pub none-of-cell : (live : List LiveTicket) (cell : Cell) → has_ticket live cell ≡ false → count_by (λ t. same_cell cell t.cell) (tickets_of live) ≡ 0
unfolding has_ticket
none-of-cell [] cell none = refl
none-of-cell (l ∷ live) cell none =
    let parts = neither (same_cell cell l.ticket.cell) (list_any (λ k. same_cell cell k.ticket.cell) live) none in
    let first : ◌≡◌ {A = ℕ} (cond (same_cell cell l.ticket.cell) 1 0) 0 = ap (λ b. cond b 1 0) parts.0 in
    omega (arith, sum_by-cons (λ t. cond (same_cell cell t.cell) 1 0) l.ticket (tickets_of live), first, none-of-cell live cell parts.1)
  where
    neither : (a b : Bool) → (a || b) ≡ false → (a ≡ false) × (b ≡ false)
    neither true b none = absurd (let e : true ≡ false = none in cc)
    neither false b none = (refl, none)

-- none passes where none is counted
none-counted : {X : Type 0} (p : X → Bool) (xs : List X) → count_by p xs ≡ 0 → All (λ x. p x ≡ false) xs
none-counted p [] none = All-nil (λ x. p x ≡ false)
none-counted p (x ∷ xs) none =
    let sum = sum_by-cons (λ y. cond (p y) 1 0) x xs in
    All-cons (λ y. p y ≡ false) x xs (fails (p x) (omega (arith, sum, none))) (none-counted p xs (omega (arith, sum, none)))
  where
    fails : (b : Bool) → ◌≡◌ {A = ℕ} (cond b 1 0) 0 → b ≡ false
    fails true e = absurd (cc)
    fails false e = refl

-- live tickets without one that alone is of its cell are of other cells
pub others-apart : (live : List LiveTicket) (l : LiveTicket) → live_at live l.ticket.number ≡ Some l → count_by (λ t. same_cell l.ticket.cell t.cell) (tickets_of live) ≤ 1
    → All (λ t. same_cell l.ticket.cell t.cell ≡ false) (tickets_of (without live l.ticket.number))
others-apart live l found once =
    let i = position_of live l.ticket.number in
    let at : ◌≡◌ {A = Option LiveTicket} (slice_get live i) (Some l) = sym (find_at (has_number l.ticket.number) live) ∙ found in
    let within = slice_get_within live i l at in
    let inside : i < length (tickets_of live) = omega (arith, within, length-map live (λ k. k.ticket)) in
    let ticket : get_or (tickets_of live) i l.ticket ≡ l.ticket = get_or-map (λ k. k.ticket) live i l l.ticket within ∙ ap (λ k. k.ticket) (get_or_from_slice_get live i l l at) in
    let one : ◌≡◌ {A = ℕ} (cond (same_cell l.ticket.cell (get_or (tickets_of live) i l.ticket).cell) 1 0) 1 =
    ap (λ t. cond (same_cell l.ticket.cell t.cell) 1 0) ticket ∙ ap (λ b. cond b 1 0) ((same_cell-Decides l.ticket.cell l.ticket.cell).1 refl) in
    let fewer = sum_by-remove (λ t. cond (same_cell l.ticket.cell t.cell) 1 0) (tickets_of live) i l.ticket inside in
    rw (tickets-without live l.ticket.number) (none-counted (λ t. same_cell l.ticket.cell t.cell) (remove (tickets_of live) i) (omega (arith, one, fewer, once)))

-- a live ticket is ended
pub numbered-without : (problem : Problem) (live : List LiveTicket) (next : ℕ) (journal : List Event) (l : LiveTicket) (e : Event)
    → live_at live l.ticket.number ≡ Some l → number_taken e ≡ [] → number_ended e ≡ l.ticket.number ∷ [] → IsRunnableTake problem.rules e
    → AreNumbered problem (tickets_of live) next journal → AreNumbered problem (tickets_of (without live l.ticket.number)) next (journal ++ e ∷ [])
numbered-without problem live next journal l e found none_taken one_ended runnable n =
    let i = position_of live l.ticket.number in
    let at : ◌≡◌ {A = Option LiveTicket} (slice_get live i) (Some l) = sym (find_at (has_number l.ticket.number) live) ∙ found in
    let within = slice_get_within live i l at in
    let ticket : get_or (tickets_of live) i l.ticket ≡ l.ticket = get_or-map (λ k. k.ticket) live i l l.ticket within ∙ ap (λ k. k.ticket) (get_or_from_slice_get live i l l at) in
    rw (tickets-without live l.ticket.number) (numbered-end problem (tickets_of live) next journal i l.ticket e (omega (arith, within, length-map live (λ k. k.ticket))) ticket none_taken one_ended runnable n)

-- all of the live tickets without one
pub all-without : (P : Ticket → Type 0) (live : List LiveTicket) (number : ℕ) → All P (tickets_of live) → All P (tickets_of (without live number))
all-without P live number all = rw (tickets-without live number) (all-remove P (tickets_of live) (position_of live number) all)

-- a live ticket is marked, where it is to be
numbered-mark : (problem : Problem) (tickets : List Ticket) (next : ℕ) (journal : List Event) (to_mark : Bool) (number : ℕ)
    → AreNumbered problem tickets next journal → AreNumbered problem tickets next (journal ++ (if to_mark then Mark number ∷ [] else []))
numbered-mark problem tickets next journal true number n = numbered-other problem tickets next journal (Mark number) refl refl tt n
numbered-mark problem tickets next journal false number n = rw (append-nil journal) n

-- live tickets are marked
pub numbered-marks : (problem : Problem) (tickets : List Ticket) (next : ℕ) (journal : List Event) (p : LiveTicket → Bool) (live : List LiveTicket)
    → AreNumbered problem tickets next journal → AreNumbered problem tickets next (journal ++ mark_events p live)
numbered-marks problem tickets next journal p [] n = rw (append-nil journal) n
numbered-marks problem tickets next journal p (l ∷ live) n =
    rw (← append_assoc journal (mark_event p l) (mark_events p live))
    (numbered-marks problem tickets next (journal ++ mark_event p l) p live (numbered-mark problem tickets next journal (p l && not l.marked) l.ticket.number n))
