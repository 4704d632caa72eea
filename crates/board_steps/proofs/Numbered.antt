-- What each event leaves of the numbering of tickets.
use Rattle.std.proofs.Common.{ℕ, suc, ◌≡◌, ◌<◌, ◌+◌, ◌-◌, ◌==◌, ◌++◌, Bool, false, cond, List, [], ◌∷◌, All, length, take, drop, get_or, refl, sym, ap, ◌∙◌, arith, subst}
use Rattle.std.specs.List.{Contains, count_by, range_with_len, remove}
use Rattle.std.proofs.lemmas.List.{append_assoc, append-nil}
use Rattle.std.proofs.lemmas.List.Elements.{All-nil, All-push, All-append, All-take, All-drop, All-weaker, All-contains, All-get_or, Contains-append_left}
use Rattle.std.proofs.lemmas.List.Sums.{sum_by_push, sum_by-remove}
use Rattle.board_steps.specs.declared.events.Event.{Event}
use Rattle.board_steps.specs.declared.tickets.Ticket.{Ticket}
use Rattle.board_steps.specs.Ledgers.{take_event}
use Rattle.board_steps.specs.Numbering.{number_taken, number_ended, numbers_taken, numbers_ended, AreEndsOfTaken, IsRunnableTake, IsTicket, AreNumbered}
use Rattle.board_steps.specs.Problem.{Problem}
use Rattle.board_steps.specs.Tickets.{same_cell}
use Rattle.std.proofs.lemmas.Bool.{eqb-true}
use Rattle.board_steps.proofs.Ranges.{range-next, range-below, range-contains, count-none, lower-differs, one-more, one-more-alone, flat_map-push, flat_map-push_none}
use Rattle.board_steps.proofs.SameCells.{same_cell-Decides}

-- one more event that ends what was taken before
ends-push : (taken : List ℕ) (journal : List Event) (e : Event) → AreEndsOfTaken taken journal
    → All (Contains (taken ++ numbers_taken journal)) (number_ended e) → AreEndsOfTaken taken (journal ++ e ∷ [])
ends-push taken [] e ends ended = (rw (← append-nil taken) ended, tt)
ends-push taken (x ∷ journal) e ends ended =
    (ends.0, ends-push (taken ++ number_taken x) journal e ends.1 (rw (append_assoc taken (number_taken x) (numbers_taken journal)) ended))

-- what is ended lies below what all that was taken lies below
ends-below : (n : ℕ) (taken : List ℕ) (journal : List Event) → AreEndsOfTaken taken journal → All (λ m. m < n) (taken ++ numbers_taken journal)
    → All (λ m. m < n) (numbers_ended journal)
ends-below n taken [] ends below = All-nil (λ m. m < n)
ends-below n taken (x ∷ journal) ends below =
    let P : ℕ → Type 0 = λ m. m < n in
    let lower : (m : ℕ) → Contains taken m → m < n = λ m among. All-contains P (taken ++ numbers_taken (x ∷ journal)) m below (Contains-append_left taken (numbers_taken (x ∷ journal)) m among) in
    All-append P (number_ended x) (numbers_ended journal) (All-weaker (Contains taken) P lower (number_ended x) ends.0)
    (ends-below n (taken ++ number_taken x) journal ends.1 (rw (append_assoc taken (number_taken x) (numbers_taken journal)) below))

-- an event that takes no ticket and ends none
pub numbered-other : (problem : Problem) (tickets : List Ticket) (next : ℕ) (journal : List Event) (e : Event)
    → number_taken e ≡ [] → number_ended e ≡ [] → IsRunnableTake problem.rules e
    → AreNumbered problem tickets next journal → AreNumbered problem tickets next (journal ++ e ∷ [])
numbered-other problem tickets next journal e none_taken none_ended runnable n = record {
  first = n.first;
  taken = flat_map-push_none number_taken journal e none_taken ∙ n.taken;
  ended = ends-push [] journal e n.ended (rw none_ended (All-nil (Contains (numbers_taken journal))));
  once = λ m. rw (flat_map-push_none number_ended journal e none_ended) (n.once m);
  cells = n.cells;
  each = n.each;
  takes = All-push (IsRunnableTake problem.rules) journal e n.takes runnable;
}

-- no ticket is live
pub numbered-none : (problem : Problem) (tickets : List Ticket) (next : ℕ) (journal : List Event)
    → AreNumbered problem tickets next journal → AreNumbered problem [] next journal
numbered-none problem tickets next journal n = record {
  first = n.first;
  taken = n.taken;
  ended = n.ended;
  once = λ m. omega (arith, n.once m);
  cells = λ cell. omega arith;
  each = All-nil (IsTicket problem next);
  takes = n.takes;
}

-- a ticket keeps what it is while further numbers are given
later : (problem : Problem) (next : ℕ) (t : Ticket) → IsTicket problem next t → IsTicket problem (suc next) t
later problem next t is = record { first = is.first; below = omega (arith, is.below); key = is.key; runnable = is.runnable }

-- a new number isn't among the ended ones, nor among the tickets
fresh : (problem : Problem) (tickets : List Ticket) (next : ℕ) (journal : List Event) (m : ℕ) → AreNumbered problem tickets next journal → m ≡ next
    → count_by (λ k. k == m) (numbers_ended journal) + count_by (λ u. u.number == m) tickets ≡ 0
fresh problem tickets next journal m n is =
    let taken_below : All (λ k. k < next) (numbers_taken journal) = let P : List ℕ → Type 0 = λ xs. All (λ k. k < next) xs in
    subst P (sym n.taken) (All-weaker (λ k. k < 1 + (next - 1)) (λ k. k < next) (λ k below. omega (arith, below, n.first)) (range_with_len 1 (next - 1)) (range-below 1 (next - 1))) in
    let ended_below : All (λ k. k < next) (numbers_ended journal) = ends-below next [] journal n.ended taken_below in
    let ended_none = count-none (λ k. k == next) (numbers_ended journal) (All-weaker (λ k. k < next) (λ k. (k == next) ≡ false) (λ k below. lower-differs k next below) (numbers_ended journal) ended_below) in
    let live_none = count-none (λ u. u.number == next) tickets (All-weaker (IsTicket problem next) (λ u. (u.number == next) ≡ false) (λ u ticket. lower-differs u.number next ticket.below) tickets n.each) in
    rw is (omega (arith, ended_none, live_none))

-- a ticket is taken for a cell that no other is of
pub numbered-take : (problem : Problem) (tickets : List Ticket) (next : ℕ) (journal : List Event) (t : Ticket)
    → t.number ≡ next → IsTicket problem (suc next) t → count_by (λ u. same_cell t.cell u.cell) tickets ≡ 0
    → AreNumbered problem tickets next journal → AreNumbered problem (tickets ++ t ∷ []) (suc next) (journal ++ take_event t ∷ [])
numbered-take problem tickets next journal t number ticket alone n = record {
  first = omega arith;
  taken = flat_map-push number_taken journal (take_event t) ∙ ap (λ xs. xs ++ t.number ∷ []) n.taken ∙ ap (λ m. range_with_len 1 (next - 1) ++ m ∷ []) number ∙ sym (range-next next n.first);
  ended = ends-push [] journal (take_event t) n.ended (All-nil (Contains (numbers_taken journal)));
  once = λ m.
      let events : numbers_ended (journal ++ take_event t ∷ []) ≡ numbers_ended journal = flat_map-push_none number_ended journal (take_event t) refl in
      let more = sum_by_push (λ u. cond (u.number == m) 1 0) tickets t in
      rw (events, more) (one-more (count_by (λ k. k == m) (numbers_ended journal)) (count_by (λ u. u.number == m) tickets) (t.number == m)
      (λ same. fresh problem tickets next journal m n (sym (eqb-true t.number m same) ∙ number)) (n.once m));
  cells = λ cell.
      let more = sum_by_push (λ u. cond (same_cell cell u.cell) 1 0) tickets t in
      rw more (one-more-alone (count_by (λ u. same_cell cell u.cell) tickets) (same_cell cell t.cell)
      (λ same. ap (λ c. count_by (λ u. same_cell c u.cell) tickets) ((same_cell-Decides cell t.cell).0 same) ∙ alone) (n.cells cell));
  each = All-push (IsTicket problem (suc next)) tickets t (All-weaker (IsTicket problem next) (IsTicket problem (suc next)) (later problem next) tickets n.each) ticket;
  takes = All-push (IsRunnableTake problem.rules) journal (take_event t) n.takes ticket.runnable;
}

-- all of a list without an element
pub all-remove : {X : Type 0} (P : X → Type 0) (xs : List X) (i : ℕ) → All P xs → All P (remove xs i)
all-remove P xs i all = All-append P (take i xs) (drop (suc i) xs) (All-take P i xs all) (All-drop P (suc i) xs all)

-- the count in a list without an element
count-remove : {X : Type 0} (p : X → Bool) (xs : List X) (i : ℕ) (x : X) → i < length xs → get_or xs i x ≡ x
    → count_by p (remove xs i) + cond (p x) 1 0 ≡ count_by p xs
count-remove p xs i x within is = ap (λ y. count_by p (remove xs i) + cond (p y) 1 0) (sym is) ∙ sum_by-remove (λ y. cond (p y) 1 0) xs i x within

-- a ticket is ended
pub numbered-end : (problem : Problem) (tickets : List Ticket) (next : ℕ) (journal : List Event) (i : ℕ) (t : Ticket) (e : Event)
    → i < length tickets → get_or tickets i t ≡ t → number_taken e ≡ [] → number_ended e ≡ t.number ∷ [] → IsRunnableTake problem.rules e
    → AreNumbered problem tickets next journal → AreNumbered problem (remove tickets i) next (journal ++ e ∷ [])
numbered-end problem tickets next journal i t e within is none_taken one_ended runnable n =
    let ticket : IsTicket problem next t = let P : Ticket → Type 0 = IsTicket problem next in subst P is (All-get_or P tickets i t within n.each) in
    let known : Contains (numbers_taken journal) t.number = let P : List ℕ → Type 0 = λ xs. Contains xs t.number in
    subst P (sym n.taken) (range-contains 1 (next - 1) t.number ticket.first (omega (arith, ticket.below))) in
    record {
      first = n.first;
      taken = flat_map-push_none number_taken journal e none_taken ∙ n.taken;
      ended = ends-push [] journal e n.ended (rw one_ended (All-push (Contains (numbers_taken journal)) [] t.number (All-nil (Contains (numbers_taken journal))) known));
      once = λ m.
          let events : numbers_ended (journal ++ e ∷ []) ≡ numbers_ended journal ++ t.number ∷ [] = flat_map-push number_ended journal e ∙ ap (λ xs. numbers_ended journal ++ xs) one_ended in
          let more = ap (λ xs. count_by (λ k. k == m) xs) events ∙ sum_by_push (λ k. cond (k == m) 1 0) (numbers_ended journal) t.number in
          let fewer = count-remove (λ u. u.number == m) tickets i t within is in
          omega (arith, more, fewer, n.once m);
      cells = λ cell. omega (arith, count-remove (λ u. same_cell cell u.cell) tickets i t within is, n.cells cell);
      each = all-remove (IsTicket problem next) tickets i n.each;
      takes = All-push (IsRunnableTake problem.rules) journal e n.takes runnable;
    }
