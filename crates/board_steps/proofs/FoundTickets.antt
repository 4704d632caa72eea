-- The first element that passes a test.
use Rattle.std.proofs.Common.{ℕ, ◌≡◌, ◌<◌, ◌≤◌, Bool, List, length, get_or, Some, None, IsSome, true, false, refl, ap, ◌∙◌, inl, inr, arith}
use Rattle.std.specs.List.{find, position_or_len}
use Rattle.std.proofs.lemmas.List.Folds.{find_at}
use Rattle.std.proofs.lemmas.Option.{slice_get_read, slice_get_past, slice_get_cases}
use Rattle.board_steps.specs.declared.tickets.LiveTicket.{LiveTicket}
use Rattle.board_steps.specs.declared.tickets.Ticket.{Ticket}
use Rattle.board_steps.specs.Tickets.{same_ticket, has_number, position_of, found_in}

-- the element at the first place that passes is found
pub find_here : {X : Type 0} (p : X → Bool) (xs : List X) (x : X) → position_or_len p xs < length xs → x ≡ get_or xs (position_or_len p xs) x
    → find p xs ≡ Some x
find_here p xs x within is = find_at p xs ∙ slice_get_read xs (length xs) (position_or_len p xs) x refl within is

-- none is found where the first place is past the end
pub find_past : {X : Type 0} (p : X → Bool) (xs : List X) → length xs ≤ position_or_len p xs → find p xs ≡ None
find_past p xs past = find_at p xs ∙ slice_get_past xs (position_or_len p xs) past

-- where one is found, the first place is within the list
pub is_found : {X : Type 0} (p : X → Bool) (xs : List X) → IsSome (find p xs) → position_or_len p xs < length xs
is_found p xs some = elim (slice_get_cases xs (position_or_len p xs)).1 [
  | inl w ↦ w.1
  | inr w ↦ let none : find p xs ≡ None = find_at p xs ∙ w.1 in absurd (grind arith)
]

-- the live ticket at the place of the number, where it is of the ticket
pub found_same : (live : List LiveTicket) (t : Ticket) (i : ℕ) (l : LiveTicket) → i ≡ position_of live t.number → i < length live → l ≡ get_or live i l
    → same_ticket l.ticket t ≡ true → Some l ≡ found_in live t
unfolding found_in
found_same live t i l place within is same =
    let at : l ≡ get_or live (position_of live t.number) l = is ∙ ap (λ n. get_or live n l) place in
    let found = find_here (has_number t.number) live l (omega (arith, place, within)) at in
    rw (found, same) refl

-- the live ticket at the place of the number isn't of the ticket
pub found_other : (live : List LiveTicket) (t : Ticket) (i : ℕ) (l : LiveTicket) → i ≡ position_of live t.number → i < length live → l ≡ get_or live i l
    → same_ticket l.ticket t ≡ false → None ≡ found_in live t
unfolding found_in
found_other live t i l place within is other =
    let at : l ≡ get_or live (position_of live t.number) l = is ∙ ap (λ n. get_or live n l) place in
    let found = find_here (has_number t.number) live l (omega (arith, place, within)) at in
    rw (found, other) refl

-- the number has no place
pub found_none : (live : List LiveTicket) (t : Ticket) → length live ≤ position_of live t.number → None ≡ found_in live t
unfolding found_in
found_none live t past = rw (find_past (has_number t.number) live past) refl
