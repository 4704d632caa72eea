-- The places that are kept for live tickets.
use Rattle.std.proofs.Common.{ℕ, ◌≡◌, ◌≤◌, ◌<◌, ◌+◌, ◌-◌, ◌++◌, Bool, true, false, List, [], ◌∷◌, length, map, take, drop, get_or, set, length-append, ap, sym, ◌∙◌, arith, if◌then◌else◌}
use Rattle.std.specs.List.{sum_by, flat_map}
use Rattle.std.proofs.lemmas.List.{flat_map_more, take_more, get_or-append_right, get_or-drop, length-map, length-take}
use Rattle.std.proofs.lemmas.List.Edits.{map_over_more}
use Rattle.std.proofs.lemmas.List.Sums.{sum_by-cons, sum_by-set}
use Rattle.board_steps.specs.declared.events.Event.{Event}
use Rattle.board_steps.specs.declared.events.Event.TheVariants.{Stop}
use Rattle.board_steps.specs.declared.tickets.LiveTicket.{LiveTicket}
use Rattle.board_steps.specs.Ledgers.{events_of, events_kept, HasRoom}
use Rattle.board_steps.specs.Tickets.{marked, marked_if, mark_event, mark_events}

-- a live ticket needs a place, marked or not
event_needed : (m : Bool) → 1 ≤ (if m then 1 else 2)
event_needed true = omega arith
event_needed false = omega arith

-- those that are marked need no more places
pub events_marked : (live : List LiveTicket) → sum_by events_of (map marked live) ≤ sum_by events_of live
events_marked [] = omega arith
events_marked (l ∷ live) =
    let before = sum_by-cons events_of l live in
    let after = sum_by-cons events_of (marked l) (map marked live) in
    omega (arith, before, after, event_needed l.marked, events_marked live)

-- one more element's lists
pub flat_map_step : {X A : Type 0} (f : X → List A) (bs cs : List A) (xs : List X) (i : ℕ) (x : X) → i < length xs → x ≡ get_or xs i x
    → cs ≡ bs ++ flat_map f (take i xs) → cs ++ f x ≡ bs ++ flat_map f (take (i + 1) xs)
flat_map_step f bs cs xs i x within is so_far =
    ap (λ zs. zs ++ f x) so_far ∙ flat_map_more f bs (take i xs) x ∙ ap (λ zs. bs ++ flat_map f zs) (ap (λ y. take i xs ++ y ∷ []) is ∙ sym (take_more xs i x within))

-- the next element of a list whose first ones were changed is the list's own
pub next_unchanged : {X : Type 0} (f : X → X) (xs ys : List X) (i : ℕ) (x : X) → i < length xs → ys ≡ map f (take i xs) ++ drop i xs
    → x ≡ get_or ys i x → x ≡ get_or xs i x
next_unchanged f xs ys i x within so_far is =
    let changed : length (map f (take i xs)) ≡ i = length-map (take i xs) f ∙ omega (arith, length-take i xs) in
    is ∙ ap (λ zs. get_or zs i x) so_far ∙ get_or-append_right (map f (take i xs)) (drop i xs) i i x changed (omega arith)
    ∙ get_or-drop i xs (i - i) x ∙ ap (λ n. get_or xs n x) (omega arith)

-- one more live ticket is marked where it isn't wanted: its place in the list
pub marks_live : (p : LiveTicket → Bool) (xs ys : List LiveTicket) (i : ℕ) (x new : LiveTicket) → i < length xs
    → ys ≡ map (marked_if p) (take i xs) ++ drop i xs → x ≡ get_or ys i x → new ≡ marked_if p x
    → set ys i new ≡ map (marked_if p) (take (i + 1) xs) ++ drop (i + 1) xs
marks_live p xs ys i x new within so_far is changed = ap (set ys i) changed ∙ map_over_more (marked_if p) xs ys i x within so_far is

-- one more live ticket is marked where it isn't wanted: its event
pub marks_events : (p : LiveTicket → Bool) (xs ys : List LiveTicket) (i : ℕ) (x : LiveTicket) (before now after : List Event) → i < length xs
    → ys ≡ map (marked_if p) (take i xs) ++ drop i xs → x ≡ get_or ys i x
    → now ≡ before ++ mark_events p (take i xs) → after ≡ now ++ mark_event p x → after ≡ before ++ mark_events p (take (i + 1) xs)
marks_events p xs ys i x before now after within so_far is events added =
    added ∙ flat_map_step (mark_event p) before now xs i x within (next_unchanged (marked_if p) xs ys i x within so_far is) events

-- one more live ticket is marked where it isn't wanted: the places that are kept
pub marks_room : (ys : List LiveTicket) (i : ℕ) (x new : LiveTicket) (now after all : ℕ) → i < length ys → x ≡ get_or ys i x
    → after + events_of new ≤ now + events_of x → now + sum_by events_of ys ≤ all → after + sum_by events_of (set ys i new) ≤ all
marks_room ys i x new now after all within is step room =
    let change = sum_by-set events_of ys i new x within in
    let same = ap events_of is in
    omega (arith, change, same, step, room)

-- the room of a ledger that is stopped
pub room_stopped : (journal_room more_cells : ℕ) (live : List LiveTicket) (next : ℕ) (journal : List Event)
    → HasRoom journal_room more_cells live next false journal
    → HasRoom journal_room more_cells (map marked live) next true (journal ++ Stop ∷ [])
unfolding events_kept
room_stopped journal_room more_cells live next journal room =
    let one_more = length-append journal (Stop ∷ []) in
    let as_many = length-map live marked in
    record {
      events = omega (arith, room.events, one_more, events_marked live);
      cells = omega (arith, room.cells, as_many);
      numbers = omega (arith, room.numbers, one_more);
    }
