-- What a standing says of the live tickets.
use Rattle.std.proofs.Common.{ℕ, ◌≡◌, ◌≢◌, ◌≤◌, ◌+◌, ◌==◌, Bool, true, false, cond, List, [], ◌∷◌, Option, Some, None, All, slice_get, refl, sym, ap, ◌∙◌, subst, arith, if◌then◌else◌}
use Rattle.std.specs.List.{Contains, count_by}
use Rattle.std.proofs.lemmas.Bool.{eq-eqb}
use Rattle.std.proofs.lemmas.List.Elements.{All-nil, All-cons}
use Rattle.std.proofs.lemmas.List.Folds.{find_at}
use Rattle.std.proofs.lemmas.List.Sums.{sum_by-cons}
use Rattle.std.proofs.lemmas.Option.{get_or_from_slice_get, slice_get_within}
use Rattle.board_steps.specs.declared.answers.Standing.{Standing}
use Rattle.board_steps.specs.declared.answers.Standing.TheVariants.{Live, Marked, Stranger}
use Rattle.board_steps.specs.declared.tickets.LiveTicket.{LiveTicket}
use Rattle.board_steps.specs.declared.tickets.Ticket.{Ticket}
use Rattle.board_steps.specs.Ledgers.{unmarked}
use Rattle.board_steps.specs.Numbering.{tickets_of}
use Rattle.board_steps.specs.Tickets.{has_number, if_same, live_at, found_in, marked, position_of, same_ticket, standing_of}
use Rattle.board_steps.proofs.MarkedTickets.{HaveOwnNumbers}
use Rattle.board_steps.proofs.SameItself.{same_ticket-itself}
use Rattle.pool_core.proofs.TicketEnds.{found-some, ticket-found}

-- the live ticket isn't of this one
abbrev pub IsOther : Ticket → LiveTicket → Type 0
IsOther t l = l.ticket ≢ t

-- a ticket of another number is another one
other-number : (t : Ticket) (l : LiveTicket) → (l.ticket.number == t.number) ≡ false → IsOther t l
other-number t l differ same = let e : true ≡ false = sym (eq-eqb l.ticket.number t.number (ap (λ u. u.number) same)) ∙ differ in absurd (let f = e in cc)

-- a ticket that isn't the same is another one
other-ticket : (t : Ticket) (l : LiveTicket) → same_ticket l.ticket t ≡ false → IsOther t l
other-ticket t l differ same = let e : true ≡ false = sym (ap (λ u. same_ticket u t) same ∙ same_ticket-itself t) ∙ differ in absurd (let f = e in cc)

-- a test that fails, where none is counted
fails : (b : Bool) (n : ℕ) → cond b 1 0 + n ≡ 0 → b ≡ false
fails true n none = absurd (omega (arith, none))
fails false n none = refl

-- none has the number
none-with : (t : Ticket) (live : List LiveTicket) → count_by (λ u. u.number == t.number) (tickets_of live) ≡ 0 → All (IsOther t) live
none-with t [] none = All-nil (IsOther t)
none-with t (l ∷ live) none =
    let parts = sum_by-cons (λ u. cond (u.number == t.number) 1 0) l.ticket (tickets_of live) in
    let differ = fails (l.ticket.number == t.number) (count_by (λ u. u.number == t.number) (tickets_of live)) (omega (arith, parts, none)) in
    All-cons (IsOther t) l live (other-number t l differ) (none-with t live (omega (arith, parts, none)))

-- a live ticket that isn't found isn't the same
not-same : (t : Ticket) (l : LiveTicket) (same : Bool) → same_ticket l.ticket t ≡ same → (if same then Some l else None) ≡ None → IsOther t l
not-same t l true is none = absurd (let e : Some l ≡ None = none in cc)
not-same t l false is none = other-ticket t l is

-- no live ticket is found for a ticket: none is of it
none-found : (t : Ticket) (live : List LiveTicket) → count_by (λ u. u.number == t.number) (tickets_of live) ≤ 1 → if_same t (live_at live t.number) ≡ None
    → All (IsOther t) live
none-found t [] few none = All-nil (IsOther t)
none-found t (l ∷ live) few none = either (l.ticket.number == t.number) refl none (none-found t live)
  where
    either : (same : Bool) → (l.ticket.number == t.number) ≡ same → if_same t (cond same (Some l) (live_at live t.number)) ≡ None
        → (count_by (λ u. u.number == t.number) (tickets_of live) ≤ 1 → if_same t (live_at live t.number) ≡ None → All (IsOther t) live)
        → All (IsOther t) (l ∷ live)
    either true is none rest =
        let one : ◌≡◌ {A = ℕ} (cond (l.ticket.number == t.number) 1 0) 1 = ap (λ b. cond b 1 0) is in
        let parts = sum_by-cons (λ u. cond (u.number == t.number) 1 0) l.ticket (tickets_of live) in
        All-cons (IsOther t) l live (not-same t l (same_ticket l.ticket t) refl none) (none-with t live (omega (arith, parts, one, few)))
    either false is none rest =
        let parts = sum_by-cons (λ u. cond (u.number == t.number) 1 0) l.ticket (tickets_of live) in
        All-cons (IsOther t) l live (other-number t l is) (rest (omega (arith, parts, few)) none)

-- what a stranger's standing says of what was found
none-standing : (o : Option LiveTicket) → standing_of o ≡ Stranger → o ≡ None
none-standing None stranger = refl
none-standing (Some l) stranger = absurd (by l.marked stranger)
  where
    by : (m : Bool) → (if m then Marked else Live) ≡ Stranger → ⊥
    by true same = absurd (let e : Marked ≡ Stranger = same in cc)
    by false same = absurd (let e : Live ≡ Stranger = same in cc)

-- a live ticket of a ticket, marked or not
pub record IsFound (o : Option LiveTicket) (m : Bool) : Type 0 where
  pub l : LiveTicket
  pub found : o ≡ Some l
  pub marks : l.marked ≡ m

-- what the standing of a live ticket says of what was found
live-standing : (o : Option LiveTicket) → standing_of o ≡ Live → IsFound o false
live-standing None live = absurd (let e : Stranger ≡ Live = live in cc)
live-standing (Some l) live = record { l = l; found = refl; marks = by l.marked live }
  where
    by : (m : Bool) → (if m then Marked else Live) ≡ Live → m ≡ false
    by true same = absurd (let e : Marked ≡ Live = same in cc)
    by false same = refl

-- what the standing of a marked ticket says of what was found
marked-standing : (o : Option LiveTicket) → standing_of o ≡ Marked → IsFound o true
marked-standing None live = absurd (let e : Stranger ≡ Marked = live in cc)
marked-standing (Some l) live = record { l = l; found = refl; marks = by l.marked live }
  where
    by : (m : Bool) → (if m then Marked else Live) ≡ Marked → m ≡ true
    by true same = refl
    by false same = absurd (let e : Live ≡ Marked = same in cc)

-- a live ticket with a number is among them
live-among : (live : List LiveTicket) (number : ℕ) (l : LiveTicket) → live_at live number ≡ Some l → Contains live l
live-among live number l found =
    let i = position_of live number in
    let at : ◌≡◌ {A = Option LiveTicket} (slice_get live i) (Some l) = sym (find_at (has_number number) live) ∙ found in
    let within = slice_get_within live i l at in
    (i, within, get_or_from_slice_get live i l l at)

-- the live ticket that is found is among them
found-among : (live : List LiveTicket) (t : Ticket) (m : Bool) → IsFound (found_in live t) m → Contains live (record { ticket = t; marked = m })
found-among live t m f =
    let among = live-among live f.l.ticket.number f.l (found-some live t f.l (sym f.found)) in
    let same : f.l ≡ record { ticket = t; marked = m } = λ i. record { ticket = ticket-found live t f.l (sym f.found) i; marked = f.marks i } in
    subst (Contains live) same among

-- a stranger is none of the live tickets
pub stranger-apart : (live : List LiveTicket) (t : Ticket) (s : Standing) → HaveOwnNumbers live → s ≡ standing_of (found_in live t) → s ≡ Stranger → All (IsOther t) live
unfolding found_in
stranger-apart live t s own is stranger = none-found t live (own t.number) (none-standing (found_in live t) (sym is ∙ stranger))

-- a live one is among them
pub live-there : (live : List LiveTicket) (t : Ticket) (s : Standing) → s ≡ standing_of (found_in live t) → s ≡ Live → Contains live (unmarked t)
live-there live t s is live_is = found-among live t false (live-standing (found_in live t) (sym is ∙ live_is))

-- a marked one too
pub marked-there : (live : List LiveTicket) (t : Ticket) (s : Standing) → s ≡ standing_of (found_in live t) → s ≡ Marked → Contains live (marked (unmarked t))
marked-there live t s is marked_is = found-among live t true (marked-standing (found_in live t) (sym is ∙ marked_is))
