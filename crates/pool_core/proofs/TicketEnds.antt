-- What ends a ticket makes of a board, by the live ticket that is found.
use Rattle.std.proofs.Common.{ℕ, ◌≡◌, Bool, true, false, List, Option, Some, None, IsSome, IsSomeAnd, IsTrue, All, slice_get, refl, sym, ap, ◌∙◌, subst, arith, if◌then◌else◌}
use Rattle.std.specs.List.{Contains}
use Rattle.std.proofs.lemmas.List.{length-map, get_or-map}
use Rattle.std.proofs.lemmas.List.Folds.{find_at}
use Rattle.std.proofs.lemmas.Option.{get_or_from_slice_get, slice_get_within, same_Some, none-some}
use Rattle.std.proofs.lemmas.List.Elements.{All-contains}
use Rattle.objective.specs.declared.Answer.{Answer}
use Rattle.run_cache.specs.Caches.{Cached, IsCutoff, has_place_in, known_of, lesson_in}
use Rattle.run_cache.specs.Learning
use Rattle.run_cache.specs.Learning.{lesson}
use Rattle.board_steps.specs.declared.answers.Recorded.TheVariants.{Marked, Stranger}
use Rattle.board_steps.specs.declared.tickets.LiveTicket.{LiveTicket}
use Rattle.board_steps.specs.declared.tickets.Ticket.{Ticket}
use Rattle.board_steps.specs.Boards.{BoardState, plain_board}
use Rattle.board_steps.specs.Steps.{with_end, with_record, with_given_up, with_answer, with_loss, with_kill, after_record, after_lost, after_killed, recorded_on, recorded_by, recorded_as, learnt_from}
use Rattle.board_steps.specs.Numbering.{IsTicket, tickets_of}
use Rattle.board_steps.specs.Problem.{Problem}
use Rattle.board_steps.specs.Tickets.{has_number, if_same, live_at, found_in, position_of, same_ticket}
use Rattle.board_steps.proofs.LiveTickets.{found-live}
use Rattle.board_steps.proofs.SameTickets.{same_ticket-equal}

-- the live ticket that is found has its own number
pub found-some : (live : List LiveTicket) (t : Ticket) (l : LiveTicket) → Some l ≡ found_in live t → live_at live l.ticket.number ≡ Some l
found-some live t l found = found-live live t l (sym found)

-- a live ticket that is found is the same
is-same : (t : Ticket) (o : Option LiveTicket) (l : LiveTicket) → if_same t o ≡ Some l → same_ticket l.ticket t ≡ true
is-same t None l found = absurd (none-some l found)
is-same t (Some k) l found = kept (same_ticket k.ticket t) refl found
  where
    kept : (same : Bool) → same_ticket k.ticket t ≡ same → (if same then Some k else None) ≡ Some l → same_ticket l.ticket t ≡ true
    kept true test found = ap (λ x. same_ticket x.ticket t) (sym (same_Some k l found)) ∙ test
    kept false test found = absurd (none-some l found)

-- its ticket is among those that are live
ticket-among : (live : List LiveTicket) (number : ℕ) (l : LiveTicket) → live_at live number ≡ Some l → Contains (tickets_of live) l.ticket
ticket-among live number l found =
    let i = position_of live number in
    let at : ◌≡◌ {A = Option LiveTicket} (slice_get live i) (Some l) = sym (find_at (has_number number) live) ∙ found in
    let within = slice_get_within live i l at in
    (i, omega (arith, within, length-map live (λ k. k.ticket)), get_or-map (λ k. k.ticket) live i l l.ticket within ∙ ap (λ k. k.ticket) (get_or_from_slice_get live i l l at))

-- there is one
pub is-some : (o : Option LiveTicket) (l : LiveTicket) → o ≡ Some l → IsSome o
is-some o l is = let P : Option LiveTicket → Type 0 = λ x. IsSome x in subst P (sym is) refl

-- a marked ticket is given up
pub killed-marked : (b : BoardState) (t : Ticket) (l : LiveTicket) → Some l ≡ found_in b.live t → l.marked ≡ true → with_kill (plain_board b) l ≡ after_killed (plain_board b) t
unfolding after_killed plain_board
killed-marked b t l found is = sym (ap (with_end (with_given_up (plain_board b)) (plain_board b)) (sym found) ∙ ap (λ m. if m then with_kill (plain_board b) l else plain_board b) is)

-- a ticket that isn't marked isn't given up
pub killed-live : (b : BoardState) (t : Ticket) (l : LiveTicket) → Some l ≡ found_in b.live t → l.marked ≡ false → plain_board b ≡ after_killed (plain_board b) t
unfolding after_killed plain_board
killed-live b t l found is = sym (ap (with_end (with_given_up (plain_board b)) (plain_board b)) (sym found) ∙ ap (λ m. if m then with_kill (plain_board b) l else plain_board b) is)

-- a strange ticket changes nothing
pub killed-none : (b : BoardState) (t : Ticket) → None ≡ found_in b.live t → plain_board b ≡ after_killed (plain_board b) t
unfolding after_killed plain_board
killed-none b t none = sym (ap (with_end (with_given_up (plain_board b)) (plain_board b)) (sym none))

-- a live ticket is lost
pub lost-live : (b : BoardState) (t : Ticket) (l : LiveTicket) → Some l ≡ found_in b.live t → with_loss (plain_board b) l ≡ after_lost (plain_board b) t
unfolding after_lost plain_board
lost-live b t l found = sym (ap (with_end (with_loss (plain_board b)) (plain_board b)) (sym found))

-- a strange ticket changes nothing
pub lost-none : (b : BoardState) (t : Ticket) → None ≡ found_in b.live t → plain_board b ≡ after_lost (plain_board b) t
unfolding after_lost plain_board
lost-none b t none = sym (ap (with_end (with_loss (plain_board b)) (plain_board b)) (sym none))

-- the answer of a live ticket is recorded
pub record-live : (b : BoardState) (t : Ticket) (answer : Answer) (l : LiveTicket) → Some l ≡ found_in b.live t → l.marked ≡ false
    → with_answer (plain_board b) answer l ≡ after_record (plain_board b) t answer
unfolding after_record plain_board
record-live b t answer l found is = sym (ap (with_end (with_record (plain_board b) answer) (plain_board b)) (sym found) ∙ ap (λ m. if m then plain_board b else with_answer (plain_board b) answer l) is)

-- nothing is learnt of a marked ticket
pub record-marked : (b : BoardState) (t : Ticket) (answer : Answer) (l : LiveTicket) → Some l ≡ found_in b.live t → l.marked ≡ true → plain_board b ≡ after_record (plain_board b) t answer
unfolding after_record plain_board
record-marked b t answer l found is = sym (ap (with_end (with_record (plain_board b) answer) (plain_board b)) (sym found) ∙ ap (λ m. if m then plain_board b else with_answer (plain_board b) answer l) is)

-- nor of a strange one
pub record-none : (b : BoardState) (t : Ticket) (answer : Answer) → None ≡ found_in b.live t → plain_board b ≡ after_record (plain_board b) t answer
unfolding after_record plain_board
record-none b t answer none = sym (ap (with_end (with_record (plain_board b) answer) (plain_board b)) (sym none))

-- what the record of a live ticket comes to
pub recorded-live : (b : BoardState) (t : Ticket) (answer : Answer) (l : LiveTicket) → b.cache.limits ≡ b.problem.rules.limits → Some l ≡ found_in b.live t → l.marked ≡ false
    → recorded_as (Learning.learnt (known_of b.cache l.ticket.cell) (lesson_in b.cache l.ticket.cell l.ticket.run.cutoff.0 answer)) ≡ recorded_on (plain_board b) t answer
unfolding recorded_on learnt_from plain_board
recorded-live b t answer l limits found is =
    ap (λ bounds. recorded_as (Learning.learnt (known_of b.cache l.ticket.cell) (lesson bounds (known_of b.cache l.ticket.cell) l.ticket.run.cutoff.0 answer))) limits
    ∙ sym (ap (recorded_by (plain_board b) answer) (sym found) ∙ ap (λ m. if m then Marked else recorded_as (learnt_from (plain_board b) answer l)) is)

-- what the record of a marked ticket comes to
pub recorded-marked : (b : BoardState) (t : Ticket) (answer : Answer) (l : LiveTicket) → Some l ≡ found_in b.live t → l.marked ≡ true → Marked ≡ recorded_on (plain_board b) t answer
unfolding recorded_on learnt_from plain_board
recorded-marked b t answer l found is = sym (ap (recorded_by (plain_board b) answer) (sym found) ∙ ap (λ m. if m then Marked else recorded_as (learnt_from (plain_board b) answer l)) is)

-- what the record of a strange ticket comes to
pub recorded-none : (b : BoardState) (t : Ticket) (answer : Answer) → None ≡ found_in b.live t → Stranger ≡ recorded_on (plain_board b) t answer
unfolding recorded_on plain_board
recorded-none b t answer none = sym (ap (recorded_by (plain_board b) answer) (sym none))

-- what holds of what a search for a live ticket finds
pub some-then : (o : Option LiveTicket) (P : LiveTicket → Type 0) (l : LiveTicket) → o ≡ Some l → IsSomeAnd o P → P l
some-then o P l is holds = let Q : Option LiveTicket → Type 0 = λ x. IsSomeAnd x P in subst Q is holds

-- what is found is the ticket
pub ticket-found : (live : List LiveTicket) (t : Ticket) (l : LiveTicket) → Some l ≡ found_in live t → l.ticket ≡ t
unfolding found_in
ticket-found live t l found = same_ticket-equal l.ticket t (is-same t (live_at live t.number) l (sym found))

-- a live ticket's cell has a place, and its run a cutoff in range
pub record IsToLearn (cache : Cached) (l : LiveTicket) : Type 0 where
  pub has_place : IsTrue (has_place_in cache l.ticket.cell.config l.ticket.cell.place)
  pub in_range : IsCutoff cache.limits l.ticket.run.cutoff.0

-- a live ticket can be learnt of
pub live-ticket : (problem : Problem) (live : List LiveTicket) (next : ℕ) (cache : Cached) (t : Ticket) (l : LiveTicket) → Some l ≡ found_in live t
    → cache.limits ≡ problem.rules.limits → All (IsTicket problem next) (tickets_of live)
    → All (λ u. IsTrue (has_place_in cache u.cell.config u.cell.place)) (tickets_of live) → IsToLearn cache l
live-ticket problem live next cache t l found limits tickets places =
    let among = ticket-among live l.ticket.number l (found-some live t l found) in
    let ticket = All-contains (IsTicket problem next) (tickets_of live) l.ticket tickets among in
    record {
      has_place = All-contains (λ u. IsTrue (has_place_in cache u.cell.config u.cell.place)) (tickets_of live) l.ticket places among;
      in_range = rw limits ticket.runnable.in_range;
    }
