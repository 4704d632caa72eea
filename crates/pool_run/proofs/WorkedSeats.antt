-- What a seat did so far, ticket by ticket.
use Rattle.std.proofs.Common.{arith, ◌≡◌, ◌≤◌, ◌++◌, ◌↔◌, Bool, true, false, true≢false, List, [], ◌∷◌, Option, Some, None, Result, Ok, Err, IsTrue, IsSome, IsSomeAnd, IfSome, filter, map, refl, sym, ap, subst, ◌∙◌, if◌then◌else◌}
use Rattle.std.proofs.lemmas.List.{append-nil, append_assoc, map-append}
use Rattle.std.proofs.lemmas.List.Elements.{filter-append}
use Rattle.wrapper_lines.specs.declared.runs.Program.{Program}
use Rattle.wrapper_lines.specs.declared.runs.Run.{Run}
use Rattle.outside.specs.Changes.{has_failed}
use Rattle.outside.specs.declared.faults.Fault.{Fault}
use Rattle.outside.specs.declared.faults.Fault.TheVariants as fault
use Rattle.outside.specs.ToldStates.{SpawnerTold}
use Rattle.board_steps.specs.declared.tickets.Ticket.{Ticket}
use Rattle.pool_run.specs.RunEnds.{RanTicket, seat_after}
use Rattle.pool_run.specs.Seats.{SeatState, fault_of, last_of, IsFault}
use Rattle.pool_run.specs.Starts.{HasStarted, MayHaveStarted}
use Rattle.pool_run.specs.Works.{Worked, tickets_of, runs_started, HasWorked, WorkedTo}
use Rattle.pool_run.specs.Turns.{TookOne}
use Rattle.pool_run.proofs.StartedRuns.{started-none, started-then, took-last, some-then, kept-by, since}

-- a seat that is at work and has kept no fault
pub record IsAtWork (program : Program) (seat seat' : SeatState) : Type 0 where
  pub worked : HasWorked program seat seat'
  pub sound : seat'.failed ≡ false
  pub counts : seat.told.faults ≤ seat'.told.faults
  pub idle : IsTrue seat'.told.idle

-- nothing was done
pub worked-none : (program : Program) (seat seat' : SeatState) → seat'.tickets ≡ seat.tickets → seat'.told ≡ seat.told → HasWorked program seat seat'
worked-none program seat seat' tickets told = record {
  worked = [];
  tickets = tickets ∙ sym (append-nil seat.tickets);
  started = let P : SpawnerTold → Type 0 = λ now. HasStarted program seat.told now [] in subst P (sym told) (started-none program seat.told);
}

-- the runs that were started, with a further ticket
runs-more : (worked : List Worked) (w : Worked) → runs_started (worked ++ w ∷ []) ≡ runs_started worked ++ (if w.started then w.ticket.run ∷ [] else [])
runs-more worked w =
    ap (map (λ (x : Worked). x.ticket.run)) (filter-append (λ (x : Worked). x.started) worked (w ∷ []))
    ∙ map-append (λ (x : Worked). x.ticket.run) (filter (λ (x : Worked). x.started) worked) (filter (λ (x : Worked). x.started) (w ∷ []))
    ∙ ap (λ more. runs_started worked ++ more) (one w.started)
  where
    one : (b : Bool) → map (λ (x : Worked). x.ticket.run) (if b then w ∷ [] else []) ≡ (if b then w.ticket.run ∷ [] else [])
    one true = refl
    one false = refl

-- a further ticket was worked on
pub worked-more : (program : Program) (first seat seat' : SeatState) (t : Ticket) → HasWorked program first seat
    → seat'.tickets ≡ seat.tickets ++ t ∷ [] → MayHaveStarted program seat.told seat'.told t.run → HasWorked program first seat'
worked-more program first seat seat' t has list may =
    let w : Worked = record { ticket = t; started = may.has } in
    let started = started-then program first.told seat.told seat'.told (runs_started has.worked) (if may.has then t.run ∷ [] else []) has.started may.runs in
    record {
      worked = has.worked ++ w ∷ [];
      tickets = list ∙ ap (λ ts. ts ++ t ∷ []) has.tickets ∙ append_assoc first.tickets (tickets_of has.worked) (t ∷ [])
          ∙ ap (λ ts. first.tickets ++ ts) (sym (map-append (λ (x : Worked). x.ticket) has.worked (w ∷ [])));
      started = let P : List Run → Type 0 = λ runs. HasStarted program first.told seat'.told runs in subst P (sym (runs-more has.worked w)) started;
    }

-- ---- once a seat took a ticket, and its run was made or not

-- the ticket was the last one of the seat that took it
ran-one : (program : Program) (end : Result (Unit {0}) Fault) (seat took seat' : SeatState) (one : TookOne seat took)
    → IsSomeAnd (last_of took.tickets) (RanTicket program end took seat') → RanTicket program end took seat' one.ticket
ran-one program end seat took seat' one ran =
    some-then (last_of took.tickets) (RanTicket program end took seat') one.ticket (took-last seat took one) ran

-- the tickets stay, however the run ended
after-tickets : (end : Result (Unit {0}) Fault) (seat : SeatState) (told : SpawnerTold) → (seat_after end seat told).tickets ≡ seat.tickets
after-tickets (Ok u) seat told = refl
after-tickets (Err fault.Failed) seat told = refl
after-tickets (Err fault.Memory) seat told = refl

ran-worked : (program : Program) (end : Result (Unit {0}) Fault) (first seat took seat' : SeatState) → IsAtWork program first seat
    → (one : TookOne seat took) → RanTicket program end took seat' one.ticket → HasWorked program first seat'
ran-worked program end first seat took seat' at_work one ran =
    let t = one.ticket in
    let told : took.told ≡ seat.told = ap (λ (x : SeatState). x.told) one.list in
    let same : seat'.tickets ≡ took.tickets = ap (λ (x : SeatState). x.tickets) ran.after ∙ after-tickets end took seat'.told in
    let list : seat'.tickets ≡ seat.tickets ++ t ∷ [] = same ∙ ap (λ (x : SeatState). x.tickets) one.list in
    let M : SpawnerTold → Type 0 = λ now. MayHaveStarted program now seat'.told t.run in
    worked-more program first seat seat' t at_work.worked list (subst M told ran.may)

ran-counts : (first seat took : SeatState) → first.told.faults ≤ seat.told.faults → TookOne seat took → first.told.faults ≤ took.told.faults
ran-counts first seat took counts one =
    let F : SpawnerTold → Type 0 = λ now. first.told.faults ≤ now.faults in
    subst F (sym (ap (λ (x : SeatState). x.told) one.list)) counts

-- the seat goes on
pub ran-on : (program : Program) (first seat took seat' : SeatState) → IsAtWork program first seat → TookOne seat took
    → IsSomeAnd (last_of took.tickets) (RanTicket program (Ok tt) took seat') → IsTrue seat'.told.idle → took.told.faults ≤ seat'.told.faults
    → IsAtWork program first seat'
ran-on program first seat took seat' at_work one runs idle counts =
    let ran = ran-one program (Ok tt) seat took seat' one runs in
    let before = ran-counts first seat took at_work.counts one in
    record {
      worked = ran-worked program (Ok tt) first seat took seat' at_work one ran;
      sound = ap (λ (x : SeatState). x.failed) ran.after ∙ ap (λ (x : SeatState). x.failed) one.list ∙ at_work.sound;
      counts = omega (arith, before, counts);
      idle = idle;
    }

-- no fault is kept
kept-none : (seat : SeatState) → seat.failed ≡ false → fault_of seat ≡ None
kept-none seat sound = ap (λ f. if f then last_of seat.tickets else None) sound

no-fault : (seat : SeatState) (P : Ticket → Type 0) → seat.failed ≡ false → IfSome (fault_of seat) P
no-fault seat P sound = let Q : Option Ticket → Type 0 = λ o. IfSome o P in subst Q (sym (kept-none seat sound)) tt

never-kept : (seat : SeatState) → seat.failed ≡ false → false ≡ true ↔ IsSome (fault_of seat)
never-kept seat sound =
    let S : Option Ticket → Type 0 = λ o. IsSome o in
    (λ e. absurd (cc), λ some. absurd (true≢false (sym (subst S (kept-none seat sound) some))))

-- the seat is at its end: a needed run can't be made
pub ran-to : (program : Program) (f : Fault) (first seat took seat' : SeatState) → IsAtWork program first seat → TookOne seat took
    → IsSomeAnd (last_of took.tickets) (RanTicket program (Err f) took seat') → IsTrue seat'.told.idle → took.told.faults ≤ seat'.told.faults
    → WorkedTo program (Err f) first seat'
ran-to program fault.Failed first seat took seat' at_work one runs idle counts =
    let end : Result (Unit {0}) Fault = Err fault.Failed in
    let ran = ran-one program end seat took seat' one runs in
    let before = ran-counts first seat took at_work.counts one in
    let t = one.ticket in
    let last : last_of seat'.tickets ≡ Some t = ap (λ (x : SeatState). last_of x.tickets) ran.after ∙ took-last seat took one in
    let is : fault_of seat' ≡ Some t = ap (λ f. if f then last_of seat'.tickets else None) (ap (λ (x : SeatState). x.failed) ran.after) ∙ last in
    let here : IsFault took.told seat'.told t = record { asked = ran.asked refl; failed = ran.failed refl; rose = ran.rose refl } in
    let S : Option Ticket → Type 0 = λ o. IsSome o in
    record {
      idle = idle;
      counts = omega (arith, before, counts);
      worked = ran-worked program end first seat took seat' at_work one ran;
      fault = kept-by seat' t (IsFault first.told seat'.told) last (λ failed. since first.told took.told seat'.told t before here);
      kept = (λ e. subst S (sym is) refl, λ some. refl);
      short = λ e. absurd (cc);
    }
ran-to program fault.Memory first seat took seat' at_work one runs idle counts =
    let end : Result (Unit {0}) Fault = Err fault.Memory in
    let ran = ran-one program end seat took seat' one runs in
    let before = ran-counts first seat took at_work.counts one in
    let sound = ap (λ (x : SeatState). x.failed) ran.after ∙ ap (λ (x : SeatState). x.failed) one.list ∙ at_work.sound in
    record {
      idle = idle;
      counts = omega (arith, before, counts);
      worked = ran-worked program end first seat took seat' at_work one ran;
      fault = no-fault seat' (IsFault first.told seat'.told) sound;
      kept = never-kept seat' sound;
      short = λ e. ap (λ (x : SeatState). x.short) ran.after;
    }

-- ---- a seat that begins, and one whose turn gave no ticket

-- it begins
pub begins : (program : Program) (seat seat' : SeatState) → IsTrue seat.told.idle → seat' ≡ record seat { failed = false; short = false } → IsAtWork program seat seat'
begins program seat seat' idle dropped =
    let P : SeatState → Type 0 = λ s. IsAtWork program seat s in
    let worked = worked-none program seat (record seat { failed = false; short = false }) refl refl in
    subst P (sym dropped) (record { worked = worked; sound = refl; counts = omega arith; idle = idle })

-- it is idle
pub still-at-work : (program : Program) (first seat seat' : SeatState) → IsAtWork program first seat → seat' ≡ seat → IsAtWork program first seat'
still-at-work program first seat seat' at_work same = let P : SeatState → Type 0 = λ s. IsAtWork program first s in subst P (sym same) at_work

-- its turns are at their end, without a fault
ended-with : (program : Program) (end : Result (Unit {0}) Fault) (first seat seat' : SeatState) (short : Bool) → has_failed end ≡ false
    → (end ≡ Err fault.Memory → short ≡ true) → IsAtWork program first seat → seat' ≡ record seat { short = short } → WorkedTo program end first seat'
ended-with program end first seat seat' short no_fault memory at_work same =
    let P : SeatState → Type 0 = λ s. WorkedTo program end first s in
    let kept = never-kept seat at_work.sound in
    subst P (sym same) (record {
      idle = at_work.idle;
      counts = at_work.counts;
      worked = record { worked = at_work.worked.worked; tickets = at_work.worked.tickets; started = at_work.worked.started };
      fault = no-fault seat (IsFault first.told seat.told) at_work.sound;
      kept = (λ e. kept.0 (sym no_fault ∙ e), λ some. no_fault ∙ kept.1 some);
      short = memory;
    })

-- no run is needed any more
pub ended-over : (program : Program) (first seat seat' : SeatState) → IsAtWork program first seat → seat' ≡ seat → WorkedTo program (Ok tt) first seat'
ended-over program first seat seat' at_work same = ended-with program (Ok tt) first seat seat' seat.short refl (λ e. absurd (cc)) at_work same

-- there was no memory for a turn
pub ended-short : (program : Program) (first seat seat' : SeatState) → IsAtWork program first seat → seat' ≡ record seat { short = true }
    → WorkedTo program (Err fault.Memory) first seat'
ended-short program first seat seat' at_work same = ended-with program (Err fault.Memory) first seat seat' true refl (λ e. refl) at_work same
