-- How a drive goes on after a run, and what it comes to where it ends.
use Rattle.std.proofs.Common.{◌≡◌, true, false, true≢false, Bool, List, [], ◌∷◌, Option, Some, None, Ok, Err, refl, sym, ap, subst, ◌∙◌, arith, if◌then◌else◌}
use Rattle.std.specs.Prelude.{IsSomeAnd}
use Rattle.wrapper_lines.specs.declared.runs.Program.{Program}
use Rattle.outside.specs.declared.faults.Fault.{Fault}
use Rattle.outside.specs.declared.faults.Fault.TheVariants as fault
use Rattle.ils_face.specs.declared.asks.Reply.{Reply}
use Rattle.ils_face.specs.Rules.{Rules}
use Rattle.ils_face.specs.Views.{View}
use Rattle.board_steps.specs.Boards.{BoardState, PlainBoard, plain_board}
use Rattle.board_steps.specs.declared.tickets.Kind.TheVariants.{Asked}
use Rattle.board_steps.specs.declared.tickets.Ticket.{Ticket}
use Rattle.board_steps.specs.Numbering.{tickets_of}
use Rattle.board_steps.specs.Steps.{after_lost, after_record, after_stop}
use Rattle.pool_run.specs.declared.driving.Driven.{Driven}
use Rattle.pool_run.specs.declared.driving.Driven.TheVariants as driven
use Rattle.pool_run.specs.Drives.{HasMade, IsLeft, DroveTo, driven_by, is_over, has_ended}
use Rattle.pool_run.specs.RunEnds.{HasGivenUp, RanTicket, RanAsked, RanLast, seat_after, stopped_for}
use Rattle.pool_run.specs.Seats.{SeatState, last_of, fault_of}
use Rattle.pool_run.specs.Turns.{KeepsTickets, CameToEnd, RanShort}
use Rattle.pool_run.proofs.DriveTurns.{over_by, over-same, over-plain, done-over, IsUnderWay, HasTaken}
use Rattle.pool_run.proofs.MadeRuns.{made-still, made-answer, live-answered, live-lost, stopped-answered}
use Rattle.pool_run.proofs.StartedRuns.{some-then}
use Rattle.pool_run.proofs.TurnSteps.{search-given_up, keeps-stop, none-live, stop-stops}

-- a board's fields, as plain data
live-plain : (x : BoardState) → x.live ≡ (plain_board x).live
unfolding plain_board
live-plain x = refl

stopped-plain : (x : BoardState) → x.stopped ≡ (plain_board x).stopped
unfolding plain_board
stopped-plain x = refl

-- no ticket is left, unless after a fault
left-none : (result : Driven) (seat : SeatState) → (result ≡ driven.Fault → ⊥) → IsLeft result seat []
left-none driven.Ended seat no_fault = refl
left-none driven.Fault seat no_fault = absurd (no_fault refl)
left-none driven.Memory seat no_fault = omega arith

module _ (shown : Rules → List Reply → View) (program : Program) (seat : SeatState) where
  -- the answer of the ticket was recorded
  pub underway-on : (s s' : SeatState) → IsSomeAnd (last_of s.tickets) (RanTicket program (Ok tt) s s') → (board b c : BoardState)
      → HasTaken shown program board b seat s → RanLast program (Ok tt) b c s s' → IsUnderWay program board c seat s'
  underway-on s s' runs board b c has last =
      let t = has.ticket in
      let kept = some-then (last_of s.tickets) (RanTicket program (Ok tt) s s') t has.last runs in
      let R : Ticket → Type 0 = λ u. u.kind ≡ Asked → RanAsked program (Ok tt) b c s.told s'.told u in
      let ran : RanAsked program (Ok tt) b c s.told s'.told t = some-then (last_of s.tickets) R t has.last last has.asked in
      let answer = ran.answered.answer in
      let after : plain_board c ≡ after_record (plain_board b) t answer = ran.answered.after in
      let made = made-answer program (plain_board board) seat.told s.told seat.tickets s.tickets (plain_board b) t answer s'.told has.live has.taken ran.started has.made in
      let P : PlainBoard → Type 0 = λ x. HasMade program [] (plain_board board) x seat.told s'.told seat.tickets s.tickets in
      let Q : List Ticket → Type 0 = λ ts. HasMade program [] (plain_board board) (plain_board c) seat.told s'.told seat.tickets ts in
      record {
        free = live-plain c ∙ ap (λ x. x.live) after ∙ live-answered (plain_board b) t answer has.live;
        going = stopped-plain c ∙ ap (λ x. x.stopped) after ∙ stopped-answered (plain_board b) t answer has.live ∙ has.going;
        made = subst Q (sym (ap (λ (x : SeatState). x.tickets) kept.after)) (subst P (sym after) made);
      }

  -- no ticket is left: no run is needed any more, or there was no memory for a turn
  drove-still : (result : Driven) (s0 s : SeatState) (short : Bool) (board b0 b : BoardState) → (result ≡ driven.Fault → ⊥)
      → has_ended result ≡ is_over shown b → (has_ended result ≡ false → b.stopped ≡ true) → IsUnderWay program board b0 seat s0
      → KeepsTickets (plain_board b0) (plain_board b) → s ≡ record s0 { short = short } → DroveTo shown program result board b seat s
  drove-still result s0 s short board b0 b no_fault over stopped way keeps same =
      let made = made-still program (plain_board board) seat.told s0.told seat.tickets s0.tickets [] (plain_board b0) (plain_board b) keeps.added way.made in
      let P : SeatState → Type 0 = λ x. HasMade program [] (plain_board board) (plain_board b) seat.told x.told seat.tickets x.tickets in
      record {
        left = [];
        told = s.told;
        made = subst P (sym same) made;
        last = left-none result s no_fault;
        now = λ e. refl;
        over = over;
        stopped = stopped;
        free = live-plain b ∙ none-live (plain_board b).live (keeps.live ∙ ap tickets_of (sym (live-plain b0) ∙ way.free));
      }

  -- no run is needed any more
  pub drove-over : (s0 s : SeatState) (board b0 b : BoardState) → IsUnderWay program board b0 seat s0 → CameToEnd shown (plain_board b0) (plain_board b) s0 s
      → DroveTo shown program (driven_by (Ok tt) (is_over shown b)) board b seat s
  drove-over s0 s board b0 b way came =
      let going = came.keeps.going ∙ sym (stopped-plain b0) ∙ way.going in
      let over = sym (sym (over-plain shown b) ∙ done-over shown (plain_board b) came.done going) in
      drove-still driven.Ended s0 s s0.short board b0 b (λ e. absurd (cc)) over (λ e. absurd (cc)) way came.keeps.keeps came.same

  -- there was no memory for a turn, at the end of the search or before
  pub drove-short : (s0 s : SeatState) (board b0 b : BoardState) → IsUnderWay program board b0 seat s0 → RanShort shown (plain_board b0) (plain_board b) s0 s
      → DroveTo shown program (driven_by (Err fault.Memory) (is_over shown b)) board b seat s
  drove-short s0 s board b0 b way ran = by (is_over shown b) refl
    where
      by : (over : Bool) → is_over shown b ≡ over → DroveTo shown program (driven_by (Err fault.Memory) over) board b seat s
      by true is = drove-still driven.Ended s0 s true board b0 b (λ e. absurd (cc)) (sym is) (λ e. absurd (cc)) way ran.keeps ran.noted
      by false is = drove-still driven.Memory s0 s true board b0 b (λ e. absurd (cc)) (sym is) (λ e. stopped-plain b ∙ ran.stopped) way ran.keeps ran.noted

  -- a ticket was given up
  record HasLost (board c : BoardState) (s : SeatState) (t : Ticket) : Type 0 where
    made : HasMade program (t ∷ []) (plain_board board) (plain_board c) seat.told s.told seat.tickets s.tickets
    over : is_over shown c ≡ false
    stopped : c.stopped ≡ true
    free : c.live ≡ []

  has-lost : (s : SeatState) (board b c : BoardState) (has : HasTaken shown program board b seat s) → HasGivenUp has.ticket b c → HasLost board c s has.ticket
  has-lost s board b c has given_up =
      let t = has.ticket in
      let after = given_up.after in
      let lost = after_lost (plain_board b) t in
      let keeps = search-given_up (plain_board b) t in
      let P : PlainBoard → Type 0 = λ x. HasMade program (t ∷ []) (plain_board board) x seat.told s.told seat.tickets s.tickets in
      record {
        made = subst P (sym after)
            (made-still program (plain_board board) seat.told s.told seat.tickets s.tickets (t ∷ []) (plain_board b) (stopped_for t.kind lost) keeps.added has.made);
        over = sym (over-plain shown c) ∙ ap (λ x. over_by shown x.problem x.replies x.aborted) after
            ∙ over-same shown (plain_board b) (stopped_for t.kind lost) keeps ∙ over-plain shown b ∙ has.more;
        stopped = stopped-plain c ∙ ap (λ x. x.stopped) after ∙ ap (λ kind. (stopped_for kind lost).stopped) has.asked ∙ stop-stops lost;
        free = live-plain c ∙ ap (λ x. x.live) after ∙ ap (λ kind. (stopped_for kind lost).live) has.asked
            ∙ none-live (after_stop lost).live ((keeps-stop lost).live ∙ ap tickets_of (live-lost (plain_board b) t has.live));
      }

  -- so the drive is at its end
  drove-by : (result : Driven) (s s' : SeatState) (t : Ticket) (board c : BoardState) → has_ended result ≡ false → HasLost board c s t
      → s'.tickets ≡ s.tickets → IsLeft result s' (t ∷ []) → DroveTo shown program result board c seat s'
  drove-by result s s' t board c no_end lost list left =
      let P : List Ticket → Type 0 = λ ts. HasMade program (t ∷ []) (plain_board board) (plain_board c) seat.told s.told seat.tickets ts in
      record {
        left = t ∷ [];
        told = s.told;
        made = subst P (sym list) lost.made;
        last = left;
        now = λ e. absurd (true≢false (sym (ap has_ended e) ∙ no_end));
        over = no_end ∙ sym lost.over;
        stopped = λ e. lost.stopped;
        free = lost.free;
      }

  pub drove-lost : (f : Fault) (s s' : SeatState) → IsSomeAnd (last_of s.tickets) (RanTicket program (Err f) s s') → (board b c : BoardState)
      → HasTaken shown program board b seat s → RanLast program (Err f) b c s s' → DroveTo shown program (driven_by (Err f) (is_over shown c)) board c seat s'
  drove-lost f s s' runs board b c has last =
      let t = has.ticket in
      let kept = some-then (last_of s.tickets) (RanTicket program (Err f) s s') t has.last runs in
      let R : Ticket → Type 0 = λ u. u.kind ≡ Asked → RanAsked program (Err f) b c s.told s'.told u in
      let ran : RanAsked program (Err f) b c s.told s'.told t = some-then (last_of s.tickets) R t has.last last has.asked in
      let lost = has-lost s board b c has ran.lost in
      let D : Bool → Type 0 = λ over. DroveTo shown program (driven_by (Err f) over) board c seat s' in
      subst D (sym lost.over) (by f t kept.after has.last lost)
    where
      by : (f : Fault) (t : Ticket) → s' ≡ seat_after (Err f) s s'.told → last_of s.tickets ≡ Some t → HasLost board c s t
          → DroveTo shown program (driven_by (Err f) false) board c seat s'
      by fault.Failed t kept at_last lost =
          let list : s'.tickets ≡ s.tickets = ap (λ (x : SeatState). x.tickets) kept in
          let last : last_of s'.tickets ≡ Some t = ap last_of list ∙ at_last in
          let is : fault_of s' ≡ Some t = ap (λ f. if f then last_of s'.tickets else None) (ap (λ (x : SeatState). x.failed) kept) ∙ last in
          let L : Option Ticket → Type 0 = λ o. IsSomeAnd o (λ u. t ∷ [] ≡ u ∷ []) in
          drove-by driven.Fault s s' t board c refl lost list (subst L (sym is) refl)
      by fault.Memory t kept at_last lost =
          drove-by driven.Memory s s' t board c refl lost (ap (λ (x : SeatState). x.tickets) kept) (omega arith)
