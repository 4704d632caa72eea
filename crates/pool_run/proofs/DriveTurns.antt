-- Where a drive stands between two turns, and once its seat took a ticket.
use Rattle.std.proofs.Common.{ℕ, ◌≡◌, ◌++◌, ◌||◌, ◌⊎◌, Bool, true, false, List, [], ◌∷◌, Option, Some, None, All, refl, sym, ap, subst, ◌∙◌, inl, inr, if◌then◌else◌}
use Rattle.std.specs.Option.{is_some}
use Rattle.std.proofs.lemmas.List.Elements.{All-head}
use Rattle.objective.specs.Costs.{Table}
use Rattle.objective.specs.declared.Micros.{Micros}
use Rattle.objective.specs.declared.Outcome.{Outcome}
use Rattle.wrapper_lines.specs.declared.runs.Key.{Key}
use Rattle.wrapper_lines.specs.declared.runs.Program.{Program}
use Rattle.uncapped.specs.Uncapped.{Run}
use Rattle.ils_face.specs.declared.asks.Ask.{Ask}
use Rattle.ils_face.specs.declared.asks.Ask.TheVariants.{Full, Versus, End}
use Rattle.ils_face.specs.declared.asks.Reply.{Reply}
use Rattle.ils_face.specs.Rules.{Rules}
use Rattle.ils_face.specs.Views.{View}
use Rattle.run_cache.specs.declared.cell.Cell.{Cell}
use Rattle.capping.specs.declared.verdicts.Verdict.{Verdict}
use Rattle.capping.specs.declared.verdicts.Verdict.TheVariants as verdict
use Rattle.capping.specs.Decisions.{OnEnded}
use Rattle.capping.specs.Verdicts.{verdict_of}
use Rattle.capping.proofs.Promises.{ended}
use Rattle.board_steps.specs.BoardInvariant.{BoardInvariant}
use Rattle.board_steps.specs.Boards.{BoardState, PlainBoard, plain_board}
use Rattle.board_steps.specs.declared.answers.BoardVerdict.TheVariants as board_verdict
use Rattle.board_steps.specs.declared.answers.Taken.TheVariants as taken
use Rattle.board_steps.specs.declared.tickets.Kind.TheVariants.{Asked}
use Rattle.board_steps.specs.declared.tickets.Ticket.{Ticket}
use Rattle.board_steps.specs.JournalRuns.{AreTaken}
use Rattle.board_steps.specs.Numbering.{IsTicket, tickets_of}
use Rattle.board_steps.specs.BoardVerdicts.{ask_on, asked_cell, board_verdict_by, board_verdict_of, verdict_on}
use Rattle.board_steps.specs.Problem.{Problem}
use Rattle.board_steps.specs.Steps.{ticket_for, taken_on, with_ticket}
use Rattle.board_steps.specs.Tickets.{has_ticket}
use Rattle.board_steps.proofs.GivenTickets.{verdict-open, IsNeededTicket, IsAheadTicket, given}
use Rattle.pool_run.specs.Drives.{IsAskedTicket, HasMade, MayDrive, is_end, is_over}
use Rattle.pool_run.specs.Seats.{SeatState, last_of}
use Rattle.pool_run.specs.Turns.{TookTicket, StayedIdle, is_done}
use Rattle.pool_run.proofs.MadeRuns.{alone, made-none, made-still, made-ticket}
use Rattle.pool_run.proofs.StartedRuns.{took-last}
use Rattle.pool_run.proofs.TurnSteps.{KeepsSearch, none-live}

-- ---- where a search is at its end

-- the fields by which a board is at its end
abbrev pub over_by : (Rules → List Reply → View) → Problem → List Reply → Option Cell → Bool
over_by shown problem replies aborted = is_some aborted || is_end (shown problem.rules replies).ask

-- a search that is at its end is asked for nothing, and another for something
pub end-decides : (ask : Ask) → is_end ask ≡ true → ask ≡ End
end-decides (Full θ n) ends = absurd (let e : false ≡ true = ends in cc)
end-decides (Versus θ n bound) ends = absurd (let e : false ≡ true = ends in cc)
end-decides End ends = refl

module _ (shown : Rules → List Reply → View) where
  pub over-same : (b c : PlainBoard) → KeepsSearch b c → over_by shown c.problem c.replies c.aborted ≡ over_by shown b.problem b.replies b.aborted
  over-same b c same = λ i. over_by shown (same.added.problem i) (same.replies i) (same.aborted i)

  -- an ask whose run is needed isn't the end
  ask-needs : (b : PlainBoard) (place : ℕ) (cutoff : Micros) → verdict_on shown b ≡ verdict.Need place cutoff → is_end (ask_on shown b) ≡ false
  unfolding verdict_on
  ask-needs b place cutoff needs = by (ask_on shown b) needs
    where
      by : (ask : Ask) → verdict_of b.problem.rules.limits b.known ask ≡ verdict.Need place cutoff → is_end ask ≡ false
      by (Full θ n) e = refl
      by (Versus θ n bound) e = refl
      by End e = absurd (cc)

  -- where an open board stands it isn't stopped, and no cell is set as aborted
  record IsOpen (b : PlainBoard) : Type 0 where
    going : b.stopped ≡ false
    none : is_some b.aborted ≡ false

  open-parts : (b : PlainBoard) (v : Verdict) → board_verdict_of shown b ≡ board_verdict.Open v → IsOpen b
  unfolding board_verdict_of
  open-parts b v stands = by b.stopped b.aborted refl refl stands
    where
      by : (stopped : Bool) (aborted : Option Cell) → b.stopped ≡ stopped → b.aborted ≡ aborted
          → (if stopped then board_verdict.Stopped else board_verdict_by shown b aborted) ≡ board_verdict.Open v → IsOpen b
      by true aborted s a e = absurd (cc)
      by false (Some cell) s a e = absurd (cc)
      by false None s a e = record { going = s; none = ap is_some a }

  -- a board that needs a run isn't at its end
  needs-more : (b : PlainBoard) (place : ℕ) (cutoff : Micros) → board_verdict_of shown b ≡ board_verdict.Open (verdict.Need place cutoff)
      → over_by shown b.problem b.replies b.aborted ≡ false
  needs-more b place cutoff stands =
      let none = (open-parts b (verdict.Need place cutoff) stands).none in
      let more = ask-needs b place cutoff (verdict-open shown b (verdict.Need place cutoff) stands) in
      (λ i. none i || more i)

  -- a board that is done and isn't stopped is at its end
  pub done-over : (b : PlainBoard) → is_done (board_verdict_of shown b) ≡ true → b.stopped ≡ false → over_by shown b.problem b.replies b.aborted ≡ true
  unfolding board_verdict_of verdict_on
  done-over b done going = by_abort b.aborted (ap (λ s. is_done (if s then board_verdict.Stopped else board_verdict_by shown b b.aborted)) (sym going) ∙ done)
    where
      by_verdict : (ask : Ask) (v : Verdict) → OnEnded v (ask ≡ End) → is_done (board_verdict.Open v) ≡ true → is_end ask ≡ true
      by_verdict ask (verdict.Reply r) ended e = absurd (let f : false ≡ true = e in cc)
      by_verdict ask (verdict.Need place cutoff) ended e = absurd (let f : false ≡ true = e in cc)
      by_verdict ask (verdict.Aborted place) ended e = absurd (let f : false ≡ true = e in cc)
      by_verdict ask verdict.Ended ended e = ap is_end ended

      by_ask : (ask : Ask) → is_done (board_verdict.Open (verdict_of b.problem.rules.limits b.known ask)) ≡ true → is_end ask ≡ true
      by_ask ask e = by_verdict ask (verdict_of b.problem.rules.limits b.known ask) (ended b.problem.rules.limits b.known ask) e

      by_abort : (o : Option Cell) → is_done (board_verdict_by shown b o) ≡ true → (is_some o || is_end (ask_on shown b)) ≡ true
      by_abort (Some cell) e = refl
      by_abort None e = by_ask (ask_on shown b) e

-- ---- the state of a drive between two turns

-- no ticket is live, the board isn't stopped, and this was made so far
pub record IsUnderWay (program : Program) (board board' : BoardState) (seat seat' : SeatState) : Type 0 where
  pub free : board'.live ≡ []
  pub going : board'.stopped ≡ false
  pub made : HasMade program [] (plain_board board) (plain_board board') seat.told seat'.told seat.tickets seat'.tickets

-- at the beginning
pub underway-begin : (program : Program) (seat seat' : SeatState) → seat' ≡ record seat { failed = false; short = false }
    → (board : BoardState) → MayDrive board → IsUnderWay program board board seat seat'
underway-begin program seat seat' dropped board may =
    let P : SeatState → Type 0 = λ s. HasMade program [] (plain_board board) (plain_board board) seat.told s.told seat.tickets s.tickets in
    record {
      free = may.free;
      going = may.going;
      made = subst P (sym dropped) (made-none program (plain_board board) seat.told seat.tickets);
    }

-- a turn isn't idle then
idle-never : (shown : Rules → List Reply → View) (program : Program) (seat s s' : SeatState) (board b : BoardState) (b' : PlainBoard)
    → IsUnderWay program board b seat s → StayedIdle shown (plain_board b) b' s s' → ⊥
unfolding plain_board
idle-never shown program seat s s' board b b' way stayed = stayed.busy (ap tickets_of way.free)

pub underway-idle : (shown : Rules → List Reply → View) (program : Program) (seat s s' : SeatState) (board b c : BoardState)
    → IsUnderWay program board b seat s → StayedIdle shown (plain_board b) (plain_board c) s s' → IsUnderWay program board c seat s'
underway-idle shown program seat s s' board b c way stayed = absurd (idle-never shown program seat s s' board b (plain_board c) way stayed)

-- a ticket that was taken for the needed run, which the seat has as its last one
pub record HasTaken (shown : Rules → List Reply → View) (program : Program) (board b : BoardState) (seat s : SeatState) : Type 0 where
  pub ticket : Ticket
  pub made : HasMade program (ticket ∷ []) (plain_board board) (plain_board b) seat.told s.told seat.tickets s.tickets
  pub taken : AreTaken (plain_board b)
  pub live : (plain_board b).live ≡ alone ticket
  pub going : (plain_board b).stopped ≡ false
  pub more : is_over shown b ≡ false
  pub asked : ticket.kind ≡ Asked
  pub last : last_of s.tickets ≡ Some ticket

module _ (shown : Rules → List Reply → View) where
  -- without a live ticket only the needed run is given
  needed-alone : (b : PlainBoard) (t : Ticket) → b.live ≡ [] → taken_on shown b ≡ taken.Ticket t → IsNeededTicket shown b t
  unfolding has_ticket
  needed-alone b t free offered = by (given shown b t offered)
    where
      by : IsNeededTicket shown b t ⊎ IsAheadTicket shown b t → IsNeededTicket shown b t
      by (inl needed) = needed
      by (inr ahead) =
          let e : false ≡ true = sym (ap (λ live. has_ticket live (asked_cell shown b ahead.place)) free) ∙ ahead.running in
          absurd (cc)

  kind-needed : (b : PlainBoard) (t : Ticket) → IsNeededTicket shown b t → t.kind ≡ Asked
  unfolding ticket_for
  kind-needed b t needed = ap (λ x. x.kind) needed.ticket

  pub over-plain : (b : BoardState) → over_by shown (plain_board b).problem (plain_board b).replies (plain_board b).aborted ≡ is_over shown b
  unfolding plain_board
  over-plain b = refl

  -- a seat took a ticket while a drive was under way
  pub taken-so : (procedure : Rules → Table → Run) (truth : Option (Key → Outcome)) (program : Program) (seat s0 s : SeatState) (board b0 b : BoardState)
      → IsUnderWay program board b0 seat s0 → TookTicket shown (plain_board b0) (plain_board b) s0 s → BoardInvariant shown procedure truth b
      → HasTaken shown program board b seat s
  unfolding plain_board
  taken-so procedure truth program seat s0 s board b0 b way took inv =
      let t = took.one.ticket in
      let between = took.between in
      let free : between.live ≡ [] = none-live between.live (took.keeps.live ∙ ap tickets_of way.free) in
      let needed = needed-alone between t free took.given in
      let open_there = open-parts shown between (verdict.Need needed.place needed.cutoff) needed.stands in
      let after : plain_board b ≡ with_ticket between t = took.after in
      let live : b.live ≡ alone t = ap (λ c. c.live) after ∙ ap (λ ls. ls ++ alone t) free in
      let first : board.problem ≡ b.problem = sym (ap (λ c. c.problem) after ∙ took.keeps.added.problem ∙ way.made.problem) in
      let each : All (IsTicket b.problem b.next) (t ∷ []) = subst (λ ls. All (IsTicket b.problem b.next) (tickets_of ls)) live inv.numbering.numbers.each in
      let ticket : IsTicket b.problem b.next t = All-head (IsTicket b.problem b.next) t [] each in
      let asked : IsAskedTicket b.problem t = record { asked = kind-needed between t needed; key = ticket.key; runnable = ticket.runnable } in
      let asked_first : IsAskedTicket board.problem t = subst (λ p. IsAskedTicket p t) (sym first) asked in
      let before = made-still program (plain_board board) seat.told s0.told seat.tickets s0.tickets [] (plain_board b0) between took.keeps.added way.made in
      let made = made-ticket program (plain_board board) seat.told s0.told seat.tickets s0.tickets between t asked_first before in
      let P : PlainBoard → Type 0 = λ c. HasMade program (t ∷ []) (plain_board board) c seat.told s0.told seat.tickets (s0.tickets ++ t ∷ []) in
      let Q : SeatState → Type 0 = λ x. HasMade program (t ∷ []) (plain_board board) (plain_board b) seat.told x.told seat.tickets x.tickets in
      record {
        ticket = t;
        made = subst Q (sym took.one.list) (subst P (sym after) made);
        taken = inv.taken;
        live = live;
        going = ap (λ c. c.stopped) after ∙ open_there.going;
        more = ap (λ c. over_by shown c.problem c.replies c.aborted) after ∙ needs-more shown between needed.place needed.cutoff needed.stands;
        asked = kind-needed between t needed;
        last = took-last s0 s took.one;
      }
