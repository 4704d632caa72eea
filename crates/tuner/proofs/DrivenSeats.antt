-- What a seat that drove a task's board started, and the ticket that it keeps.
use Rattle.std.proofs.Common.{◌≡◌, ◌≤◌, Bool, arith, List, [], ◌∷◌, ◌++◌, All, map, filter, Option, Some, refl, sym, ap, subst, ◌∙◌, append-nil}
use Rattle.std.specs.Prelude.{IfSome, IsSome, IsSomeAnd}
use Rattle.std.specs.List.{Contains}
use Rattle.std.proofs.lemmas.List.Elements.{All-contains, All-contains_itself, All-filter, Contains-append_right, Contains-push}
use Rattle.std.proofs.lemmas.List.{map-append}
use Rattle.objective.specs.Costs.{Table}
use Rattle.objective.specs.declared.Outcome.{Outcome}
use Rattle.wrapper_lines.specs.declared.runs.Key.{Key}
use Rattle.wrapper_lines.specs.declared.runs.Program.{Program}
use Rattle.uncapped.specs.Uncapped.{Run}
use Rattle.ils_face.specs.Rules.{Rules}
use Rattle.board_steps.specs.AgreeingBoards.{IsShown}
use Rattle.board_steps.specs.Boards.{BoardState}
use Rattle.board_steps.specs.declared.events.Event.{Event}
use Rattle.board_steps.specs.declared.tickets.Ticket.{Ticket}
use Rattle.board_steps.specs.Ledgers.{take_event}
use Rattle.board_steps.specs.Problem.{Problem}
use Rattle.board_steps.specs.ProblemRuns.{table_of}
use Rattle.board_steps.specs.RepliedAsks.{quiet_by}
use Rattle.pool_run.specs.declared.driving.Driven.TheVariants.{Ended, Fault}
use Rattle.pool_run.specs.Drives.{HasDriven, IsAskedTicket, AreDueInOrder, tickets_in, run_in}
use Rattle.pool_run.specs.Seats.{SeatState, IsFault, fault_of}
use Rattle.pool_run.specs.Starts.{HasStarted}
use Rattle.pool_run.specs.Turns.{is_take}
use Rattle.tuner.specs.Calls.{Call}
use Rattle.tuner.specs.CallStarts.{RanDue, StartsOf}
use Rattle.tuner.specs.ReadyToDrive.{DrivesOn, KeepsFault}
use Rattle.tuner.specs.KeptFaults.{IsTakenIn}
use Rattle.tuner.specs.Tasks.{IsProcedureOf}
use Rattle.tune_front.specs.declared.status.Status.TheVariants as status
use Rattle.tune_front.specs.declared.task.Task.{Task}
use Rattle.tuner.proofs.RunEndings.{quiet_is}

-- what passes a test is in the list
among_all : (p : Event → Bool) (events : List Event) (e : Event) → Contains (filter p events) e → Contains events e
among_all p events e h = All-contains (Contains events) (filter p events) e (All-filter p (Contains events) events (All-contains_itself events)) h

-- the seat's own ticket, where one is kept
left_is : (seat : SeatState) (left : List Ticket) (t : Ticket) → fault_of seat ≡ Some t → IsSomeAnd (fault_of seat) (λ kept. left ≡ kept ∷ []) → left ≡ t ∷ []
left_is seat left t kept h = subst (λ o. IsSomeAnd o (λ kept. left ≡ kept ∷ [])) kept h

-- the first seat of a call drove a board, and keeps this ticket, whose run failed
pub keeps_fault : (call : Call) (task : Task) (truth : Option (Key → Outcome)) (seat after : SeatState) (t : Ticket)
    → DrivesOn call task truth seat after → 1 ≤ task.problem.rules.workers → fault_of after ≡ Some t
    → IfSome (fault_of after) (IsFault seat.told after.told) → KeepsFault call task 0 t
keeps_fault call task truth seat after t drives some kept fault =
    let here : IsFault seat.told after.told t = subst (λ o. IfSome o (IsFault seat.told after.told)) kept fault in
    let counts = drives.ready.counts in
    record {
      one = omega (arith, some);
      before = drives.before;
      after = after;
      seat = drives.first;
      kept = kept;
      fault = record { asked = here.asked; failed = here.failed; rose = omega (arith, here.rose, counts) };
    }

module _ (procedure : Rules → Table → Run) (truth : Option (Key → Outcome)) where
  -- the ticket that a seat keeps after a fault
  pub kept_taken : (program : Program) (board board' : BoardState) (seat seat' : SeatState) (t : Ticket)
      → HasDriven procedure truth program Fault board board' seat seat' → fault_of seat' ≡ Some t → IsTakenIn board.problem board'.journal t
  kept_taken program board board' seat seat' t h kept =
      let own = tickets_in h.answered in
      let left : h.left ≡ t ∷ [] = left_is seat' h.left t kept h.last in
      let takes : filter is_take h.events ≡ map take_event own ++ take_event t ∷ [] =
      h.takes ∙ ap (λ ts. map take_event (own ++ ts)) left ∙ map-append take_event own (t ∷ []) in
      let event = take_event t in
      let passed : Contains (filter is_take h.events) event = subst (λ es. Contains es event) (sym takes) (Contains-push (map take_event own) event) in
      let added : Contains (board.journal ++ h.events) event = Contains-append_right board.journal h.events event (among_all is_take h.events event passed) in
      let each : All (IsAskedTicket board.problem) (own ++ t ∷ []) = subst (λ ts. All (IsAskedTicket board.problem) (own ++ ts)) left h.each in
      record {
        taken = subst (λ es. Contains es event) (sym h.journal) added;
        asked = All-contains (IsAskedTicket board.problem) (own ++ t ∷ []) t each (Contains-push own t);
      }

  module _ (task : Task) (uncapped_is : IsProcedureOf task.approach procedure) (board board' : BoardState) (same : board.problem ≡ task.problem) where
    -- what a seat without tickets started that drove the board to its end
    ran : (seat seat' : SeatState) → seat.tickets ≡ [] → HasDriven procedure truth task.program Ended board board' seat seat' → RanDue task truth seat seat'
    ran seat seat' none h =
        let own = tickets_in h.answered in
        let all : own ++ h.left ≡ own = ap (λ ts. own ++ ts) h.last ∙ append-nil own in
        let P : Problem → Type 0 = λ p. All (IsAskedTicket p) own in
        let Q : Problem → Type 0 = λ p. IsSome truth → All (IsShown (table_of truth p)) (map run_in h.answered) in
        let D : List Ticket → Problem → Type 0 = λ ts p. AreDueInOrder p.rules.limits (table_of truth p) (quiet_by procedure truth p).asks ts in
        let R : Run → Type 0 = λ r. AreDueInOrder task.problem.rules.limits (table_of truth task.problem) r.asks own in
        record {
          answered = h.answered;
          tickets = h.tickets ∙ ap (λ ts. ts ++ (own ++ h.left)) none ∙ all;
          each = subst P same (subst (All (IsAskedTicket board.problem)) all h.each);
          started = h.started refl;
          rising = h.rising;
          shown = subst Q same h.shown;
          due = λ some. subst R (quiet_is task truth procedure uncapped_is) (subst (D own) same (subst (λ ts. D ts board.problem) all (h.due some)));
        }

    -- the starts of a call whose first seat drove the board to its end, without tickets where it is the only one
    pub started_call : (call : Call) (seat seat' : SeatState) → DrivesOn call task truth seat seat' → (task.problem.rules.workers ≡ 1 → seat.tickets ≡ [])
        → HasDriven procedure truth task.program Ended board board' seat seat' → StartsOf call status.Ok
    started_call call seat seat' drives cleared h =
        let F : Option (Key → Outcome) → Type 0 = λ t. RanDue task t drives.before seat' in
        let start : task.problem.rules.workers ≡ 1 → RanDue task truth drives.before seat' = λ one.
        let here = ran seat seat' (cleared one) h in
        record {
          answered = here.answered;
          tickets = here.tickets;
          each = here.each;
          started = subst (λ told. HasStarted task.program told seat'.told (map (λ a. a.ticket.run) here.answered)) (drives.ready.same one) here.started;
          rising = here.rising;
          shown = here.shown;
          due = here.due;
        } in
        record {
          task = task;
          stated = drives.runs.run.stated;
          before = drives.before;
          after = seat';
          was = drives.first.was;
          is = drives.first.is;
          ran = λ one. subst F (sym drives.runs.tells) (start one);
        }
