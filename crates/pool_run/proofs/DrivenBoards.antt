-- What a drive made tells, by what holds of each board.
use Rattle.std.proofs.Common.{ℕ, suc, ◌≡◌, ◌++◌, ◌||◌, true, List, [], ◌∷◌, Option, Some, None, All, filter, map, refl, sym, ap, subst, ◌∙◌, arith}
use Rattle.std.specs.Prelude.{IsSome}
use Rattle.std.specs.Option.{is_some}
use Rattle.std.specs.List.Sorted.{IsNonDecreasing}
use Rattle.std.proofs.lemmas.Grind.{flat_map-append}
use Rattle.std.proofs.lemmas.List.Elements.{All-nil, All-cons, All-head, All-tail, All-filter}
use Rattle.std.proofs.lemmas.List.Sorted.{IsNonDecreasingBy-drop}
use Rattle.objective.specs.Bounds.{Bounds}
use Rattle.objective.specs.Costs.{Table}
use Rattle.objective.specs.declared.Outcome.{Outcome}
use Rattle.wrapper_lines.specs.declared.runs.Key.{Key}
use Rattle.wrapper_lines.specs.declared.runs.Program.{Program}
use Rattle.outside.specs.ToldStates.{SpawnerTold}
use Rattle.uncapped.specs.Procedure.{Question}
use Rattle.uncapped.specs.Totals.{quiet}
use Rattle.uncapped.specs.Uncapped.{Run}
use Rattle.ils_face.specs.ProcedureAborts.{MeetsAborts}
use Rattle.ils_face.specs.declared.asks.Reply.{Reply}
use Rattle.ils_face.specs.Follows.{Follows, sums_under}
use Rattle.ils_face.specs.Rules.{Rules, AreRules}
use Rattle.ils_face.specs.Steady.{IsSteady}
use Rattle.ils_face.specs.Views.{View}
use Rattle.run_cache.specs.declared.cell.Cell.{Cell}
use Rattle.run_cache.specs.Runs.{CellRun, IsRising}
use Rattle.board_steps.specs.AgreeingBoards.{IsShown}
use Rattle.board_steps.specs.BoardInvariant.{BoardInvariant}
use Rattle.board_steps.specs.Boards.{BoardState, plain_board}
use Rattle.board_steps.specs.declared.events.Event.{Event}
use Rattle.board_steps.specs.declared.events.Event.TheVariants.{Take}
use Rattle.board_steps.specs.declared.tickets.Kind.{Kind}
use Rattle.board_steps.specs.declared.tickets.Kind.TheVariants.{Asked}
use Rattle.board_steps.specs.declared.tickets.Ticket.{Ticket}
use Rattle.board_steps.specs.DueTickets.{IsDueTake, ask_taken, asks_taken}
use Rattle.board_steps.specs.JournalRuns.{runs_of}
use Rattle.board_steps.specs.Ledgers.{take_event}
use Rattle.board_steps.specs.Problem.{Problem}
use Rattle.board_steps.specs.ProblemRuns.{table_of}
use Rattle.board_steps.specs.RepliedAsks.{quiet_by}
use Rattle.board_steps.specs.ShownEntries.{true_by}
use Rattle.board_steps.proofs.ToldEntries.{told-finished, told-aborted}
use Rattle.pool_run.specs.declared.driving.Driven.{Driven}
use Rattle.pool_run.specs.declared.driving.Driven.TheVariants.{Ended}
use Rattle.pool_run.specs.Drives.{tickets_in, run_in, IsAskedTicket, IsDueTicket, AreDueInOrder, HasDriven, DroveTo, ShowsAtEnd, has_ended, is_over, is_end}
use Rattle.pool_run.specs.Seats.{SeatState}
use Rattle.pool_run.specs.Starts.{HasStarted}
use Rattle.pool_run.specs.Turns.{is_take}
use Rattle.pool_run.proofs.DriveTurns.{end-decides}

-- ---- the last part of a list

-- what holds of all holds of the last ones
all-last : {X : Type 0} (P : X → Type 0) (xs ys : List X) → All P (xs ++ ys) → All P ys
all-last P [] ys all = all
all-last P (x ∷ xs) ys all = all-last P xs ys (All-tail P x (xs ++ ys) all)

-- the last ones of rising runs are rising
rising-last : (xs ys : List CellRun) → IsRising (xs ++ ys) → IsRising ys
rising-last [] ys rising = rising
rising-last (x ∷ xs) ys rising = rising-last xs ys (record {
  outrun = λ i j r s less at_r at_s same. rising.outrun (suc i) (suc j) r s (omega (arith, less)) at_r at_s same;
})

-- the last ones of numbers that never fall never fall
order-last : (xs ys : List ℕ) → IsNonDecreasing (xs ++ ys) → IsNonDecreasing ys
order-last [] ys order = order
order-last (x ∷ xs) ys order = order-last xs ys (IsNonDecreasingBy-drop (λ n. n) 1 (x ∷ (xs ++ ys)) order)

-- ---- the events that took tickets

-- the places of events are those of the ones that took a ticket
places-takes : (events : List Event) → asks_taken events ≡ asks_taken (filter is_take events)
places-takes [] = refl
places-takes (Take kind number cell cutoff asked_at ∷ events) = ap (λ ps. asked_at ∷ ps) (places-takes events)
places-takes (e ∷ events) = places-takes events

-- those of tickets
places-tickets : (tickets : List Ticket) → asks_taken (map take_event tickets) ≡ map (λ t. t.place) tickets
places-tickets [] = refl
places-tickets (t ∷ tickets) = ap (λ ps. t.place ∷ ps) (places-tickets tickets)

-- a ticket that was asked for is due where its event is
due-asked : (limits : Bounds) (T : Table) (asks : List Question) (t : Ticket) → t.kind ≡ Asked → IsDueTake limits T asks (take_event t) → IsDueTicket limits T asks t
due-asked limits T asks t asked due =
    let P : Kind → Type 0 = λ kind. IsDueTake limits T asks (Take kind t.number t.cell t.run.cutoff t.place) in
    subst P asked due

-- so are all
due-tickets : (limits : Bounds) (T : Table) (asks : List Question) (problem : Problem) (tickets : List Ticket) → All (IsAskedTicket problem) tickets
    → All (IsDueTake limits T asks) (map take_event tickets) → All (IsDueTicket limits T asks) tickets
due-tickets limits T asks problem [] each due = All-nil (IsDueTicket limits T asks)
due-tickets limits T asks problem (t ∷ tickets) each due =
    let D = IsDueTake limits T asks in
    let I = IsAskedTicket problem in
    All-cons (IsDueTicket limits T asks) t tickets
    (due-asked limits T asks t (All-head I t tickets each).asked (All-head D (take_event t) (map take_event tickets) due))
    (due-tickets limits T asks problem tickets (All-tail I t tickets each) (All-tail D (take_event t) (map take_event tickets) due))

-- events at the end of a journal whose runs are due, and which took these tickets
due-in-order : (limits : Bounds) (T : Table) (asks : List Question) (problem : Problem) (journal events : List Event) (tickets : List Ticket)
    → filter is_take events ≡ map take_event tickets → All (IsAskedTicket problem) tickets
    → All (IsDueTake limits T asks) (journal ++ events) → IsNonDecreasing (asks_taken (journal ++ events)) → AreDueInOrder limits T asks tickets
due-in-order limits T asks problem journal events tickets takes each due order =
    let D = IsDueTake limits T asks in
    let those : All D (map take_event tickets) = subst (All D) takes (All-filter is_take D events (all-last D journal events due)) in
    let places : asks_taken events ≡ map (λ t. t.place) tickets = places-takes events ∙ ap asks_taken takes ∙ places-tickets tickets in
    let parted : IsNonDecreasing (asks_taken journal ++ asks_taken events) = subst IsNonDecreasing (flat_map-append ask_taken journal events) order in
    record {
      due = due-tickets limits T asks problem tickets each those;
      order = subst IsNonDecreasing places (order-last (asks_taken journal) (asks_taken events) parted);
    }

module _ (shown : Rules → List Reply → View) (procedure : Rules → Table → Run) (truth : Option (Key → Outcome)) where
  -- what a drive made is what it is to have made
  pub has-driven : (program : Program) (result : Driven) (board b : BoardState) (seat s : SeatState) → DroveTo shown program result board b seat s
      → BoardInvariant shown procedure truth b → HasDriven procedure truth program result board b seat s
  unfolding plain_board
  has-driven program result board b seat s drove inv =
      let made = drove.made in
      let tickets = tickets_in made.answered ++ drove.left in
      let runs = map run_in made.answered in
      let rising : IsRising (runs_of board.journal ++ runs) = subst IsRising made.runs inv.rising.runs.rising in
      record {
        answered = made.answered;
        left = drove.left;
        events = made.events;
        last = drove.last;
        tickets = made.added;
        journal = made.journal;
        takes = made.takes;
        records = made.records;
        each = made.each;
        rising = rising-last (runs_of board.journal) runs rising;
        shown = λ told.
            let P : Problem → Type 0 = λ p. All (IsShown (table_of truth p)) (runs_of b.journal) in
            let S = IsShown (table_of truth board.problem) in
            all-last S (runs_of board.journal) runs (subst (All S) made.runs (subst P made.problem (inv.agrees told).shown));
        due = λ told.
            let P : Problem → Type 0 = λ p. All (IsDueTake p.rules.limits (table_of truth p) (quiet_by procedure truth p).asks) b.journal in
            let limits = board.problem.rules.limits in
            let T = table_of truth board.problem in
            let asks = (quiet_by procedure truth board.problem).asks in
            let due : All (IsDueTake limits T asks) (board.journal ++ made.events) = subst (All (IsDueTake limits T asks)) made.journal (subst P made.problem (inv.due told).due) in
            let order : IsNonDecreasing (asks_taken (board.journal ++ made.events)) = subst (λ es. IsNonDecreasing (asks_taken es)) made.journal (inv.due told).order.rising in
            due-in-order limits T asks board.problem board.journal made.events tickets made.takes made.each due order;
        started = λ e.
            let P : SpawnerTold → Type 0 = λ told. HasStarted program seat.told told (map (λ a. a.ticket.run) made.answered) in
            subst P (drove.now e) made.started;
      }

  pub same-problem : (program : Program) (result : Driven) (board b : BoardState) (seat s : SeatState) → DroveTo shown program result board b seat s
      → b.problem ≡ board.problem
  unfolding plain_board
  same-problem program result board b seat s drove = drove.made.problem

  module _ (follows : (rules : Rules) (T : Table) → AreRules rules → Follows (shown rules) (sums_under rules T) (procedure rules T))
      (steady : (rules : Rules) → AreRules rules → IsSteady rules (shown rules))
      (aborts : (rules : Rules) (T : Table) → AreRules rules → MeetsAborts (sums_under rules T) (procedure rules T) (procedure rules (quiet T))) where
    -- what is shown at the end
    pub shows-at-end : (b : BoardState) (result : Driven) → has_ended result ≡ is_over shown b → BoardInvariant shown procedure truth b
        → result ≡ Ended → IsSome truth
        → ShowsAtEnd b.aborted (shown b.problem.rules b.replies) (true_by procedure truth b.problem) (quiet_by procedure truth b.problem)
    shows-at-end b result over inv ended told = by b.aborted refl
      where
        is : true ≡ is_over shown b
        is = sym (ap has_ended ended) ∙ over

        by : (o : Option Cell) → b.aborted ≡ o
            → ShowsAtEnd o (shown b.problem.rules b.replies) (true_by procedure truth b.problem) (quiet_by procedure truth b.problem)
        by (Some cell) aborted = told-aborted shown procedure truth follows steady aborts b cell aborted told inv
        by None aborted =
            let at_end : is_end (shown b.problem.rules b.replies).ask ≡ true = sym (is ∙ ap (λ o. is_some o || is_end (shown b.problem.rules b.replies).ask) aborted) in
            told-finished shown procedure truth follows steady aborts b (end-decides (shown b.problem.rules b.replies).ask at_end) told inv
