-- How a call ends that runs a task, by what holds of its board.
use Rattle.std.proofs.Common.{ℕ, ◌≡◌, ◌<◌, List, length, Option, Some, refl, sym, subst}
use Rattle.std.specs.Prelude.{IsSome, IsSomeAnd, slice_get}
use Rattle.objective.specs.Costs.{Table}
use Rattle.objective.specs.declared.Outcome.{Outcome}
use Rattle.wrapper_lines.specs.declared.runs.Key.{Key}
use Rattle.outside.specs.ToldStates.{SinkTold}
use Rattle.uncapped.specs.Procedure.{Question}
use Rattle.uncapped.specs.Uncapped.{Run}
use Rattle.uncapped.proofs.KnownCosts.{finishes}
use Rattle.ils_face.specs.ProcedureAborts.{entries_of}
use Rattle.ils_face.specs.declared.asks.Reply.{Reply}
use Rattle.ils_face.specs.Follows.{Follows, sums_under}
use Rattle.ils_face.specs.Replies.{entries_before}
use Rattle.ils_face.specs.Rules.{Rules, AreRules}
use Rattle.ils_face.specs.Setups.{setup_of}
use Rattle.ils_face.specs.Steady.{IsSteady, IsAsk, Grows}
use Rattle.ils_face.specs.Views.{View}
use Rattle.run_cache.specs.declared.cell.Cell.{Cell}
use Rattle.run_cache.specs.Runs.{IsDue}
use Rattle.board_steps.specs.BoardInvariant.{BoardInvariant}
use Rattle.board_steps.specs.Boards.{BoardState, plain_board}
use Rattle.board_steps.specs.declared.tickets.Ticket.{Ticket}
use Rattle.board_steps.specs.JournalRuns.{run_of}
use Rattle.board_steps.specs.Problem.{Problem}
use Rattle.board_steps.specs.ProblemRuns.{table_of}
use Rattle.board_steps.specs.RepliedAsks.{quiet_by}
use Rattle.board_steps.specs.ShownEntries.{true_by, ShowsAll, ShowsAborted}
use Rattle.board_steps.proofs.DueTickets.{due-taken, place-taken}
use Rattle.board_steps.proofs.RepliedAsks.{present-ask}
use Rattle.board_steps.proofs.ShownEntries.{earlier-entries-shown}
use Rattle.board_steps.proofs.ToldEntries.{told-entries}
use Rattle.pool_core.specs.Endings.{AbortsAt, AbortsFirst}
use Rattle.pool_run.specs.Drives.{IsAskedTicket, IsDueTicket}
use Rattle.tuner.specs.AbortCauses.{IsCell, IsAbortCause}
use Rattle.tuner.specs.Calls.{Call}
use Rattle.tuner.specs.CallStarts.{StartsOf}
use Rattle.tune_front.specs.RefusalLines.{no_memory_line}
use Rattle.tuning_logs.specs.EntryLines.{all_lines}
use Rattle.tuner.specs.Lines.{lines_with, aborted_line, child_fault_line}
use Rattle.tune_front.specs.SaidTexts.{Reported}
use Rattle.tuner.specs.PrintedTexts.{after_entries}
use Rattle.tuner.specs.Conducted.{Conducted, Runs}
use Rattle.tuner.specs.ReadyToDrive.{IsBoardOf, KeepsFault}
use Rattle.tuner.specs.SearchEnds.{IsSearched, IsTrajectoryOf, IsStoppedSearch, AreFirst}
use Rattle.tuner.specs.KeptFaults.{IsTakenIn}
use Rattle.tuner.specs.Tasks.{procedure_of, quiet_run, asks_over, ask_over}
use Rattle.tune_front.specs.declared.status.Status.{Status}
use Rattle.tune_front.specs.declared.status.Status.TheVariants as status
use Rattle.tune_front.specs.declared.task.Task.{Task}
use Rattle.tuner.proofs.RunEndings.{reported, is_trajectory, is_stopped, aborted_cell, quiet_is}

-- what holds of a search holds by the rules and the replies of its board
pub by_board : (F : Rules → List Reply → Type 0) (own rules : Rules) (given replies : List Reply) → own ≡ rules → given ≡ replies → F own given → F rules replies
by_board F own rules given replies e h fact = subst (λ r. F r replies) e (subst (F own) h fact)

-- the cell that is set as aborted is one of the problem's
pub sound_abort : (truth : Option (Key → Outcome)) (shown : Rules → List Reply → View) (procedure : Rules → Table → Run) (b : BoardState)
    → BoardInvariant shown procedure truth b → (cell : Cell) → b.aborted ≡ Some cell → IsAsk b.problem.rules (shown b.problem.rules b.replies).ask
    → IsCell b.problem cell
unfolding plain_board
sound_abort truth shown procedure b inv cell is asked =
    let at = inv.aborting.at cell is in aborted_cell b.problem (shown b.problem.rules b.replies).ask cell asked at.config at.first at.within

-- a task with this problem
abbrev task_on : Task → Problem → Task
task_on task problem = record { program = task.program; approach = task.approach; problem = problem }

module _ (call : Call) (task : Task) (truth : Option (Key → Outcome)) (shown : Rules → List Reply → View) (procedure : Rules → Table → Run)
    (b : BoardState) (is_board : IsBoardOf task procedure b) (runs : Runs call task truth)
    (out out' : SinkTold) (result : Status) where
  -- the board's task
  abbrev own : Task
  own = task_on task b.problem

  -- what it shows
  abbrev view : View
  view = shown b.problem.rules b.replies

  -- the call runs it
  runs_own : Runs call own truth
  runs_own = subst (λ p. Runs call (task_on task p) truth) (sym is_board.problem) runs

  -- the search made all comparisons
  pub finished_call : StartsOf call status.Ok → IsSearched b.problem.rules view.entries view.last
      → (IsSome truth → ShowsAll view (true_by procedure truth b.problem) (quiet_by procedure truth b.problem))
      → Reported out out' result status.Ok (all_lines b.problem.rules.space view.entries view.last) → Conducted call out out' result
  finished_call starts searched shows said =
      let F : Option (Key → Outcome) → Type 0 = λ t. IsTrajectoryOf own t view.entries view.last in
      let trajectory = subst F (sym runs.tells) (is_trajectory own truth procedure is_board.procedure view searched shows) in
      reported call out out' result status.Ok _
      (record {
        task = own;
        run = runs_own.run;
        finished = λ some never. finishes (procedure_of own.approach) (setup_of own.problem.rules) own.problem.rules.limits (table_of call.truth own.problem) never;
      })
      starts
      (record { task = own; stated = runs_own.run.stated; entries = view.entries; last = view.last; trajectory = trajectory; lines = refl })
      said

  module _ (inv : BoardInvariant shown procedure truth b)
      (follows : (rules : Rules) (T : Table) → AreRules rules → Follows (shown rules) (sums_under rules T) (procedure rules T)) where
    -- the cell that is set as aborted, at the present ask
    abort_on : (cell : Cell) → b.aborted ≡ Some cell → IsAsk b.problem.rules view.ask → (IsSome truth → AbortsFirst shown (table_of truth b.problem) b cell)
        → IsAbortCause b.problem truth (ask_over truth own (length b.replies)) cell
    unfolding plain_board
    abort_on cell is asked first =
        let limits = b.problem.rules.limits in
        let T = table_of truth b.problem in
        let A : Option Question → Type 0 = λ o. IsSomeAnd o (AbortsAt limits T cell) in
        let B : Run → Type 0 = λ r. A (slice_get r.asks (length b.replies)) in
        record {
          in_problem = sound_abort truth shown procedure b inv cell is asked;
          aborts = λ some.
              let there : A (slice_get (quiet_by procedure truth b.problem).asks (length b.replies)) =
              subst A (present-ask procedure truth shown follows (plain_board b) inv.ruled (inv.replies some)) (first some) in
              subst B (quiet_is own truth procedure is_board.procedure) there;
        }

    -- a child aborted the search
    pub aborted_call : (cell : Cell) → b.aborted ≡ Some cell → IsAsk b.problem.rules view.ask → (IsSome truth → AbortsFirst shown (table_of truth b.problem) b cell)
        → (IsSome truth → ShowsAborted view (true_by procedure truth b.problem) (quiet_by procedure truth b.problem))
        → Reported out out' result (status.Aborted cell) (lines_with b.problem.rules.space view.entries (aborted_line b.problem.rules.space cell.place cell.config))
        → Conducted call out out' result
    aborted_call cell is asked first shows said =
        let F : Option (Key → Outcome) → Type 0 = λ t. IsStoppedSearch own t view.entries in
        let G : Option (Key → Outcome) → Type 0 = λ t. IsAbortCause b.problem t (ask_over t own (length b.replies)) cell in
        let stopped : F call.truth = subst F (sym runs.tells) (is_stopped own truth procedure is_board.procedure view shows) in
        reported call out out' result (status.Aborted cell) _
        (record { task = own; run = runs_own.run; number = length b.replies; abort = subst G (sym runs.tells) (abort_on cell is asked first); ended = stopped.aborted })
        tt
        (record { task = own; stated = runs_own.run.stated; entries = view.entries; stopped = stopped; lines = refl })
        said

    module _ (steady : (rules : Rules) → AreRules rules → IsSteady rules (shown rules)) where
      -- the entries so far are the first ones
      first_so_far : AreFirst own call.truth view.entries
      first_so_far =
          let F : Option (Key → Outcome) → Type 0 = λ t. AreFirst own t view.entries in
          let G : Run → Type 0 = λ r. Grows view.entries (entries_of r) in
          subst F (sym runs.tells) (λ some. subst G (quiet_is own truth procedure is_board.procedure) (told-entries shown procedure truth follows steady b some inv))

      -- there is no memory left
      pub short_call : Reported out out' result status.NoMemory (lines_with b.problem.rules.space view.entries no_memory_line) → Conducted call out out' result
      short_call said =
          reported call out out' result status.NoMemory _ tt tt (after_entries own view.entries runs_own.run.stated first_so_far refl) said

      module _ (t : Ticket) (taken : IsTakenIn task.problem b.journal t) where
        -- the run of a ticket that was taken is due at its place
        due_on : IsSome truth → IsDueTicket b.problem.rules.limits (table_of truth b.problem) (asks_over truth own) t
        unfolding plain_board
        due_on some answer =
            let D : Run → Type 0 = λ r. IsDue b.problem.rules.limits (table_of truth b.problem) r.asks t.place (run_of t answer) in
            subst D (quiet_is own truth procedure is_board.procedure) (due-taken procedure truth (plain_board b) t answer taken.taken taken.asked.asked (inv.due some))

        -- the entries before its ask are shown
        before_on : IsSome truth → Grows (entries_before (quiet_run truth own) t.place) view.entries
        unfolding plain_board
        before_on some =
            let G : Run → Type 0 = λ r. Grows (entries_before r t.place) view.entries in
            subst G (quiet_is own truth procedure is_board.procedure)
            (earlier-entries-shown procedure truth shown follows steady (plain_board b) t.place (place-taken procedure truth (plain_board b) t taken.taken (inv.due some)) inv.ruled (inv.replies some))

        -- the run of a seat's kept ticket failed
        pub faulted_call : (seat : ℕ) → KeepsFault call task seat t
            → Reported out out' result (status.ChildFault seat) (lines_with b.problem.rules.space view.entries (child_fault_line b.problem.rules.space t.cell.place t.cell.config))
            → Conducted call out out' result
        faulted_call seat keeps said =
            let D : Option (Key → Outcome) → Type 0 = λ o. IsSome o → IsDueTicket b.problem.rules.limits (table_of o b.problem) (asks_over o own) t in
            let E : Option (Key → Outcome) → Type 0 = λ o. IsSome o → Grows (entries_before (quiet_run o own) t.place) view.entries in
            let mine : IsAskedTicket b.problem t = subst (λ p. IsAskedTicket p t) (sym is_board.problem) taken.asked in
            reported call out out' result (status.ChildFault seat) _
            (record {
              task = own;
              run = runs_own.run;
              one = subst (λ p. seat < p.rules.workers) (sym is_board.problem) keeps.one;
              ticket = t;
              before = keeps.before;
              after = keeps.after;
              was = keeps.seat.was;
              is = keeps.seat.is;
              fault = record { kept = keeps.kept; fault = keeps.fault; asked = mine; due = subst D (sym runs.tells) due_on };
            })
            tt
            (record {
              task = own;
              stated = runs_own.run.stated;
              entries = view.entries;
              first = first_so_far;
              ticket = t;
              before = subst E (sym runs.tells) before_on;
              kept = record { after = keeps.after; is = keeps.seat.is; kept = keeps.kept; asked = mine; failed = keeps.fault.failed };
              lines = refl;
            })
            said
