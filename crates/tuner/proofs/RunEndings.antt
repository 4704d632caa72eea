-- How a call ends that runs a task, by how its board ends.
use Rattle.std.proofs.Common.{ℕ, ◌≡◌, ◌≤◌, true, inl, inr, List, Option, refl, sym, ap, subst, ◌∙◌, arith}
use Rattle.std.specs.Prelude.{IsSome}
use Rattle.objective.specs.Costs.{Table}
use Rattle.objective.specs.declared.Outcome.{Outcome}
use Rattle.wrapper_lines.specs.declared.runs.Key.{Key}
use Rattle.outside.specs.ToldStates.{SinkTold}
use Rattle.uncapped.specs.Procedure.{Finished}
use Rattle.uncapped.specs.Uncapped.{Run}
use Rattle.ils_face.specs.ProcedureAborts.{entries_of}
use Rattle.ils_face.specs.declared.asks.Ask.{Ask}
use Rattle.ils_face.specs.declared.asks.Ask.TheVariants.{Full, Versus, End}
use Rattle.ils_face.specs.Rules.{Rules}
use Rattle.ils_face.specs.Steady.{IsAsk, Grows}
use Rattle.ils_face.specs.Traces.{IsFinal}
use Rattle.ils_face.specs.Views.{View}
use Rattle.run_cache.specs.declared.cell.Cell.{Cell}
use Rattle.capping.specs.Decisions.{place_count}
use Rattle.board_steps.specs.BoardVerdicts.{config_of}
use Rattle.board_steps.specs.Problem.{Problem}
use Rattle.board_steps.specs.ProblemRuns.{table_of}
use Rattle.board_steps.specs.RepliedAsks.{quiet_by}
use Rattle.board_steps.specs.ShownEntries.{true_by, ShowsAll, ShowsAborted}
use Rattle.tuner.specs.AbortCauses.{IsCell}
use Rattle.tuner.specs.Calls.{Call}
use Rattle.tuner.specs.CallStarts.{StartsOf}
use Rattle.tuner.specs.Causes.{CauseOf}
use Rattle.tune_front.specs.RefusalLines.{no_memory_line}
use Rattle.tune_front.specs.SaidTexts.{Said, whole, unwritten, no_memory, Reported, made, not_made}
use Rattle.tuner.specs.PrintedTexts.{IsTextOf, alone}
use Rattle.tuner.specs.Conducted.{Conducted}
use Rattle.tuner.specs.AnyAnswers.{EndsAs, may_end_any_call}
use Rattle.tuner.specs.SearchEnds.{IsSearched, RanTo, IsTrajectoryOf, IsStoppedSearch}
use Rattle.tuner.specs.Tasks.{IsProcedureOf, true_run, quiet_run}
use Rattle.tune_front.specs.declared.status.Status.{Status}
use Rattle.tune_front.specs.declared.status.Status.TheVariants as status
use Rattle.tune_front.specs.declared.task.Task.{Task}

-- there was no memory
pub without_memory : (call : Call) (out out' : SinkTold) (result : Status) → Said out out' status.NoMemory result no_memory_line → Conducted call out out' result
without_memory call out out' result said =
    record { end = status.NoMemory; text = no_memory_line; cause = tt; starts = tt; wanted = alone refl; said = said }

-- an end with its cause, its starts and its text, as it is reported
pub reported : (call : Call) (out out' : SinkTold) (result end : Status) (text : List ℕ) → CauseOf call end → StartsOf call end
    → IsTextOf call.words call.files call.truth call.seats' end text → Reported out out' result end text → Conducted call out out' result
reported call out out' result end text cause starts wanted (made said) =
    record { end = end; text = text; cause = cause; starts = starts; wanted = wanted; said = said }
reported call out out' result end text cause starts wanted (not_made said) = without_memory call out out' result said

-- ---- the answers of calls

-- a text is said with the answer that it is for, or one that any call may have
said_as : (out out' : SinkTold) (end result : Status) (text : List ℕ) → Said out out' end result text → EndsAs end result
said_as out out' end result text (whole is took) = inl is
said_as out out' end result text (unwritten is part badly) = inr (ap may_end_any_call is)
said_as out out' end result text (no_memory is part) = inr (ap may_end_any_call is)

-- where that is one that any call may have, so is the answer
may_end_as : (end result : Status) → may_end_any_call end ≡ true → EndsAs end result → may_end_any_call result ≡ true
may_end_as end result may (inl is) = ap may_end_any_call is ∙ may
may_end_as end result may (inr is) = is

-- so is a text that was to be made
pub reported_as : (out out' : SinkTold) (result end : Status) (text : List ℕ) → Reported out out' result end text → EndsAs end result
reported_as out out' result end text (made said) = said_as out out' end result text said
reported_as out out' result end text (not_made said) =
    inr (may_end_as status.NoMemory result refl (said_as out out' status.NoMemory result no_memory_line said))

-- want of memory is said with an answer that any call may have
pub reported_no_memory : (out out' : SinkTold) (result : Status) (text : List ℕ) → Reported out out' result status.NoMemory text → may_end_any_call result ≡ true
reported_no_memory out out' result text h = may_end_as status.NoMemory result refl (reported_as out out' result status.NoMemory text h)

-- ---- what is shown, by the uncapped procedure

module _ (task : Task) (truth : Option (Key → Outcome)) (plain : Rules → Table → Run) (procedure : IsProcedureOf task.approach plain) where
  -- the run of the search's procedure over the truth
  true_is : true_by plain truth task.problem ≡ true_run truth task
  true_is = procedure task.problem.rules (table_of truth task.problem)

  -- the same with each abort as unsolved
  pub quiet_is : quiet_by plain truth task.problem ≡ quiet_run truth task
  quiet_is = procedure task.problem.rules _

  -- what is shown at its end is what it came to
  ran_to : (view : View) (run : Run) → IsFinal view run → RanTo run view.entries view.last
  ran_to view run h = record { finished = h.finished; all = h.shows.entries; end = h.shows.last }

  -- a search that made all comparisons
  pub is_trajectory : (view : View) → IsSearched task.problem.rules view.entries view.last
      → (IsSome truth → ShowsAll view (true_by plain truth task.problem) (quiet_by plain truth task.problem))
      → IsTrajectoryOf task truth view.entries view.last
  is_trajectory view searched shows =
      let run = true_by plain truth task.problem in
      let whole = quiet_by plain truth task.problem in
      let R : Run → Type 0 = λ r. RanTo r view.entries view.last in
      let F : Run → Type 0 = λ r. r.end ≡ Finished in
      let G : Run → Type 0 = λ r. Grows (entries_of r) view.entries in
      record {
        searched = searched;
        quiet = λ some. subst R quiet_is (ran_to view whole (shows some).final);
        told = λ some ended. subst R true_is (ran_to view run ((shows some).same (subst F (sym true_is) ended)));
        holds = λ some. subst G true_is (shows some).first;
      }

  -- a search that a child aborted
  pub is_stopped : (view : View) → (IsSome truth → ShowsAborted view (true_by plain truth task.problem) (quiet_by plain truth task.problem))
      → IsStoppedSearch task truth view.entries
  is_stopped view shows =
      let F : Run → Type 0 = λ r. Grows view.entries (entries_of r) in
      let G : Run → Type 0 = λ r. Grows (entries_of r) view.entries in
      record {
        first = λ some. subst F quiet_is (shows some).shown;
        holds = λ some. subst G true_is (shows some).first;
        aborted = λ some. ap (λ r. r.end) (sym true_is) ∙ (shows some).aborted;
      }

-- ---- the cell whose run aborts

-- it is one of the problem's
pub aborted_cell : (problem : Problem) (ask : Ask) (cell : Cell) → IsAsk problem.rules ask → cell.config ≡ config_of ask → 1 ≤ cell.place
    → cell.place ≤ place_count ask → IsCell problem cell
aborted_cell problem (Full θ n) cell asked config first within =
    record { sound = rw config asked.config; first = first; last = omega (arith, within, asked.within) }
aborted_cell problem (Versus θ n bound) cell asked config first within =
    record { sound = rw config asked.config; first = first; last = omega (arith, within, asked.within) }
aborted_cell problem End cell asked config first within = absurd (omega (arith, first, within))
