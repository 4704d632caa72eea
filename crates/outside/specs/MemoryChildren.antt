-- What contracts see of the child of a seat in memory.
use Rattle.std.specs.Prelude.{ℕ, ◌≡◌, Bool, true, false, ◌||◌, List, [], None, Some, IfSome, Result, codes, if◌then◌else◌}
use Rattle.objective.specs.Costs.{seen}
use Rattle.objective.specs.declared.Outcome.{Outcome}
use Rattle.outside.specs.AnswerLines.{answer_line}
use Rattle.outside.specs.Changes.{failed_after, has_ended, has_look_failed}
use Rattle.outside.specs.Counts.{count_after}
use Rattle.outside.specs.ReadOutputs.{ReadsAs}
use Rattle.outside.specs.ToldStates.{SpawnerTold}
use Rattle.outside.specs.declared.faults.Fail.{Fail}
use Rattle.outside.specs.declared.faults.Poll.{Poll}
use Rattle.wrapper_lines.specs.declared.runs.Key.{Key}
use Rattle.wrapper_lines.specs.declared.runs.Run.{Run}

pub record ChildState : Type 0 where
  pub told : SpawnerTold  -- what its seat tells; what was started isn't told
  pub output : List ℕ  -- what the child writes that was started last
  pub killed : Bool  -- it was killed

-- no child was started yet
abbrev pub first_child : ChildState
first_child = record { told = record { idle = true; held = false; current = None; failed_run = None; started = None; folders = None; faults = 0 }; output = []; killed = false }

-- after a start, which failed or didn't
abbrev pub child_after_start : Bool → Run → List ℕ → ChildState → ChildState
child_after_start has_failed run output c = record {
  told = record c.told {
    idle = has_failed;
    held = false;
    current = Some run;
    failed_run = failed_after has_failed (Some run) c.told.failed_run;
    faults = count_after has_failed c.told.faults;
  };
  output = output;
  killed = false;
}

-- after a look that found this
abbrev pub child_after_look : Result Poll Fail → ChildState → ChildState
child_after_look found c = record {
  told = record c.told {
    idle = has_ended found || has_look_failed found;
    held = has_ended found;
    failed_run = failed_after (has_look_failed found) c.told.current c.told.failed_run;
    faults = count_after (has_look_failed found) c.told.faults;
  };
  output = c.output;
  killed = false;
}

-- after a kill
abbrev pub child_after_kill : ChildState → ChildState
child_after_kill c = record { told = record c.told { idle = true; held = false }; output = c.output; killed = true }

-- the line that a killed child leaves behind, whatever its run comes to
abbrev pub killed_line : List ℕ
killed_line = codes "Result for ParamILS: TIMEOUT, 0, 0, 0, 0\n"

-- what the child that was started last leaves behind
abbrev pub left_by : ChildState → List ℕ
left_by c = if c.killed then killed_line else c.output

-- the child writes the result line that shows its run's outcome, which is read as that
pub record Shows (outcome : Key → Outcome) (c : ChildState) : Type 0 where
  pub line : IfSome c.told.current (λ run. c.output ≡ answer_line (seen (outcome run.key) run.cutoff.0))
  pub reads : ReadsAs outcome c.told.current c.output
