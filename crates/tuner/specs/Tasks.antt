-- The procedure that a task is tuned by.
use Rattle.std.specs.Prelude.{ℕ, ◌≡◌, List, Option, slice_get}
use Rattle.objective.specs.Costs.{Table}
use Rattle.objective.specs.declared.Outcome.{Outcome}
use Rattle.scenario_files.specs.declared.draft.Approach.{Approach}
use Rattle.scenario_files.specs.declared.draft.Approach.TheVariants.{Basic, Focused}
use Rattle.wrapper_lines.specs.declared.runs.Key.{Key}
use Rattle.uncapped.specs.Procedure.{Question}
use Rattle.uncapped.specs.Totals.{total_cost, quiet}
use Rattle.uncapped.specs.Uncapped
use Rattle.ils_face.specs.Follows.{sums_under}
use Rattle.ils_face.specs.Rules.{Rules}
use Rattle.ils_face.specs.Setups.{setup_of}
use Rattle.board_steps.specs.ProblemRuns.{table_of}
use Rattle.tune_front.specs.declared.task.Task.{Task}

-- the procedure of an approach
abbrev pub procedure_of : Approach → Uncapped.Approach
procedure_of Basic = Uncapped.Basic
procedure_of Focused = Uncapped.Focused

-- the procedure that a search follows is the uncapped one of this approach
abbrev pub IsProcedureOf : Approach → (Rules → Table → Uncapped.Run) → Type 0
IsProcedureOf approach plain = (rules : Rules) (T : Table) → plain rules T ≡ Uncapped.uncapped (procedure_of approach) (setup_of rules) (sums_under rules T)

-- the uncapped procedure over an outcome table
abbrev pub uncapped_run : Task → Table → Uncapped.Run
uncapped_run task table = Uncapped.uncapped (procedure_of task.approach) (setup_of task.problem.rules) (total_cost task.problem.rules.limits table)

-- the run of the uncapped procedure over the seats' truth
abbrev pub true_run : Option (Key → Outcome) → Task → Uncapped.Run
true_run truth task = uncapped_run task (table_of truth task.problem)

-- the run of the uncapped procedure over the same truth with each abort as unsolved
abbrev pub quiet_run : Option (Key → Outcome) → Task → Uncapped.Run
quiet_run truth task = uncapped_run task (quiet (table_of truth task.problem))

-- the asks of that run
abbrev pub asks_over : Option (Key → Outcome) → Task → List Question
asks_over truth task = (quiet_run truth task).asks

-- the ask with this number, from 0
abbrev pub ask_over : Option (Key → Outcome) → Task → ℕ → Option Question
ask_over truth task number = slice_get (asks_over truth task) number
