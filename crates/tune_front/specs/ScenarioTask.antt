-- A scenario of a file and words, and with its space and instances as a task.
use Rattle.std.specs.Prelude.{ℕ, List, length, min, Result}
use Rattle.objective.specs.declared.Factor.{Factor}
use Rattle.objective.specs.declared.Factor.TheVariants.{One, Ten, Thousand}
use Rattle.plain_text.specs.Faults.{LineFault}
use Rattle.plain_text.specs.Results.{◌>>=◌}
use Rattle.param_space.specs.Space.{Lists}
use Rattle.scenario_files.specs.declared.draft.Draft.{Draft}
use Rattle.scenario_files.specs.declared.draft.Overall.{Overall}
use Rattle.scenario_files.specs.declared.draft.Overall.TheVariants.{Mean, Mean10, Mean1000}
use Rattle.scenario_files.specs.declared.faults.ScenarioWhat.{ScenarioWhat}
use Rattle.scenario_files.specs.declared.filling.Scenario.{Scenario}
use Rattle.scenario_files.specs.Files.{scenario_read}
use Rattle.scenario_files.specs.Scenarios.{filled_scenario}
use Rattle.instance_pairs.specs.declared.instances.Instance.{Instance}
use Rattle.instance_pairs.specs.Pairs.{Plan, max_runs_of}
use Rattle.wrapper_lines.specs.declared.runs.Program.{Program}
use Rattle.wrapper_lines.specs.Runs.{program_words}
use Rattle.ils_face.specs.Rules.{Rules}
use Rattle.tune_front.specs.declared.task.Task.{Task}

-- the scenario of the words' keys and of those of a file, or the file's first fault
abbrev pub whole_scenario : Draft → List ℕ → Result Scenario (LineFault ScenarioWhat)
whole_scenario words bytes = scenario_read bytes >>= λ file. filled_scenario file words

-- how many cutoffs a run without a solution costs
abbrev pub factor_of : Overall → Factor
factor_of Mean = One
factor_of Mean10 = Ten
factor_of Mean1000 = Thousand

-- the program of a scenario
abbrev pub program_from : Scenario → Program
program_from scenario = record { words = program_words scenario.algo; dir = scenario.execdir; cutoff_length = scenario.cutoff_length }

-- the pairs of a scenario over these instances
abbrev pub pairs_from : Scenario → List Instance → Plan
pairs_from scenario instances = record {
  instances = instances;
  seed = scenario.num_run;
  deterministic = scenario.deterministic;
  order = scenario.pair_order;
  max_runs = max_runs_of scenario.deterministic (length instances) scenario.n;
}

-- the rules of the search of a scenario in this space, with so many runs of a configuration at most
abbrev pub rules_from : Scenario → Lists → ℕ → Rules
rules_from scenario space max_runs = record {
  space = space;
  seed = scenario.num_run;
  max_runs = max_runs;
  budget = scenario.max_comparisons;
  initial = scenario.r;
  strength = scenario.s;
  restart = scenario.p_restart;
  limits = record { cutoff = scenario.cutoff_time.0; factor = factor_of scenario.overall_obj; floor = min scenario.cap_floor.0 scenario.cutoff_time.0 };
  workers = scenario.workers;
}

-- a scenario with its space and instances as a task
abbrev pub task_from : Scenario → Lists → List Instance → Task
task_from scenario space instances = record {
  program = program_from scenario;
  approach = scenario.approach;
  problem = record {
    rules = rules_from scenario space (pairs_from scenario instances).max_runs;
    pairs = pairs_from scenario instances;
  };
}
