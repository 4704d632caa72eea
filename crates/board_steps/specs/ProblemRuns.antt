-- What each cell of a problem runs, and the problem's outcome table by a told truth.
use Rattle.std.specs.Prelude.{ℕ, List, map, Option, Some, None}
use Rattle.objective.specs.Costs.{Table}
use Rattle.objective.specs.declared.Outcome.{Outcome}
use Rattle.objective.specs.declared.Outcome.TheVariants.{Unsolved}
use Rattle.param_space.specs.Settings.{active_values}
use Rattle.instance_pairs.specs.Pairs.{pair_at}
use Rattle.wrapper_lines.specs.declared.runs.Setting.{Setting}
use Rattle.wrapper_lines.specs.declared.runs.Key.{Key}
use Rattle.run_cache.specs.declared.cell.Cell.{Cell}
use Rattle.board_steps.specs.Problem.{Problem}

-- a name and a value as a setting
abbrev pub setting_from : List ℕ × List ℕ → Setting
setting_from s = record { name = s.0; value = s.1 }

-- the settings of a configuration: its active parameters
abbrev pub settings_at : Problem → List ℕ → List Setting
settings_at problem config = map setting_from (active_values problem.rules.space config)

-- what a configuration's run at a place is of: the pair of the place, and the settings
abbrev pub key_at : Problem → List ℕ → ℕ → Key
key_at problem config place = record {
  instance = (pair_at problem.pairs place).instance.name;
  specifics = (pair_at problem.pairs place).instance.specifics;
  seed = (pair_at problem.pairs place).seed;
  settings = settings_at problem config;
}

-- what a cell's run is of
unfoldable pub key_of : Problem → Cell → Key
key_of problem cell = key_at problem cell.config cell.place

-- what each key does, where it is told; else nothing is solved
abbrev pub told_outcome : Option (Key → Outcome) → Key → Outcome
told_outcome None key = Unsolved
told_outcome (Some outcome) key = outcome key

-- the outcome table of a problem
abbrev pub table_of : Option (Key → Outcome) → Problem → Table
table_of truth problem config place = told_outcome truth (key_at problem config place)
