-- The rules and positions that faults name. None stands for want of memory, which no text gives.
use Rattle.std.specs.Prelude.{ℕ, Option, Some, None}
use Rattle.plain_text.specs.Faults.{LineFault}
use Rattle.scenario_files.specs.declared.faults.Refused.{Refused}
use Rattle.scenario_files.specs.declared.faults.Refused.TheVariants as refused
use Rattle.scenario_files.specs.declared.faults.ScenarioFault.{ScenarioFault}
use Rattle.scenario_files.specs.declared.faults.ScenarioFault.TheVariants as scenario
use Rattle.scenario_files.specs.declared.faults.ScenarioWhat.{ScenarioWhat}
use Rattle.scenario_files.specs.declared.faults.WordFault.{WordFault}
use Rattle.scenario_files.specs.declared.faults.WordFault.TheVariants as word

-- the rule that a scenario breaks, and its line
abbrev pub fault_of : ScenarioFault → Option (LineFault ScenarioWhat)
fault_of (scenario.At line what) = Some (record { line = line; what = what })
fault_of scenario.Memory = None

-- the position of the key word that is wrong
abbrev pub position_of : WordFault → Option ℕ
position_of (word.At position) = Some position
position_of word.Memory = None

-- the rule that a value breaks
abbrev pub rule_of : Refused → Option ScenarioWhat
rule_of (refused.Value what) = Some what
rule_of refused.Memory = None

-- the rule with its line, where there is a rule
abbrev pub rule_in_line : ℕ → Option ScenarioWhat → Option (LineFault ScenarioWhat)
rule_in_line line None = None
rule_in_line line (Some what) = Some (record { line = line; what = what })
