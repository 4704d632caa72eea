-- The names of the rules that a file may break.
use Rattle.std.specs.Prelude.{ℕ, List, codes}
use Rattle.param_space.specs.declared.lists.SpaceWhat.{SpaceWhat}
use Rattle.param_space.specs.declared.lists.SpaceWhat.TheVariants as space
use Rattle.param_files.specs.declared.faults.ParamWhat.{ParamWhat}
use Rattle.param_files.specs.declared.faults.ParamWhat.TheVariants as params
use Rattle.scenario_files.specs.declared.faults.ScenarioWhat.{ScenarioWhat}
use Rattle.scenario_files.specs.declared.faults.ScenarioWhat.TheVariants as scenario
use Rattle.instance_pairs.specs.declared.faults.InstanceWhat.{InstanceWhat}
use Rattle.instance_pairs.specs.declared.faults.InstanceWhat.TheVariants as instances
use Rattle.tune_front.specs.declared.status.What.{What}
use Rattle.tune_front.specs.declared.status.What.TheVariants.{Scenario, Params, Instances}

-- the name of a rule of a space
abbrev pub space_rule : SpaceWhat → List ℕ
space_rule space.NoParameters = codes "NoParameters"
space_rule space.TooMany = codes "TooMany"
space_rule space.BadWord = codes "BadWord"
space_rule space.DoubleName = codes "DoubleName"
space_rule space.NoValues = codes "NoValues"
space_rule space.DoubleValue = codes "DoubleValue"
space_rule space.BadDefault = codes "BadDefault"
space_rule space.UnknownName = codes "UnknownName"
space_rule space.UnknownValue = codes "UnknownValue"
space_rule space.Cycle = codes "Cycle"
space_rule space.DefaultForbidden = codes "DefaultForbidden"

-- the name of a rule of a scenario file
abbrev pub scenario_rule : ScenarioWhat → List ℕ
scenario_rule scenario.NotText = codes "NotText"
scenario_rule scenario.NoEquals = codes "NoEquals"
scenario_rule scenario.UnknownKey = codes "UnknownKey"
scenario_rule scenario.Twice = codes "Twice"
scenario_rule scenario.BadValue = codes "BadValue"
scenario_rule scenario.OutOfRange = codes "OutOfRange"
scenario_rule scenario.Missing = codes "Missing"

-- the name of a rule of a parameter file
abbrev pub params_rule : ParamWhat → List ℕ
params_rule params.NotText = codes "NotText"
params_rule params.Form = codes "Form"
params_rule (params.Space what) = space_rule what

-- the name of a rule of an instance file
abbrev pub instances_rule : InstanceWhat → List ℕ
instances_rule instances.NotText = codes "NotText"
instances_rule instances.TooMany = codes "TooMany"
instances_rule instances.NoInstances = codes "NoInstances"

-- the name of a rule of a file
abbrev pub rule_name : What → List ℕ
rule_name (Scenario what) = scenario_rule what
rule_name (Params what) = params_rule what
rule_name (Instances what) = instances_rule what
