-- The faults of the three files as faults of one type. None stands for want of memory, which no text gives.
use Rattle.std.specs.Prelude.{Option, option_map}
use Rattle.plain_text.specs.Faults.{LineFault}
use Rattle.param_files.specs.Faults as param_faults
use Rattle.param_files.specs.declared.faults.ParamFault.{ParamFault}
use Rattle.scenario_files.specs.Faults as scenario_faults
use Rattle.scenario_files.specs.declared.faults.ScenarioFault.{ScenarioFault}
use Rattle.instance_pairs.specs.Faults as instance_faults
use Rattle.instance_pairs.specs.declared.faults.InstanceFault.{InstanceFault}
use Rattle.tune_front.specs.declared.reading.faults.FileFault.{FileFault}
use Rattle.tune_front.specs.declared.status.What.{What}
use Rattle.tune_front.specs.declared.status.What.TheVariants.{Scenario, Params, Instances}

-- a fault with its rule among those of all files
abbrev pub file_fault : {W : Type 0} → (W → What) → LineFault W → FileFault
file_fault rule fault = record { line = fault.line; what = rule fault.what }

-- the fault of a scenario file
abbrev pub scenario_file_fault : ScenarioFault → Option FileFault
scenario_file_fault fault = option_map (file_fault Scenario) (scenario_faults.fault_of fault)

-- the fault of a parameter file
abbrev pub param_file_fault : ParamFault → Option FileFault
param_file_fault fault = option_map (file_fault Params) (param_faults.fault_of fault)

-- the fault of an instance file
abbrev pub instance_file_fault : InstanceFault → Option FileFault
instance_file_fault fault = option_map (file_fault Instances) (instance_faults.fault_of fault)
