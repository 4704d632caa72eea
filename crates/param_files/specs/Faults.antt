-- Faults of parameter files, as readings find them.
use Rattle.std.specs.Prelude.{Option, Some, None}
use Rattle.plain_text.specs.Faults.{LineFault}
use Rattle.param_files.specs.declared.faults.ParamWhat.{ParamWhat}
use Rattle.param_files.specs.declared.faults.ParamFault.{ParamFault}
use Rattle.param_files.specs.declared.faults.ParamFault.TheVariants.{At, Memory}

-- the broken rule with its line; None for want of memory
abbrev pub fault_of : ParamFault → Option (LineFault ParamWhat)
fault_of (At line what) = Some (record { line = line; what = what })
fault_of Memory = None
