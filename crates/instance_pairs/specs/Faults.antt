-- The rules that faults name. None stands for want of memory, which no text gives.
use Rattle.std.specs.Prelude.{Option, Some, None}
use Rattle.plain_text.specs.Faults.{LineFault}
use Rattle.instance_pairs.specs.declared.faults.InstanceFault.{InstanceFault}
use Rattle.instance_pairs.specs.declared.faults.InstanceFault.TheVariants.{At, Memory}
use Rattle.instance_pairs.specs.declared.faults.InstanceWhat.{InstanceWhat}

-- the rule that an instance file breaks, and its line
abbrev pub fault_of : InstanceFault → Option (LineFault InstanceWhat)
fault_of (At line what) = Some (record { line = line; what = what })
fault_of Memory = None
