use Rattle.param_space.specs.Configurations.{is_active}
use Rattle.tuner.proofs.CellKeys.{HaveMet}
use Rattle.tuner.proofs.cell_keys.are_settings_of.Given as goal

-- so many settings were met at the parameters so far
abbrev pub invariant-loop-i : goal.invariant-loop-i
invariant-loop-i l = HaveMet (is_active l.space l.config) l.space.params l.config l.settings l.count l.i
