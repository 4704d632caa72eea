-- The cutoff that is due at a place of an ask (trajectory-preserving capping, Hutter et al., JAIR 36).
use Rattle.std.specs.Prelude.{ℕ, ◌-◌, Option, Some, None, nat_le, if◌then◌else◌}
use Rattle.objective.specs.Bounds.{Bounds}
use Rattle.objective.specs.Costs.{Table, cap}
use Rattle.uncapped.specs.Procedure.{Question}
use Rattle.uncapped.specs.Totals.{total_cost}

-- the cutoff for a run that follows runs of this total cost, where that doesn't pass the bound
abbrev pub cap_after : Bounds → ℕ → Option ℕ → Option ℕ
cap_after limits bound None = None
cap_after limits bound (Some spent) = if nat_le spent bound then Some (cap limits (bound - spent)) else None

-- the cutoff that is due where an ask has this bound: the full one where it has none
abbrev pub cap_under : Bounds → Option ℕ → Option ℕ → Option ℕ
cap_under limits None spent = Some limits.cutoff
cap_under limits (Some bound) spent = cap_after limits bound spent

-- the cutoff that is due at a place of an ask; none where the ask is decided before it
abbrev pub cap_at : Bounds → Table → Question → ℕ → Option ℕ
cap_at limits T q place = cap_under limits q.bound (total_cost limits T q.config (place - 1))
