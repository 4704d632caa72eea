use Rattle.std.proofs.Common.{ℕ, suc, ◌≡◌, ◌<◌, false, take, length}
use Rattle.std.specs.List.{list_all, slice_index_or}
use Rattle.param_space.specs.Limits
use Rattle.param_space.specs.Configurations.{is_active_within}
use Rattle.param_space.proofs.ActiveParams.{is_met}
use Rattle.param_space.specs.Order.{in_order}
use Rattle.param_space.proofs.activity.activity.Given as goal

-- a mark says whether the conditions so far are met
abbrev pub invariant-loop-i : goal.invariant-loop-i
invariant-loop-i l = record {
  size : length l.active ≡ Limits.max_params;
  value : (p : ℕ) → p < Limits.max_params → slice_index_or l.active p false ≡ list_all (is_met l.values (is_active_within (suc (length l.values)) l.conditions l.values) p) (take l.i-index (in_order l.conditions l.order));
}
