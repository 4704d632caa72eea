use Rattle.std.proofs.Common.{ℕ, ◌≡◌, ◌==◌, ◌<◌, ◌&&◌, ◌||◌, false, take, length}
use Rattle.std.specs.List.{list_any, slice_index_or}
use Rattle.param_space.specs.Limits
use Rattle.param_space.proofs.ancestry.next_generation.Given as goal

-- the parents that the conditions so far add
abbrev pub invariant-loop-condition : goal.invariant-loop-condition
invariant-loop-condition l = record {
  size : length l.next ≡ Limits.max_params;
  value : (a : ℕ) → a < Limits.max_params → slice_index_or l.next a false ≡ list_any (λ c. (c.parent == a) && ((c.child == l.param) || slice_index_or l.known c.child false)) (take l.condition-index l.conditions);
}
