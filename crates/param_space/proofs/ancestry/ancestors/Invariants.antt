use Rattle.std.proofs.Common.{ℕ, ◌≡◌, ◌<◌, false, length}
use Rattle.std.specs.List.{slice_index_or}
use Rattle.param_space.specs.Limits
use Rattle.param_space.specs.Ancestors.{is_ancestor_within}
use Rattle.param_space.proofs.ancestry.ancestors.Given as goal

-- the ancestors within the generations so far are known
abbrev pub invariant-loop-generation : goal.invariant-loop-generation
invariant-loop-generation l = record {
  size : length l.known ≡ Limits.max_params;
  value : (a : ℕ) → a < Limits.max_params → slice_index_or l.known a false ≡ is_ancestor_within l._generation l.conditions l.param a;
}
