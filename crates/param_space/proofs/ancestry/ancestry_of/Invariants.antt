use Rattle.std.proofs.Common.{ℕ, ◌≡◌, ◌<◌, false, length, slice_index}
use Rattle.std.specs.List.{slice_index_or}
use Rattle.param_space.specs.Limits
use Rattle.param_space.specs.Ancestors.{is_ancestor_within, rank}
use Rattle.param_space.proofs.ancestry.ancestry_of.Given as goal

-- the parameters so far have their ranks and marks
abbrev pub invariant-loop-param : goal.invariant-loop-param
invariant-loop-param l = record {
  sizes : (length l.ranks ≡ Limits.max_params) × (length l.own ≡ Limits.max_params);
  ranks : (p : ℕ) → p < l.param → slice_index l.ranks p ≡ rank l.count l.conditions p;
  own : (p : ℕ) → p < l.param → slice_index_or l.own p false ≡ is_ancestor_within l.count l.conditions p p;
}
