-- The parameters of a space have a value, and no more than there may be.
use Rattle.std.proofs.Common.{◌≡◌, ◌<◌, ◌≤◌, List, None, length, arith}
use Rattle.std.specs.List.{All}
use Rattle.param_space.specs.declared.lists.Param.{Param}
use Rattle.param_space.specs.Limits.{max_values}
use Rattle.param_space.specs.Space.{defaults}
use Rattle.param_space.specs.Faults.{params_fault}
use Rattle.param_space.proofs.BelongsLemmas.{Belongs-defaults, value_in_range}
use Rattle.param_space.proofs.SpaceSizes.{few_values}

-- a parameter with a value, and no more than there may be
pub record HasValues (p : Param) : Type 0 where
  pub some : 0 < length p.values
  pub few : length p.values ≤ max_values

-- the parameters of a space: the default is a value
pub All-HasValues : (params : List Param) → params_fault params ≡ None → All HasValues params
All-HasValues params h i d lt = record {
  some = let default = value_in_range params (defaults params) i d (Belongs-defaults params h) lt in omega (arith, default);
  few = few_values params i d h lt;
}
