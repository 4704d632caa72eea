-- The numbers of parameters and values are below 2^16.
use Rattle.std.proofs.Common.{◌≡◌, ◌<◌, ◌≤◌, ◌∙◌, ℕ, List, None, length, get_or, ap, arith}
use Rattle.param_space.specs.declared.lists.Param.{Param}
use Rattle.param_space.specs.Limits.{max_values}
use Rattle.param_space.specs.Faults.{params_fault}
use Rattle.param_space.proofs.SpaceSizes.{few_values}

-- the values of the parameter that is read are no more than there may be
pub few_read : (params read : List Param) (i : ℕ) (p : Param) (texts : List (List ℕ)) → params_fault params ≡ None → i < length params → read ≡ params → texts ≡ (get_or read i p).values → length texts ≤ max_values
few_read params read i p texts sound lt same e =
    let few = few_values params i p sound lt in
    omega (arith, few, ap length (e ∙ ap (λ qs. (get_or qs i p).values) same))
