-- Which parameters of a configuration are active, and which configurations are canonical and allowed.
use Rattle.std.specs.Prelude.{ℕ, zero, suc, ◌+◌, ◌≡◌, ◌==◌, Bool, true, false, not, ◌&&◌, ◌||◌, List, [], ◌∷◌, length, bytes_eq, if◌then◌else◌}
use Rattle.std.specs.List.{list_any, list_all, slice_index_or}
use Rattle.param_space.specs.declared.lists.Param.{Param}
use Rattle.param_space.specs.declared.lists.Condition.{Condition}
use Rattle.param_space.specs.declared.lists.Pick.{Pick}
use Rattle.param_space.specs.declared.lists.Forbidden.{Forbidden}
use Rattle.param_space.specs.Space.{Lists, Belongs}

-- each condition of a parameter has an active parent with a listed value, up to so many generations of parents
unfoldable pub is_active_within : ℕ → List Condition → List ℕ → ℕ → Bool
is_active_within zero conditions config p = false
is_active_within (suc generations) conditions config p = list_all (λ c. not (c.child == p)
    || (list_any (λ v. slice_index_or config c.parent 0 == v) c.values && is_active_within generations conditions config c.parent)) conditions

-- a parameter is active where each condition with it as child has an active parent with a listed value
abbrev pub is_active : Lists → List ℕ → ℕ → Bool
is_active lists config p = is_active_within (suc (length lists.params)) lists.conditions config p

-- the values from a place on, with each inactive parameter at its default
abbrev pub settled_values : Lists → List ℕ → ℕ → List Param → List ℕ → List ℕ
settled_values lists config place [] values = []
settled_values lists config place (p ∷ ps) [] = []
settled_values lists config place (p ∷ ps) (v ∷ vs) =
    (if is_active lists config place then v else p.default) ∷ settled_values lists config (place + 1) ps vs

-- the configuration with each inactive parameter at its default
abbrev pub settled_config : Lists → List ℕ → List ℕ
settled_config lists config = settled_values lists config 0 lists.params config

-- each inactive parameter stands at its default
abbrev pub is_canonical : Lists → List ℕ → Bool
is_canonical lists config = bytes_eq (settled_config lists config) config

-- the parameter is active and has this value
abbrev pub is_picked : Lists → List ℕ → Pick → Bool
is_picked lists config pick = is_active lists config pick.param && (slice_index_or config pick.param 0 == pick.value)

-- all of a clause's picks stand together
abbrev pub is_forbidden_by : Lists → List ℕ → Forbidden → Bool
is_forbidden_by lists config clause = list_all (is_picked lists config) clause.picks

-- no clause has all its picks together
abbrev pub is_allowed : Lists → List ℕ → Bool
is_allowed lists config = not (list_any (is_forbidden_by lists config) lists.forbidden)

-- an allowed canonical configuration of the space
pub record IsConfig (lists : Lists) (config : List ℕ) : Type 0 where
  pub belongs : Belongs lists.params config
  pub canonical : is_canonical lists config ≡ true
  pub allowed : is_allowed lists config ≡ true
