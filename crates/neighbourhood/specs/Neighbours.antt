-- The one-exchange neighbourhood: the configurations that come from giving one active parameter another value.
use Rattle.std.specs.Prelude.{ℕ, ◌==◌, not, List, length, map, slice_index, slice_set}
use Rattle.std.specs.List.{filter, flat_map, range_with_len}
use Rattle.param_space.specs.declared.lists.Param.{Param}
use Rattle.param_space.specs.Space.{Lists, value_count}
use Rattle.param_space.specs.Configurations.{is_active, settled_config, is_allowed}

-- the numbers of a parameter's values but for the one that it has in the configuration
abbrev pub other_values : List Param → List ℕ → ℕ → List ℕ
other_values params θ p = filter (λ v. not (v == slice_index θ p)) (range_with_len 0 (value_count params p))

-- the configuration with another value of one parameter, settled
abbrev pub exchange_of : Lists → List ℕ → ℕ → ℕ → List ℕ
exchange_of lists θ p v = settled_config lists (slice_set θ p v)

-- the configurations with another value of this parameter, by value number
abbrev pub exchanges : Lists → List ℕ → ℕ → List (List ℕ)
exchanges lists θ p = map (exchange_of lists θ p) (other_values lists.params θ p)

-- the numbers of the parameters that are active in the configuration
abbrev pub active_params : Lists → List ℕ → List ℕ
active_params lists θ = filter (is_active lists θ) (range_with_len 0 (length lists.params))

-- the neighbours: the allowed configurations that one exchange leads to, by parameter and then by value number
unfoldable pub neighbours_of : Lists → List ℕ → List (List ℕ)
neighbours_of lists θ = filter (is_allowed lists) (flat_map (exchanges lists θ) (active_params lists θ))
