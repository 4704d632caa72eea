-- What the uncapped procedure knows by the rules of a search: the neighbours and the draws.
use Rattle.std.specs.Prelude.{ℕ, ◌*◌, List, [], ◌∷◌, Option, Some, None, length, map}
use Rattle.std.specs.List.{slice_index_or}
use Rattle.param_space.specs.Space.{defaults}
use Rattle.neighbourhood.specs.Neighbours.{neighbours_of}
use Rattle.seeded_order.specs.Draws.{order_of, one_of, coin_of, random_config_of}
use Rattle.uncapped.specs.Procedure.{Settings}
use Rattle.uncapped.specs.Setup.{Setup}
use Rattle.ils_face.specs.Rules.{Rules}

-- the stream of a search event; the odd streams serve the pairs
abbrev pub stream_of : ℕ → ℕ
stream_of event = 2 * event

-- the configurations with these numbers of a list
abbrev pub configs_at : List Settings → List ℕ → List Settings
configs_at θs numbers = map (λ i. slice_index_or θs i []) numbers

-- the configurations in the order of a stream
abbrev pub in_order_of : ℕ → ℕ → List Settings → List Settings
in_order_of seed stream θs = configs_at θs (order_of seed stream (length θs))

-- one of the configurations, where there is one
abbrev pub one_from : ℕ → ℕ → List Settings → Option Settings
one_from seed stream [] = None
one_from seed stream (θ ∷ rest) = Some (slice_index_or (θ ∷ rest) (one_of seed stream (length (θ ∷ rest))) [])

-- what the procedure knows by these rules
unfoldable pub setup_of : Rules → Setup
setup_of rules = record {
  start = defaults rules.space.params;
  max_runs = rules.max_runs;
  budget = rules.budget;
  initial = rules.initial;
  strength = rules.strength;
  neighbours = neighbours_of rules.space;
  in_order = λ event θs. in_order_of rules.seed (stream_of event) θs;
  one_of = λ event θs. one_from rules.seed (stream_of event) θs;
  random = λ event. random_config_of rules.seed (stream_of event) rules.space;
  coin = λ event. coin_of rules.seed (stream_of event) rules.restart;
}
