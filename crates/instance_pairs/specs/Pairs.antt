-- The pair of each place: an instance and a seed.
use Rattle.std.specs.Prelude.{ℕ, ◌≡◌, ◌≤◌, ◌+◌, ◌-◌, ◌*◌, ◌/◌, ◌%◌, Bool, List, [], length, map, min, slice_index, slice_index_or, if◌then◌else◌}
use Rattle.std.specs.List.{range_with_len}
use Rattle.objective.specs.Limits
use Rattle.scenario_files.specs.declared.draft.PairOrder.{PairOrder}
use Rattle.scenario_files.specs.declared.draft.PairOrder.TheVariants.{Shuffled, File}
use Rattle.seeded_order.specs.Draws.{word_of, order_of}
use Rattle.instance_pairs.specs.declared.instances.Instance.{Instance}
use Rattle.instance_pairs.specs.declared.spots.Spot.{Spot}
use Rattle.instance_pairs.specs.Limits.{max_instances}

-- what pairs are made of
pub record Plan : Type 0 where
  pub instances : List Instance
  pub seed : ℕ
  pub deterministic : Bool
  pub order : PairOrder
  pub max_runs : ℕ

-- the numbers of instances and runs that there may be
pub record ArePairsInRange (count max_runs : ℕ) : Type 0 where
  pub some : 1 ≤ count
  pub few : count ≤ max_instances
  pub one : 1 ≤ max_runs
  pub most : max_runs ≤ Limits.max_runs

-- so many runs as are wanted; where they are deterministic, no more than there are instances
abbrev pub max_runs_of : Bool → ℕ → ℕ → ℕ
max_runs_of deterministic count wanted = if deterministic then min wanted count else wanted

-- the round of a place, from 0; a round has a place for each instance
abbrev pub round_of : ℕ → ℕ → ℕ
round_of count place = (place - 1) / count

-- the position of a place in its round, from 0
abbrev pub position_of : ℕ → ℕ → ℕ
position_of count place = (place - 1) % count

-- the stream of the draws of a place's round
abbrev pub round_stream : ℕ → ℕ → ℕ
round_stream count place = 2 * round_of count place + 1

-- the number of a place's instance, from 0: in file order the position; shuffled what stands there in the round's order
abbrev pub number_at : PairOrder → ℕ → ℕ → ℕ → ℕ
number_at File seed count place = position_of count place
number_at Shuffled seed count place = slice_index (order_of seed (round_stream count place) count) (position_of count place)

-- how many seeds a word may give
abbrev pub seed_count : ℕ
seed_count = 2147483648

-- the seed of a place: in file order the place; shuffled a word of the round's stream after those of the order
abbrev pub seed_at : PairOrder → ℕ → ℕ → ℕ → ℕ
seed_at File seed count place = place
seed_at Shuffled seed count place = word_of seed (round_stream count place) (count + position_of count place) % seed_count

-- the instance and the seed of a place
pub record DrawnPair : Type 0 where
  pub instance : Instance
  pub seed : ℕ

-- the instance with a number
abbrev pub instance_at : List Instance → ℕ → Instance
instance_at instances number = slice_index_or instances number (record { name = []; specifics = [] })

-- the pair of a place, from 1; deterministic runs have the seed 0
abbrev pub pair_at : Plan → ℕ → DrawnPair
pair_at s place = record {
  instance = instance_at s.instances (number_at s.order s.seed (length s.instances) place);
  seed = if s.deterministic then 0 else seed_at s.order s.seed (length s.instances) place;
}

-- the number of a place's instance and its seed
abbrev pub spot_at : PairOrder → ℕ → ℕ → ℕ → Spot
spot_at order seed count place = record { instance = number_at order seed count place; seed = seed_at order seed count place }

-- the same of the places from 1 to n
abbrev pub spots_to : PairOrder → ℕ → ℕ → ℕ → List Spot
spots_to order seed count n = map (spot_at order seed count) (range_with_len 1 n)

-- the spots of the first places, those of all runs among them
pub record AreSpots (order : PairOrder) (seed count max_runs : ℕ) (spots : List Spot) : Type 0 where
  pub enough : max_runs ≤ length spots
  pub each : spots ≡ spots_to order seed count (length spots)
