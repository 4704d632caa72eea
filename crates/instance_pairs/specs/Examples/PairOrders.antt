-- The pairs of five runs in file order and shuffled, worked.
use Rattle.std.specs.Prelude.{◌≡◌, true, false, List, [], ◌∷◌, map, refl, codes}
use Rattle.rand_pcg.specs.Lcg.{state_after}
use Rattle.scenario_files.specs.declared.draft.PairOrder.TheVariants.{Shuffled, File}
use Rattle.seeded_order.specs.Draws.{generator_at, word_of, order_of}
use Rattle.instance_pairs.specs.declared.instances.Instance.{Instance}
use Rattle.instance_pairs.specs.Examples.InstanceFiles.{one, two}
use Rattle.instance_pairs.specs.Pairs.{Plan, DrawnPair, pair_at}

-- an instance more
abbrev pub three : Instance
three = record { name = codes "three"; specifics = codes "0" }

-- five runs over two instances in file order
abbrev pub file_order_plan : Plan
file_order_plan = record { instances = one ∷ two ∷ []; seed = 42; deterministic = false; order = File; max_runs = 5 }

-- each place has its own seed
abbrev pub file_order_pairs : List DrawnPair
file_order_pairs =
    record { instance = one; seed = 1 } ∷ record { instance = two; seed = 2 }
    ∷ record { instance = one; seed = 3 } ∷ record { instance = two; seed = 4 }
    ∷ record { instance = one; seed = 5 } ∷ []

pub file_order_drawn : map (pair_at file_order_plan) (1 ∷ 2 ∷ 3 ∷ 4 ∷ 5 ∷ []) ≡ file_order_pairs
file_order_drawn = refl

-- five runs over three instances, shuffled
abbrev pub shuffled_plan : Plan
shuffled_plan = record { instances = one ∷ two ∷ three ∷ []; seed = 42; deterministic = false; order = Shuffled; max_runs = 5 }

-- stream 1 has the words 4df1ccf9 e5838752 58ed9e10, so the order is 0 2 1, and then f3e37b51 e7664374 6afde4a8;
-- stream 3 has the words 5f0a808f 3a3913fa 87716622, so the order is 1 0 2, and then 2b8a4bc2 f5467bed 51d8405d
abbrev pub shuffled_pairs : List DrawnPair
shuffled_pairs =
    record { instance = one; seed = 0x73e37b51 } ∷ record { instance = three; seed = 0x67664374 } ∷ record { instance = two; seed = 0x6afde4a8 }
    ∷ record { instance = two; seed = 0x2b8a4bc2 } ∷ record { instance = one; seed = 0x75467bed } ∷ []

pub shuffled_drawn : map (pair_at shuffled_plan) (1 ∷ 2 ∷ 3 ∷ 4 ∷ 5 ∷ []) ≡ shuffled_pairs
unfolding order_of word_of generator_at state_after
shuffled_drawn = refl

-- three deterministic runs in the order of the first round
pub deterministic_drawn : map (pair_at (record shuffled_plan { deterministic = true; max_runs = 3 })) (1 ∷ 2 ∷ 3 ∷ []) ≡ record { instance = one; seed = 0 } ∷ record { instance = three; seed = 0 } ∷ record { instance = two; seed = 0 } ∷ []
unfolding order_of word_of generator_at state_after
deterministic_drawn = refl
