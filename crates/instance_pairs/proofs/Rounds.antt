-- Places, round by round.
use Rattle.std.specs.Prelude.{ℕ, ◌≡◌, ◌≤◌, ◌<◌, ◌+◌, ◌-◌, ◌*◌, ◌/◌, ◌%◌, List, [], ◌∷◌, ◌++◌, length, get_or, slice_index}
use Rattle.std.proofs.Common.{ap, sym, ◌∙◌, arith}
use Rattle.std.proofs.Math.Nat.{mod-lt, mod-eq_of_lt, mul-add-mod_self_right}
use Rattle.std.proofs.lemmas.Nat.{div-mul-add}
use Rattle.std.proofs.lemmas.List.FromFn.{length-map-range_with_len, get_or-map-range_with_len, map-range_with_len_more}
use Rattle.scenario_files.specs.declared.draft.PairOrder.{PairOrder}
use Rattle.scenario_files.specs.declared.draft.PairOrder.TheVariants.{Shuffled, File}
use Rattle.seeded_order.specs.Draws.{word_of, order_of}
use Rattle.seeded_order.proofs.Orders.{length-order_of, All-order_of}
use Rattle.instance_pairs.specs.declared.spots.Spot.{Spot}
use Rattle.instance_pairs.specs.Pairs.{round_of, position_of, round_stream, number_at, seed_count, seed_at, spot_at, spots_to, AreSpots}

-- one place more
pub more_spots : (order : PairOrder) (seed count n : ℕ) (spots : List Spot) (spot : Spot) → spots ≡ spots_to order seed count n → spot ≡ spot_at order seed count (n + 1) → spots ++ spot ∷ [] ≡ spots_to order seed count (n + 1)
more_spots order seed count n spots spot so is =
    ap (λ xs. xs ++ spot ∷ []) so ∙ ap (λ x. spots_to order seed count n ++ x ∷ []) is ∙ sym (map-range_with_len_more (spot_at order seed count) 1 n (n + 1) (omega arith))

-- the round and the position of a place that follows whole rounds and some positions
pub round_is : (count round position : ℕ) → position < count → round_of count (round * count + position + 1) ≡ round
round_is count round position h =
    let same : round * count + position + 1 - 1 ≡ round * count + position = omega arith in
    ap (λ n. n / count) same ∙ div-mul-add round count position h

pub position_is : (count round position : ℕ) → position < count → position_of count (round * count + position + 1) ≡ position
position_is count round position h =
    let same : round * count + position + 1 - 1 ≡ round * count + position = omega arith in
    ap (λ n. n % count) same ∙ mul-add-mod_self_right round count position ∙ mod-eq_of_lt h

-- the place after so many has this number and seed in file order
pub file_spot : (seed count n number place : ℕ) → number ≡ n % count → place ≡ n + 1 → record { instance = number; seed = place } ≡ spot_at File seed count (n + 1)
file_spot seed count n number place is next =
    let same : n ≡ n + 1 - 1 = omega arith in
    let position : number ≡ (n + 1 - 1) % count = is ∙ ap (λ k. k % count) same in
    λ i. record { instance = position i; seed = next i }

-- the same of a place of a round in shuffled order
pub shuffled_spot : (seed count round position number word stream : ℕ) → position < count → stream ≡ 2 * round + 1 → number ≡ slice_index (order_of seed stream count) position → word ≡ word_of seed stream (count + position)
    → record { instance = number; seed = word % seed_count } ≡ spot_at Shuffled seed count (round * count + position + 1)
shuffled_spot seed count round position number word stream h is stands drawn =
    let place = round * count + position + 1 in
    let same_stream : stream ≡ round_stream count place = is ∙ ap (λ b. 2 * b + 1) (sym (round_is count round position h)) in
    let same_position : position ≡ position_of count place = sym (position_is count round position h) in
    let first : number ≡ number_at Shuffled seed count place = stands ∙ ap (λ s. slice_index (order_of seed s count) position) same_stream ∙ ap (λ q. slice_index (order_of seed (round_stream count place) count) q) same_position in
    let second : word % seed_count ≡ seed_at Shuffled seed count place =
    ap (λ w. w % seed_count) (drawn ∙ ap (λ s. word_of seed s (count + position)) same_stream ∙ ap (λ q. word_of seed (round_stream count place) (count + q)) same_position) in
    λ i. record { instance = first i; seed = second i }

-- each place has the number of an instance
pub number_below : (order : PairOrder) (seed count place : ℕ) → 1 ≤ count → number_at order seed count place < count
number_below File seed count place some = mod-lt (place - 1) (omega (arith, some))
number_below Shuffled seed count place some =
    let stream = round_stream count place in
    let short : position_of count place < count = mod-lt (place - 1) (omega (arith, some)) in
    All-order_of seed stream count (position_of count place) 0 (omega (arith, short, length-order_of seed stream count))

-- the spot of a place
pub spot_is : (order : PairOrder) (seed count max_runs : ℕ) (spots : List Spot) (place : ℕ) (d : Spot) → AreSpots order seed count max_runs spots → 1 ≤ place → place ≤ max_runs
    → get_or spots (place - 1) d ≡ spot_at order seed count place
spot_is order seed count max_runs spots place d are first last =
    ap (λ xs. get_or xs (place - 1) d) are.each
    ∙ get_or-map-range_with_len (spot_at order seed count) 1 (length spots) (place - 1) place d (omega (arith, are.enough)) (omega arith)

-- spots of so many places are enough for fewer runs
pub spots_are : (order : PairOrder) (seed count max_runs n : ℕ) (spots : List Spot) → spots ≡ spots_to order seed count n → max_runs ≤ n → AreSpots order seed count max_runs spots
spots_are order seed count max_runs n spots so enough =
    let size : length spots ≡ n = ap length so ∙ length-map-range_with_len (spot_at order seed count) 1 n in
    record { enough = omega (arith, size); each = so ∙ ap (spots_to order seed count) (sym size) }
