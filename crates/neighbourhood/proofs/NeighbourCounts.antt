-- A configuration has no more neighbours than there may be values in all.
use Rattle.std.proofs.Common.{ℕ, suc, ◌*◌, ◌≡◌, ◌<◌, ◌≤◌, ◌==◌, not, Bool, true, false, cond, List, [], ◌∷◌, length, arith, length-append}
use Rattle.std.specs.Prelude.{slice_index}
use Rattle.std.specs.List.{All, filter, flat_map, range_with_len}
use Rattle.std.proofs.lemmas.List.{get_or-map, length-map}
use Rattle.std.proofs.lemmas.List.Elements.{All-head, All-tail, All-filter, All-weaker}
use Rattle.std.proofs.lemmas.List.FromFn.{length-range_with_len}
use Rattle.param_space.specs.declared.lists.Param.{Param}
use Rattle.param_space.specs.Space.{Lists, value_count}
use Rattle.param_space.specs.Limits.{max_params, max_values}
use Rattle.param_space.specs.Faults.{IsSpace}
use Rattle.param_space.proofs.SpaceSizes.{few_values, few_params}
use Rattle.param_space.specs.Configurations.{is_active, is_allowed}
use Rattle.neighbourhood.specs.Neighbours.{other_values, exchange_of, exchanges, active_params, neighbours_of}
use Rattle.neighbourhood.proofs.Soundness.{no_param, range_below}

-- a filter keeps no more than there is
kept : {X : Type 0} (p : X → Bool) (xs : List X) → length (filter p xs) ≤ length xs
kept p [] = omega arith
kept {X} p (x ∷ xs) = at_either (kept p xs) (p x)
  where
    at_either : length (filter p xs) ≤ length xs → (b : Bool) → length (cond b (x ∷ filter p xs) (filter p xs)) ≤ suc (length xs)
    at_either h true = omega (arith, h)
    at_either h false = omega (arith, h)

-- parts of at most so many elements each
joined : {X Y : Type 0} (f : X → List Y) (most : ℕ) (xs : List X) → All (λ x. length (f x) ≤ most) xs → length (flat_map f xs) ≤ most * length xs
joined f most [] h = omega arith
joined f most (x ∷ xs) h =
    let first : length (f x) ≤ most = All-head (λ x. length (f x) ≤ most) x xs h in
    let later : length (flat_map f xs) ≤ most * length xs = joined f most xs (All-tail (λ x. length (f x) ≤ most) x xs h) in
    omega (arith, first, later, length-append (f x) (flat_map f xs))

few_exchanges : (lists : Lists) → IsSpace lists → (θ : List ℕ) (p : ℕ) → p < length lists.params → length (exchanges lists θ p) ≤ max_values
few_exchanges lists space θ p lt =
    let count : value_count lists.params p ≡ _ = get_or-map (λ (q : Param). length q.values) lists.params p no_param 0 lt in
    let few = few_values lists.params p no_param space.params lt in
    let all = length-range_with_len 0 (value_count lists.params p) in
    let some = kept (λ v. not (v == slice_index θ p)) (range_with_len 0 (value_count lists.params p)) in
    let same = length-map (other_values lists.params θ p) (exchange_of lists θ p) in
    omega (arith, count, few, all, some, same)

-- at most so many parameters with at most so many values each
pub few_neighbours : (lists : Lists) → IsSpace lists → (θ : List ℕ) → length (neighbours_of lists θ) ≤ max_params * max_values
unfolding neighbours_of
few_neighbours lists space θ =
    let count : ℕ = length lists.params in
    let below = All-filter (is_active lists θ) (λ p. p < count) (range_with_len 0 count) (range_below count 0 count (omega arith)) in
    let each = All-weaker (λ p. p < count) (λ p. length (exchanges lists θ p) ≤ max_values) (λ p less. few_exchanges lists space θ p less) (active_params lists θ) below in
    let all = joined (exchanges lists θ) max_values (active_params lists θ) each in
    let active = kept (is_active lists θ) (range_with_len 0 count) in
    let numbers = length-range_with_len 0 count in
    let few = few_params lists.params space.params in
    let allowed = kept (is_allowed lists) (flat_map (exchanges lists θ) (active_params lists θ)) in
    omega (arith, all, active, numbers, few, allowed)
