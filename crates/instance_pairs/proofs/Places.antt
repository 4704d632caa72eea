-- What is read of the spots of places.
use Rattle.std.proofs.Common.{ℕ, ◌≡◌, ◌≤◌, ◌<◌, ◌-◌, Bool, true, false, cond, List, [], length, get_or, ap, sym, subst, ◌∙◌}
use Rattle.std.proofs.lemmas.List.{get_or_default}
use Rattle.scenario_files.specs.declared.draft.PairOrder.{PairOrder}
use Rattle.instance_pairs.specs.declared.instances.Instance.{Instance}
use Rattle.instance_pairs.specs.declared.spots.Spot.{Spot}
use Rattle.instance_pairs.specs.Pairs.{number_at, spot_at, instance_at, AreSpots}
use Rattle.instance_pairs.proofs.Rounds.{number_below, spot_is}

-- the spot that is read for a place
pub spot_read : (order : PairOrder) (seed count max_runs : ℕ) (spots read : List Spot) (place : ℕ) (d : Spot) → AreSpots order seed count max_runs spots → read ≡ spots → 1 ≤ place → place ≤ max_runs
    → get_or read (place - 1) d ≡ spot_at order seed count place
spot_read order seed count max_runs spots read place d are same first last =
    ap (λ xs. get_or xs (place - 1) d) same ∙ spot_is order seed count max_runs spots place d are first last

-- the number of a spot is that of an instance
pub read_below : (order : PairOrder) (seed count place : ℕ) (s : Spot) → s ≡ spot_at order seed count place → 1 ≤ count → s.instance < count
read_below order seed count place s is some = subst (λ n. n < count) (sym (ap (λ x. x.instance) is)) (number_below order seed count place some)

-- the instance that is read for a place
pub instance_read : (order : PairOrder) (seed place : ℕ) (instances read : List Instance) (s : Spot) (i : Instance) → s ≡ spot_at order seed (length instances) place → 1 ≤ length instances → read ≡ instances → i ≡ get_or read s.instance i
    → i ≡ instance_at instances (number_at order seed (length instances) place)
instance_read order seed place instances read s i is some same at =
    let number = number_at order seed (length instances) place in
    at
    ∙ ap (λ xs. get_or xs s.instance i) same
    ∙ ap (λ n. get_or instances n i) (ap (λ x. x.instance) is)
    ∙ get_or_default instances number i (record { name = []; specifics = [] }) (number_below order seed (length instances) place some)

-- the seed of a deterministic run, and of another
pub no_seed : (deterministic : Bool) (result seed : ℕ) → result ≡ 0 → deterministic ≡ true → result ≡ cond deterministic 0 seed
no_seed deterministic result seed is test = is ∙ sym (ap (λ (b : Bool). cond b 0 seed) test)

pub own_seed : (deterministic : Bool) (result seed : ℕ) → result ≡ seed → deterministic ≡ false → result ≡ cond deterministic 0 seed
own_seed deterministic result seed is test = is ∙ sym (ap (λ (b : Bool). cond b 0 seed) test)
