-- Each neighbour is an allowed canonical configuration.
use Rattle.std.specs.Prelude.{ℕ, zero, suc, ◌+◌, ◌<◌, ◌≤◌, List, [], ◌∷◌, ◌≡◌, Bool, true, false, cond, length, slice_index, slice_set, not, ◌==◌}
use Rattle.std.specs.List.{All, filter, flat_map, range_with_len}
use Rattle.std.proofs.Common.{arith, refl, subst}
use Rattle.std.proofs.lemmas.List.{get_or-map}
use Rattle.std.proofs.lemmas.List.Elements.{All-nil, All-cons, All-head, All-tail, All-append, All-filter, All-map, All-weaker}
use Rattle.param_space.specs.declared.lists.Param.{Param}
use Rattle.param_space.specs.Space.{Lists, Belongs, value_count}
use Rattle.param_space.specs.Faults.{IsSpace}
use Rattle.param_space.specs.Configurations.{is_active, is_allowed, IsConfig}
use Rattle.param_space.proofs.BelongsLemmas.{Belongs-set}
use Rattle.param_space.proofs.Soundness.{settled_is_config}
use Rattle.neighbourhood.specs.Neighbours.{other_values, exchange_of, exchanges, active_params, neighbours_of}

-- what holds of each element of each part holds of each element of all
All-flat_map : {X Y : Type 0} (P : Y → Type 0) (f : X → List Y) (xs : List X) → All (λ x. All P (f x)) xs → All P (flat_map f xs)
All-flat_map P f [] h = All-nil P
All-flat_map P f (x ∷ xs) h = All-append P (f x) (flat_map f xs) (All-head (λ y. All P (f y)) x xs h) (All-flat_map P f xs (All-tail (λ y. All P (f y)) x xs h))

-- the numbers of a range are below its end
pub range_below : (m a n : ℕ) → a + n ≤ m → All (λ v. v < m) (range_with_len a n)
range_below m a zero h = All-nil (λ v. v < m)
range_below m a (suc n) h = All-cons (λ v. v < m) a (range_with_len (a + 1) n) (omega arith) (range_below m (a + 1) n (omega arith))

pub no_param : Param
no_param = record { name = []; values = []; default = 0 }

-- a value number that is below the parameter's number of values may be set
pub Belongs-exchange : (params : List Param) (θ : List ℕ) (p v : ℕ) → Belongs params θ → p < length params → v < value_count params p → Belongs params (slice_set θ p v)
Belongs-exchange params θ p v h lt below =
    let count = get_or-map (λ (q : Param). length q.values) params p no_param 0 lt in
    Belongs-set params θ p v no_param h lt (subst (λ n. v < n) count below)

-- an allowed one is a configuration of the space
abbrev AllowedIsConfig : Lists → List ℕ → Type 0
AllowedIsConfig lists θ = is_allowed lists θ ≡ true → IsConfig lists θ

exchange_is_config : (lists : Lists) → IsSpace lists → (θ : List ℕ) → Belongs lists.params θ → (p v : ℕ) → p < length lists.params → v < value_count lists.params p → AllowedIsConfig lists (exchange_of lists θ p v)
exchange_is_config lists space θ belongs p v lt below allowed =
    settled_is_config lists space (slice_set θ p v) (Belongs-exchange lists.params θ p v belongs lt below) allowed

exchanges_are_configs : (lists : Lists) → IsSpace lists → (θ : List ℕ) → Belongs lists.params θ → (p : ℕ) → p < length lists.params → All (AllowedIsConfig lists) (exchanges lists θ p)
exchanges_are_configs lists space θ config p lt =
    let count : ℕ = value_count lists.params p in
    let below = All-filter (λ v. not (v == slice_index θ p)) (λ v. v < count) (range_with_len 0 count) (range_below count 0 count (omega arith)) in
    All-map (AllowedIsConfig lists) (exchange_of lists θ p) (other_values lists.params θ p)
    (All-weaker (λ v. v < count) (λ v. AllowedIsConfig lists (exchange_of lists θ p v)) (λ v less. exchange_is_config lists space θ config p v lt less) (other_values lists.params θ p) below)

-- what holds of the elements that pass holds of all that are kept
All-kept : {X : Type 0} (passes : X → Bool) (P : X → Type 0) (xs : List X) → All (λ x. passes x ≡ true → P x) xs → All P (filter passes xs)
All-kept passes P [] h = All-nil P
All-kept passes P (x ∷ xs) h = by (passes x) refl (All-kept passes P xs (All-tail (λ y. passes y ≡ true → P y) x xs h))
  where
    by : (b : Bool) → passes x ≡ b → All P (filter passes xs) → All P (cond b (x ∷ filter passes xs) (filter passes xs))
    by true e later = All-cons P x (filter passes xs) (All-head (λ y. passes y ≡ true → P y) x xs h e) later
    by false e later = later

-- each neighbour is an allowed canonical configuration
pub neighbours_sound : (lists : Lists) → IsSpace lists → (θ : List ℕ) → Belongs lists.params θ → All (IsConfig lists) (neighbours_of lists θ)
unfolding neighbours_of
neighbours_sound lists space θ config =
    let count : ℕ = length lists.params in
    let below = All-filter (is_active lists θ) (λ p. p < count) (range_with_len 0 count) (range_below count 0 count (omega arith)) in
    let each = All-weaker (λ p. p < count) (λ p. All (AllowedIsConfig lists) (exchanges lists θ p)) (λ p less. exchanges_are_configs lists space θ config p less) (active_params lists θ) below in
    All-kept (is_allowed lists) (IsConfig lists) (flat_map (exchanges lists θ) (active_params lists θ)) (All-flat_map (AllowedIsConfig lists) (exchanges lists θ) (active_params lists θ) each)
