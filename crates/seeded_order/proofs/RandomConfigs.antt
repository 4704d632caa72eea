-- A configuration drawn at random is one of the space.
use Rattle.std.proofs.Common.{ℕ, zero, suc, ◌≡◌, ◌<◌, ◌+◌, ◌*◌, ◌%◌, Bool, true, false, List, [], ◌∷◌, length, refl, arith}
use Rattle.std.specs.List.{All}
use Rattle.std.proofs.lemmas.List.Elements.{All-head, All-tail}
use Rattle.param_space.specs.declared.lists.Param.{Param}
use Rattle.param_space.specs.Space.{Lists, Belongs}
use Rattle.param_space.specs.Faults.{IsSpace}
use Rattle.param_space.specs.Configurations.{is_allowed, IsConfig}
use Rattle.param_space.proofs.Soundness.{settled_is_config, default_is_config}
use Rattle.seeded_order.specs.Draws.{word_of, values_of, attempt_of, first_allowed_config, random_config_of}
use Rattle.seeded_order.specs.Limits.{max_attempts}
use Rattle.seeded_order.proofs.ParamValues.{HasValues, All-HasValues}

-- a word modulo the number of values is a value's number
pub Belongs-values_of : (seed stream k : ℕ) (params : List Param) → All HasValues params → Belongs params (values_of seed stream k params)
Belongs-values_of seed stream k [] h = tt
Belongs-values_of seed stream k (p ∷ later) h =
    let some : 0 < length p.values = (All-head HasValues p later h).some in
    let below : word_of seed stream k % length p.values < length p.values = omega arith in
    (below, Belongs-values_of seed stream (k + 1) later (All-tail HasValues p later h))

-- each attempt that is allowed is a configuration of the space
pub attempt_is_config : (lists : Lists) → IsSpace lists → (seed stream a : ℕ) → is_allowed lists (attempt_of seed stream lists a) ≡ true → IsConfig lists (attempt_of seed stream lists a)
unfolding attempt_of
attempt_is_config lists space seed stream a allowed =
    let values = values_of seed stream (a * length lists.params) lists.params in
    let belongs = Belongs-values_of seed stream (a * length lists.params) lists.params (All-HasValues lists.params space.params) in
    settled_is_config lists space values belongs allowed

first_is_config : (lists : Lists) → IsSpace lists → (seed stream left a : ℕ) → IsConfig lists (first_allowed_config seed stream lists left a)
unfolding first_allowed_config
first_is_config lists space seed stream zero a = default_is_config lists space
first_is_config lists space seed stream (suc left) a =
    by (is_allowed lists (attempt_of seed stream lists a)) refl (first_is_config lists space seed stream left (a + 1))
  where
    by : (b : Bool) → is_allowed lists (attempt_of seed stream lists a) ≡ b → IsConfig lists (first_allowed_config seed stream lists left (a + 1))
        → IsConfig lists (elim b [ true ↦ attempt_of seed stream lists a | false ↦ first_allowed_config seed stream lists left (a + 1) ])
    by true e later = attempt_is_config lists space seed stream a e
    by false e later = later

-- a configuration drawn at random is an allowed canonical one of the space
pub random_is_config : (lists : Lists) → IsSpace lists → (seed stream : ℕ) → IsConfig lists (random_config_of seed stream lists)
unfolding random_config_of
random_is_config lists space seed stream = first_is_config lists space seed stream max_attempts 0
