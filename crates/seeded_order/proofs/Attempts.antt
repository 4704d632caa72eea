-- Values drawn one after another, and attempts one after another.
use Rattle.std.proofs.Common.{ℕ, zero, suc, ◌≡◌, ◌<◌, ◌≤◌, None, ◌+◌, ◌*◌, ◌%◌, true, false, List, [], ◌∷◌, ◌++◌, length, take, get_or, sym, ap, subst, ◌∙◌, arith, add-one}
use Rattle.param_space.specs.declared.lists.Param.{Param}
use Rattle.param_space.specs.Space.{Lists, defaults, Belongs}
use Rattle.param_space.specs.Limits.{max_values}
use Rattle.param_space.specs.Faults.{params_fault, IsSpace}
use Rattle.param_space.specs.Configurations.{settled_config, is_allowed}
use Rattle.rand_pcg.specs.Lcg.{Lcg}
use Rattle.rand_pcg.specs.Pcg.{pcg32}
use Rattle.seeded_order.specs.Draws.{generator_at, word_of, values_of, attempt_of, first_allowed_config}
use Rattle.seeded_order.proofs.Streams.{next_word_is}
use Rattle.seeded_order.proofs.ParamValues.{HasValues, All-HasValues}
use Rattle.seeded_order.proofs.RandomConfigs.{Belongs-values_of}

-- the parameter that a loop reads has a value, and no more than there may be
pub read_has_values : (params : List Param) (i : ℕ) (p : Param) (texts : List (List ℕ)) → params_fault params ≡ None → i < length params → p ≡ get_or params i p → texts ≡ p.values → (0 < length texts) × (length texts ≤ max_values)
read_has_values params i p texts sound lt is e =
    let has : HasValues p = subst HasValues (sym is) (All-HasValues params sound i p lt) in
    (subst (λ ts. 0 < length ts) (sym e) has.some, subst (λ ts. length ts ≤ max_values) (sym e) has.few)

-- one value more
pub more_values : (seed stream k : ℕ) (params : List Param) (i : ℕ) (d : Param) → i < length params
    → values_of seed stream k (take (suc i) params) ≡ values_of seed stream k (take i params) ++ (word_of seed stream (k + i) % length (get_or params i d).values) ∷ []
more_values seed stream k [] i d h = absurd (omega arith)
more_values seed stream k (p ∷ later) zero d h =
    let same : k ≡ k + 0 = omega arith in
    ap (λ n. (word_of seed stream n % length p.values) ∷ []) same
more_values seed stream k (p ∷ later) (suc i) d h =
    let same : k + 1 + i ≡ k + suc i = omega arith in
    ap (λ rest. word_of seed stream k % length p.values ∷ rest)
    (subst (λ n. values_of seed stream (k + 1) (take (suc i) later) ≡ values_of seed stream (k + 1) (take i later) ++ (word_of seed stream n % length (get_or later i d).values) ∷ []) same
    (more_values seed stream (k + 1) later i d (omega arith)))

-- the same of a loop that reads a parameter and takes the next word
pub more_drawn : (seed stream k i word : ℕ) (params : List Param) (p : Param) (texts : List (List ℕ)) (before after : Lcg) (values later : List ℕ)
    → i < length params → p ≡ get_or params i p → texts ≡ p.values → (word, after) ≡ pcg32 before → later ≡ values ++ (word % length texts) ∷ []
    → before ≡ generator_at seed stream (k + i) → values ≡ values_of seed stream k (take i params)
    → (after ≡ generator_at seed stream (k + (i + 1))) × (later ≡ values_of seed stream k (take (i + 1) params))
more_drawn seed stream k i word params p texts before after values later lt is e taken pushed at drawn =
    let step = next_word_is seed stream (k + i) word before after taken at in
    let place : k + i + 1 ≡ k + (i + 1) = omega arith in
    let same : texts ≡ (get_or params i p).values = e ∙ ap (λ q. q.values) is in
    let value = ap (λ w. values ++ (w % length texts) ∷ []) step.0 ∙ ap (λ ts. values ++ (word_of seed stream (k + i) % length ts) ∷ []) same in
    let front = ap (λ vs. vs ++ (word_of seed stream (k + i) % length (get_or params i p).values) ∷ []) drawn in
    let more = sym (more_values seed stream k params i p lt) in
    (step.1 ∙ ap (generator_at seed stream) place, pushed ∙ value ∙ front ∙ more ∙ ap (λ n. values_of seed stream k (take n params)) (sym (add-one i)))

-- the values that were drawn belong to the space
pub drawn_belong : (seed stream k : ℕ) (lists : Lists) (params : List Param) (config : List ℕ) → IsSpace lists → params ≡ lists.params → config ≡ values_of seed stream k params → Belongs lists.params config
drawn_belong seed stream k lists params config space e drawn =
    let all = All-HasValues lists.params space.params in
    let same : config ≡ values_of seed stream k lists.params = drawn ∙ ap (values_of seed stream k) e in
    subst (Belongs lists.params) (sym same) (Belongs-values_of seed stream k lists.params all)

-- and once they are settled they are the attempt
pub settled_is_attempt : (seed stream a : ℕ) (lists : Lists) (params : List Param) (config after : List ℕ) → params ≡ lists.params → config ≡ values_of seed stream (a * length params) params → after ≡ settled_config lists config → after ≡ attempt_of seed stream lists a
unfolding attempt_of
settled_is_attempt seed stream a lists params config after e drawn settling =
    settling ∙ ap (settled_config lists) (drawn ∙ ap (λ ps. values_of seed stream (a * length ps) ps) e)

-- the words of the next attempt follow those of this one
pub next_attempt : (seed stream a n : ℕ) → generator_at seed stream (a * n + n) ≡ generator_at seed stream ((a + 1) * n)
next_attempt seed stream a n =
    let place : a * n + n ≡ (a + 1) * n = omega arith in
    ap (generator_at seed stream) place

-- an attempt that is allowed is the answer
pub allowed_now : (seed stream : ℕ) (lists : Lists) (left a : ℕ) → 0 < left → is_allowed lists (attempt_of seed stream lists a) ≡ true → first_allowed_config seed stream lists left a ≡ attempt_of seed stream lists a
unfolding first_allowed_config
allowed_now seed stream lists zero a some h = absurd (omega arith)
allowed_now seed stream lists (suc left) a some h =
    ap (λ b. elim b as (λ _. List ℕ) [ true ↦ attempt_of seed stream lists a | false ↦ first_allowed_config seed stream lists left (a + 1) ]) h

-- after one that isn't it is one of the later ones
pub denied_now : (seed stream : ℕ) (lists : Lists) (left later a : ℕ) → left ≡ suc later → is_allowed lists (attempt_of seed stream lists a) ≡ false → first_allowed_config seed stream lists left a ≡ first_allowed_config seed stream lists later (a + 1)
unfolding first_allowed_config
denied_now seed stream lists left later a e h =
    ap (λ n. first_allowed_config seed stream lists n a) e
    ∙ ap (λ b. elim b as (λ _. List ℕ) [ true ↦ attempt_of seed stream lists a | false ↦ first_allowed_config seed stream lists later (a + 1) ]) h

-- with no attempt left it is the default
pub none_left : (seed stream : ℕ) (lists : Lists) (left a : ℕ) → left ≡ 0 → first_allowed_config seed stream lists left a ≡ defaults lists.params
unfolding first_allowed_config
none_left seed stream lists left a e = ap (λ n. first_allowed_config seed stream lists n a) e
