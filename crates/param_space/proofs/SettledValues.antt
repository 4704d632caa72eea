-- Settling a configuration, one value after another.
use Rattle.std.proofs.Common.{ℕ, zero, suc, ◌≡◌, ◌≢◌, ◌<◌, ◌≤◌, ◌+◌, ◌++◌, Bool, true, false, cond, List, [], ◌∷◌, length, take, drop, get_or, slice_set, refl, sym, ap, ◌∙◌, arith, add-one, take_all}
use Rattle.std.proofs.lemmas.Bool.{false_from_ne_true}
use Rattle.std.proofs.lemmas.List.{append-nil, length-append, length-take, length-drop, drop_all}
use Rattle.std.proofs.lemmas.Slice.Eq.{bytes_eq-Decides}
use Rattle.std.specs.List.{slice_index_or}
use Rattle.param_space.specs.Limits
use Rattle.param_space.specs.declared.lists.Param.{Param}
use Rattle.param_space.specs.Space.{Lists, Belongs}
use Rattle.param_space.proofs.BelongsLemmas.{length-Belongs}
use Rattle.param_space.specs.Configurations.{is_active, settled_values, settled_config, is_canonical}

-- a value of a settled configuration
settled_from_at : (lists : Lists) (config : List ℕ) (place : ℕ) (ps : List Param) (vs : List ℕ) (i : ℕ) (d : Param) → Belongs ps vs → i < length ps
    → get_or (settled_values lists config place ps vs) i 0 ≡ cond (is_active lists config (place + i)) (get_or vs i 0) (get_or ps i d).default
settled_from_at lists config place [] vs i d h lt = absurd (omega arith)
settled_from_at lists config place (p ∷ ps) [] i d h lt = absurd h
settled_from_at lists config place (p ∷ ps) (v ∷ vs) zero d h lt =
    ap (λ k. cond (is_active lists config k) v p.default) (let e : place ≡ place + 0 = omega arith in e)
settled_from_at lists config place (p ∷ ps) (v ∷ vs) (suc i) d h lt =
    settled_from_at lists config (place + 1) ps vs i d h.1 (omega arith)
    ∙ ap (λ k. cond (is_active lists config k) (get_or vs i 0) (get_or ps i d).default) (let e : (place + 1) + i ≡ place + suc i = omega arith in e)

pub settled_at : (lists : Lists) (config : List ℕ) (i : ℕ) (d : Param) → Belongs lists.params config → i < length lists.params
    → get_or (settled_config lists config) i 0 ≡ cond (is_active lists config i) (get_or config i 0) (get_or lists.params i d).default
settled_at lists config i d h lt =
    settled_from_at lists config 0 lists.params config i d h lt
    ∙ ap (λ k. cond (is_active lists config k) (get_or config i 0) (get_or lists.params i d).default) (let e : 0 + i ≡ i = omega arith in e)

length-settled_from : (lists : Lists) (config : List ℕ) (place : ℕ) (ps : List Param) (vs : List ℕ) → Belongs ps vs → length (settled_values lists config place ps vs) ≡ length ps
length-settled_from lists config place [] vs h = refl
length-settled_from lists config place (p ∷ ps) [] h = absurd h
length-settled_from lists config place (p ∷ ps) (v ∷ vs) h = let more = length-settled_from lists config (place + 1) ps vs h.1 in omega (arith, more)

pub length-settled : (lists : Lists) (config : List ℕ) → Belongs lists.params config → length (settled_config lists config) ≡ length lists.params
length-settled lists config h = length-settled_from lists config 0 lists.params config h

-- the first i values of one list, and the others of another
abbrev pub mixed_values : List ℕ → List ℕ → ℕ → List ℕ
mixed_values new old i = take i new ++ drop i old

same_from : (new old : List ℕ) (i : ℕ) → i < length new → i < length old → get_or new i 0 ≡ get_or old i 0 → mixed_values new old i ≡ mixed_values new old (suc i)
same_from [] old i h k e = absurd (omega arith)
same_from (x ∷ new) [] i h k e = absurd (omega arith)
same_from (x ∷ new) (y ∷ old) zero h k e = rw e refl
same_from (x ∷ new) (y ∷ old) (suc i) h k e = ap (λ xs. x ∷ xs) (same_from new old i (omega arith) (omega arith) e)

set_from : (new old : List ℕ) (i v : ℕ) → i < length new → i < length old → v ≡ get_or new i 0 → slice_set (mixed_values new old i) i v ≡ mixed_values new old (suc i)
set_from [] old i v h k e = absurd (omega arith)
set_from (x ∷ new) [] i v h k e = absurd (omega arith)
set_from (x ∷ new) (y ∷ old) zero v h k e = ap (λ w. w ∷ old) e
set_from (x ∷ new) (y ∷ old) (suc i) v h k e = ap (λ xs. x ∷ xs) (set_from new old i v (omega arith) (omega arith) e)

-- a value that stays
pub mixed_same : (new old : List ℕ) (i : ℕ) → i < length new → i < length old → get_or new i 0 ≡ get_or old i 0 → mixed_values new old i ≡ mixed_values new old (i + 1)
mixed_same new old i h k e = rw add-one (same_from new old i h k e)

-- a value that is set
pub mixed_set : (new old : List ℕ) (i v : ℕ) → i < length new → i < length old → v ≡ get_or new i 0 → slice_set (mixed_values new old i) i v ≡ mixed_values new old (i + 1)
mixed_set new old i v h k e = rw add-one (set_from new old i v h k e)

pub length-mixed : (new old : List ℕ) (i : ℕ) → length new ≡ length old → length (mixed_values new old i) ≡ length old
length-mixed new old i e = omega (arith, length-append (take i new) (drop i old), length-take i new, length-drop i old, e)

-- at the end all are the new ones
pub mixed_all : (new old : List ℕ) (i : ℕ) → length new ≤ i → length old ≤ i → mixed_values new old i ≡ new
mixed_all new old i h k = ap (λ xs. xs ++ drop i old) (take_all i new h) ∙ ap (λ ys. new ++ ys) (drop_all i old k) ∙ append-nil new

-- a configuration with a value that settling changes is not canonical
pub not_canonical : (lists : Lists) (config : List ℕ) (i : ℕ) → get_or (settled_config lists config) i 0 ≢ get_or config i 0 → is_canonical lists config ≡ false
not_canonical lists config i differ =
    false_from_ne_true (is_canonical lists config) (λ e. differ (ap (λ vs. get_or vs i 0) ((bytes_eq-Decides (settled_config lists config) config).0 e)))

-- where settling changes no value, it is
pub all_canonical : (lists : Lists) (config : List ℕ) → settled_config lists config ≡ config → is_canonical lists config ≡ true
all_canonical lists config same = (bytes_eq-Decides (settled_config lists config) config).1 same

-- a place after the first i values of the settled configuration, and the parameter at it
pub record IsSettling (lists : Lists) (config old : List ℕ) (active : List Bool) (i : ℕ) : Type 0 where
  pub belongs : Belongs lists.params old
  pub marked : (p : ℕ) → p < Limits.max_params → slice_index_or active p false ≡ is_active lists old p
  pub few : length lists.params ≤ Limits.max_params
  pub within : i < length lists.params
  pub so_far : config ≡ mixed_values (settled_config lists old) old i

-- an active parameter keeps its value
pub kept_value : (lists : Lists) (config old : List ℕ) (active : List Bool) (i : ℕ) (d : Param) → IsSettling lists config old active i → slice_index_or active i false ≡ true
    → config ≡ mixed_values (settled_config lists old) old (i + 1)
kept_value lists config old active i d h marked =
    let yes : is_active lists old i ≡ true = sym (h.marked i (omega (arith, h.within, h.few))) ∙ marked in
    let value = settled_at lists old i d h.belongs h.within ∙ ap (λ b. cond b (get_or old i 0) (get_or lists.params i d).default) yes in
    h.so_far ∙ mixed_same (settled_config lists old) old i (omega (arith, h.within, length-settled lists old h.belongs)) (omega (arith, h.within, length-Belongs lists.params old h.belongs)) value

-- any other takes its default
pub default_value : (lists : Lists) (config old : List ℕ) (active : List Bool) (i : ℕ) (p : Param) → IsSettling lists config old active i → slice_index_or active i false ≡ false → p ≡ get_or lists.params i p
    → slice_set config i p.default ≡ mixed_values (settled_config lists old) old (i + 1)
default_value lists config old active i p h marked is =
    let no_mark : is_active lists old i ≡ false = sym (h.marked i (omega (arith, h.within, h.few))) ∙ marked in
    let value = settled_at lists old i p h.belongs h.within ∙ ap (λ b. cond b (get_or old i 0) (get_or lists.params i p).default) no_mark in
    ap (λ vs. slice_set vs i p.default) h.so_far
    ∙ mixed_set (settled_config lists old) old i p.default (omega (arith, h.within, length-settled lists old h.belongs)) (omega (arith, h.within, length-Belongs lists.params old h.belongs)) (ap (λ q. q.default) is ∙ sym value)

-- after all parameters the configuration is the settled one
pub all_settled : (lists : Lists) (config old : List ℕ) (i : ℕ) → Belongs lists.params old → length lists.params ≤ i → config ≡ mixed_values (settled_config lists old) old i → config ≡ settled_config lists old
all_settled lists config old i belongs end so_far =
    so_far ∙ mixed_all (settled_config lists old) old i (omega (arith, end, length-settled lists old belongs)) (omega (arith, end, length-Belongs lists.params old belongs))

-- the value of an active parameter is settled
pub active_same : (lists : Lists) (config : List ℕ) (active : List Bool) (i : ℕ) (d : Param) → Belongs lists.params config → ((q : ℕ) → q < Limits.max_params → slice_index_or active q false ≡ is_active lists config q)
    → length lists.params ≤ Limits.max_params → i < length lists.params → slice_index_or active i false ≡ true → get_or (settled_config lists config) i 0 ≡ get_or config i 0
active_same lists config active i d belongs marked few lt on =
    let yes : is_active lists config i ≡ true = sym (marked i (omega (arith, lt, few))) ∙ on in
    settled_at lists config i d belongs lt ∙ ap (λ b. cond b (get_or config i 0) (get_or lists.params i d).default) yes

-- and so is the default of an inactive one
pub default_same : (lists : Lists) (config : List ℕ) (active : List Bool) (i : ℕ) (p : Param) → Belongs lists.params config → ((q : ℕ) → q < Limits.max_params → slice_index_or active q false ≡ is_active lists config q)
    → length lists.params ≤ Limits.max_params → i < length lists.params → p ≡ get_or lists.params i p → slice_index_or active i false ≡ false → get_or config i 0 ≡ p.default → get_or (settled_config lists config) i 0 ≡ get_or config i 0
default_same lists config active i p belongs marked few lt is off value =
    let no_mark : is_active lists config i ≡ false = sym (marked i (omega (arith, lt, few))) ∙ off in
    settled_at lists config i p belongs lt ∙ ap (λ b. cond b (get_or config i 0) (get_or lists.params i p).default) no_mark ∙ sym (value ∙ ap (λ q. q.default) is)

-- another value of an inactive parameter is not
pub other_value : (lists : Lists) (config : List ℕ) (active : List Bool) (i : ℕ) (p : Param) → Belongs lists.params config → ((q : ℕ) → q < Limits.max_params → slice_index_or active q false ≡ is_active lists config q)
    → length lists.params ≤ Limits.max_params → i < length lists.params → p ≡ get_or lists.params i p
    → slice_index_or active i false ≡ false → get_or config i 0 ≢ p.default → get_or (settled_config lists config) i 0 ≢ get_or config i 0
other_value lists config active i p belongs marked few lt is inactive other same =
    let no_mark : is_active lists config i ≡ false = sym (marked i (omega (arith, lt, few))) ∙ inactive in
    let value = settled_at lists config i p belongs lt ∙ ap (λ b. cond b (get_or config i 0) (get_or lists.params i p).default) no_mark in
    other (sym same ∙ value ∙ sym (ap (λ q. q.default) is))
