-- Pairs that are equal are the same.
use Rattle.std.proofs.Common.{◌≡◌, ◌==◌, Bool, true, false, ◌&&◌, refl}
use Rattle.std.specs.Cmp.Lexicographic.{pointwise}
use Rattle.std.specs.Str.{bytes_eq}
use Rattle.std.proofs.lemmas.Bool.{eqb-true, and_parts}
use mathlib.Core.Bool.{beq}
use Rattle.scenario_files.specs.declared.draft.PairOrder.{PairOrder}
use Rattle.scenario_files.specs.declared.draft.PairOrder.TheVariants.{Shuffled, File}
use Rattle.scenario_files.specs.contracts.draft.PairOrderPartialEq.TheImpl as order
use Rattle.instance_pairs.specs.declared.instances.Instance.{Instance}
use Rattle.instance_pairs.specs.contracts.instances.InstancePartialEq.TheImpl as instance
use Rattle.instance_pairs.specs.Pairs.{Plan}
use Rattle.instance_pairs.specs.contracts.pairs.PairsPartialEq.TheImpl as pairs
use Rattle.plain_text.proofs.SameItems.{same_items, same_text}

-- instances that are equal are the same
same_instance : (a b : Instance) → instance.ghosts.eq a b ≡ true → a ≡ b
same_instance a b same =
    let both = and_parts (bytes_eq a.name b.name) (bytes_eq a.specifics b.specifics) same in
    let name = same_text a.name b.name both.0 in
    let specifics = same_text a.specifics b.specifics both.1 in
    λ i. record { name = name i; specifics = specifics i }

-- orders that are equal are the same
same_order : (a b : PairOrder) → order.ghosts.eq a b ≡ true → a ≡ b
same_order Shuffled Shuffled same = refl
same_order File File same = refl
same_order Shuffled File same = absurd (let e : false ≡ true = same in cc)
same_order File Shuffled same = absurd (let e : false ≡ true = same in cc)

-- truth values that are equal are the same
same_truth : (a b : Bool) → beq a b ≡ true → a ≡ b
same_truth true true same = refl
same_truth false false same = refl
same_truth true false same = absurd (let e : false ≡ true = same in cc)
same_truth false true same = absurd (let e : false ≡ true = same in cc)

-- pairs that are equal are the same
pub same_pairs : (a b : Plan) → pairs.ghosts.eq a b ≡ true → a ≡ b
same_pairs a b same =
    let max_runs = a.max_runs == b.max_runs in
    let orders = order.ghosts.eq a.order b.order && max_runs in
    let deterministic = beq a.deterministic b.deterministic && orders in
    let seed = (a.seed == b.seed) && deterministic in
    let one = and_parts (pointwise instance.ghosts.eq a.instances b.instances) seed same in
    let two = and_parts (a.seed == b.seed) deterministic one.1 in
    let three = and_parts (beq a.deterministic b.deterministic) orders two.1 in
    let four = and_parts (order.ghosts.eq a.order b.order) max_runs three.1 in
    let instances = same_items instance.ghosts.eq same_instance a.instances b.instances one.0 in
    let seeds = eqb-true a.seed b.seed two.0 in
    let settled = same_truth a.deterministic b.deterministic three.0 in
    let ordered = same_order a.order b.order four.0 in
    let runs = eqb-true a.max_runs b.max_runs four.1 in
    λ i. record { instances = instances i; seed = seeds i; deterministic = settled i; order = ordered i; max_runs = runs i }
