-- How many parameters, values, conditions and clauses a space has at most.
use Rattle.std.proofs.Common.{ℕ, zero, suc, ◌+◌, ◌≡◌, ◌<◌, ◌≤◌, ◌++◌, List, [], ◌∷◌, None, length, get_or, arith}
use Rattle.std.proofs.lemmas.Bool.Decides.{nat_tests}
use Rattle.param_space.specs.declared.lists.Condition.{Condition}
use Rattle.param_space.specs.declared.lists.Forbidden.{Forbidden}
use Rattle.param_space.specs.declared.lists.Param.{Param}
use Rattle.param_space.specs.declared.lists.Part.TheVariants as part
use Rattle.param_space.specs.Limits
use Rattle.param_space.specs.Faults.{param_rules, param_fault, later_params_fault, params_fault, condition_rules, condition_fault, conditions_fault, clause_rules, clause_fault, clauses_fault}
use Rattle.param_space.proofs.RuleLemmas.{rules_hold, none_here, few-faultless}

-- a parameter without a fault stands below place 256 and has at most 256 values
within_limits : (earlier : List (List ℕ)) (place : ℕ) (p : Param) → param_fault earlier place p ≡ None → (place < Limits.max_params) × (length p.values ≤ Limits.max_values)
within_limits earlier place p h =
    let within = (rules_hold (param_rules earlier place p) h).0 in
    grind (arith, nat_tests, within)

few_from : (params : List Param) (earlier : List (List ℕ)) (place : ℕ) → later_params_fault earlier place params ≡ None → place ≤ Limits.max_params → place + length params ≤ Limits.max_params
few_from [] earlier place h le = omega arith
few_from (p ∷ later) earlier place h le =
    let none = none_here part.Param place (param_fault earlier place p) (later_params_fault (earlier ++ p.name ∷ []) (place + 1) later) h in
    let here = within_limits earlier place p none.0 in
    let more = few_from later (earlier ++ p.name ∷ []) (place + 1) none.1 (omega arith) in
    omega arith

few_values_from : (params : List Param) (earlier : List (List ℕ)) (place i : ℕ) (d : Param) → later_params_fault earlier place params ≡ None → i < length params → length (get_or params i d).values ≤ Limits.max_values
few_values_from [] earlier place i d h lt = absurd (omega arith)
few_values_from (p ∷ later) earlier place zero d h lt =
    let none = none_here part.Param place (param_fault earlier place p) (later_params_fault (earlier ++ p.name ∷ []) (place + 1) later) h in
    (within_limits earlier place p none.0).1
few_values_from (p ∷ later) earlier place (suc i) d h lt =
    let none = none_here part.Param place (param_fault earlier place p) (later_params_fault (earlier ++ p.name ∷ []) (place + 1) later) h in
    few_values_from later (earlier ++ p.name ∷ []) (place + 1) i d none.1 (omega arith)

-- a space has at most 256 parameters
pub few_params : (params : List Param) → params_fault params ≡ None → length params ≤ Limits.max_params
few_params [] h = absurd (cc)
few_params (p ∷ later) h = let few = few_from (p ∷ later) [] 0 h (omega arith) in omega arith

-- and each of them has at most 256 values
pub few_values : (params : List Param) (i : ℕ) (d : Param) → params_fault params ≡ None → i < length params → length (get_or params i d).values ≤ Limits.max_values
few_values [] i d h lt = absurd (cc)
few_values (p ∷ later) i d h lt = few_values_from (p ∷ later) [] 0 i d h lt

-- a space has at most 1,024 conditions
pub few_conditions : (params : List Param) (conditions : List Condition) → conditions_fault params conditions ≡ None → length conditions ≤ Limits.max_conditions
few_conditions params conditions h =
    let few = few-faultless part.Condition (condition_fault params) Limits.max_conditions conditions 0 (λ i c none. (let first = (rules_hold (condition_rules params i c) none).0 in grind (arith, nat_tests, first))) (omega arith) h in
    omega (arith, few)

-- and at most 4,096 forbidden clauses
pub few_clauses : (params : List Param) (forbidden : List Forbidden) → clauses_fault params forbidden ≡ None → length forbidden ≤ Limits.max_clauses
few_clauses params forbidden h =
    let few = few-faultless part.Forbidden (clause_fault params) Limits.max_clauses forbidden 0 (λ i f none. (let first = (rules_hold (clause_rules params i f) none).0 in grind (arith, nat_tests, first))) (omega arith) h in
    omega (arith, few)
