-- What holds of each space: its conditions run in no circle, settling makes canonical configurations, and the defaults are allowed.
use Rattle.std.proofs.Common.{ℕ, ◌≡◌, ◌<◌, Bool, true, false, not, ◌&&◌, nat_lt, List, [], ◌∷◌, None, length, refl, ap, arith}
use Rattle.std.specs.List.{All, list_all}
use Rattle.std.proofs.lemmas.Bool.Decides.{nat_tests}
use Rattle.std.proofs.lemmas.List.Elements.{All-nil, All-cons, All-weaker}
use Rattle.std.proofs.lemmas.List.Folds.{list_any_none}
use Rattle.param_space.specs.declared.lists.Condition.{Condition}
use Rattle.param_space.specs.declared.lists.Forbidden.{Forbidden}
use Rattle.param_space.specs.declared.lists.Pick.{Pick}
use Rattle.param_space.specs.declared.lists.Param.{Param}
use Rattle.param_space.specs.declared.lists.Part.TheVariants as part
use Rattle.param_space.specs.Space.{Lists, Belongs, defaults}
use Rattle.param_space.specs.Ancestors.{is_ancestor, IsNamed, IsAcyclic, rank}
use Rattle.param_space.proofs.Ranks.{rank_rises, rank_below}
use Rattle.param_space.specs.Configurations.{is_active, settled_config, is_forbidden_by, is_allowed, IsConfig}
use Rattle.param_space.specs.Marks.{ArePicksNamed}
use Rattle.param_space.proofs.ActiveParams.{is_met, IsRanked, active_is}
use Rattle.param_space.proofs.SettledConfigs.{settled_canonical, settled_belongs, defaults_canonical}
use Rattle.param_space.proofs.BelongsLemmas.{Belongs-defaults}
use Rattle.param_space.specs.Faults.{first_broken, condition_rules, condition_fault, conditions_fault, clause_rules, clause_fault, clauses_fault, cycle_rules, cycle_fault, default_rules, IsSpace}
use Rattle.param_space.proofs.RuleLemmas.{rules_hold, All-faultless}

-- a condition without a fault names parameters
condition_named : (params : List Param) (place : ℕ) (c : Condition) → condition_fault params place c ≡ None → IsNamed (length params) c
condition_named params place c h =
    let known = (rules_hold (condition_rules params place c) h).1.1.1.0 in
    record { child = grind (arith, nat_tests, known); parent = grind (arith, nat_tests, known) }

-- conditions without a fault name parameters
pub faultless_named : (params : List Param) (conditions : List Condition) → conditions_fault params conditions ≡ None → All (IsNamed (length params)) conditions
faultless_named params conditions h = All-faultless part.Condition (condition_fault params) (IsNamed (length params)) conditions 0 (condition_named params) h

-- clauses without a fault name parameters
pub faultless_picks : (params : List Param) (forbidden : List Forbidden) → clauses_fault params forbidden ≡ None → All (ArePicksNamed (length params)) forbidden
faultless_picks params forbidden h =
    All-faultless part.Forbidden (clause_fault params) (ArePicksNamed (length params)) forbidden 0
    (λ i f none. all_below (length params) f.picks ((rules_hold (clause_rules params i f) none).1.1.1.0)) h
  where
    all_below : (n : ℕ) (picks : List Pick) → list_all (λ k. nat_lt k.param n) picks ≡ true → All (λ k. k.param < n) picks
    all_below n [] h = All-nil (λ k. k.param < n)
    all_below n (k ∷ picks) h =
        let both : (k.param < n) × (list_all (λ j. nat_lt j.param n) picks ≡ true) = first (nat_lt k.param n) refl h in
        All-cons (λ j. j.param < n) k picks both.0 (all_below n picks both.1)
      where
        first : (b : Bool) → nat_lt k.param n ≡ b → b && list_all (λ j. nat_lt j.param n) picks ≡ true → (k.param < n) × (list_all (λ j. nat_lt j.param n) picks ≡ true)
        first true e rest = (grind (arith, nat_tests, e), rest)
        first false e rest = absurd (cc)

-- the conditions of a space name parameters
pub conditions_named : (lists : Lists) → IsSpace lists → All (IsNamed (length lists.params)) lists.conditions
conditions_named lists space = faultless_named lists.params lists.conditions space.conditions

not_true : (b : Bool) → not b ≡ true → b ≡ false
not_true true h = absurd (cc)
not_true false h = refl

-- where no cycle is found, no child of a condition is its own ancestor
pub faultless_acyclic : (lists : Lists) → cycle_fault lists ≡ None → IsAcyclic (length lists.params) lists.conditions
faultless_acyclic lists none =
    All-faultless part.Condition (λ _ c. first_broken (cycle_rules lists c)) (λ c. is_ancestor lists c.child c.child ≡ false) lists.conditions 0
    (λ _ c h. not_true (is_ancestor lists c.child c.child) (rules_hold (cycle_rules lists c) h).0) none

-- so it is in a space
pub conditions_acyclic : (lists : Lists) → IsSpace lists → IsAcyclic (length lists.params) lists.conditions
conditions_acyclic lists space = faultless_acyclic lists space.acyclic

-- parents of a space rank below their children
pub is_ranked : (lists : Lists) → IsSpace lists → IsRanked lists (rank (length lists.params) lists.conditions)
is_ranked lists space = record {
  rises = rank_rises (length lists.params) lists.conditions (conditions_named lists space) (conditions_acyclic lists space);
  bounded = λ p. rank_below (length lists.params) lists.conditions p;
}

parents_named : (lists : Lists) → IsSpace lists → All (λ c. c.parent < length lists.params) lists.conditions
parents_named lists space = All-weaker (IsNamed (length lists.params)) (λ c. c.parent < length lists.params) (λ c named. named.parent) lists.conditions (conditions_named lists space)

-- a parameter of a space is active exactly where each condition with it as child has an active parent with a listed value
pub active_exactly : (lists : Lists) → IsSpace lists → (config : List ℕ) (p : ℕ) → is_active lists config p ≡ list_all (is_met config (is_active lists config) p) lists.conditions
active_exactly lists space config p = active_is lists (rank (length lists.params) lists.conditions) (is_ranked lists space) config p

-- a settled configuration that is allowed is one of the space's own
pub settled_is_config : (lists : Lists) → IsSpace lists → (config : List ℕ) → Belongs lists.params config → is_allowed lists (settled_config lists config) ≡ true → IsConfig lists (settled_config lists config)
settled_is_config lists space config belongs allowed = record {
  belongs = settled_belongs lists config (Belongs-defaults lists.params space.params) belongs;
  canonical = settled_canonical lists (rank (length lists.params) lists.conditions) (is_ranked lists space) (parents_named lists space) config belongs;
  allowed = allowed;
}

-- no clause of a space forbids the defaults
none_forbids : (lists : Lists) → IsSpace lists → All (λ f. is_forbidden_by lists (defaults lists.params) f ≡ false) lists.forbidden
none_forbids lists space =
    All-faultless part.Forbidden (λ _ f. first_broken (default_rules lists f)) (λ f. is_forbidden_by lists (defaults lists.params) f ≡ false) lists.forbidden 0
    (λ _ f h. not_true (is_forbidden_by lists (defaults lists.params) f) (rules_hold (default_rules lists f) h).0) space.default

-- the configuration of the defaults is one of the space's own
pub default_is_config : (lists : Lists) → IsSpace lists → IsConfig lists (defaults lists.params)
default_is_config lists space = record {
  belongs = Belongs-defaults lists.params space.params;
  canonical = defaults_canonical lists;
  allowed = ap not (list_any_none (is_forbidden_by lists (defaults lists.params)) lists.forbidden (none_forbids lists space));
}
