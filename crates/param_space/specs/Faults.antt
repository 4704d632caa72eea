-- The rules of a parameter space, and the first one that lists break.
use Rattle.std.specs.Prelude.{ℕ, ◌+◌, ◌≡◌, ◌==◌, Bool, true, false, not, ◌&&◌, List, [], ◌∷◌, ◌++◌, Option, Some, None, IfSome, nat_lt, nat_le, length, map, bytes_eq}
use Rattle.std.specs.List.{list_any, list_all}
use Rattle.plain_text.specs.Words.{is_word}
use Rattle.plain_text.specs.Texts.{differ, texts_differ}
use Rattle.param_space.specs.declared.lists.Param.{Param}
use Rattle.param_space.specs.declared.lists.Condition.{Condition}
use Rattle.param_space.specs.declared.lists.Forbidden.{Forbidden}
use Rattle.param_space.specs.declared.lists.Part.{Part}
use Rattle.param_space.specs.declared.lists.Part.TheVariants as part
use Rattle.param_space.specs.declared.lists.SpaceWhat.{SpaceWhat}
use Rattle.param_space.specs.declared.lists.SpaceWhat.TheVariants.{NoParameters, TooMany, BadWord, DoubleName, NoValues, DoubleValue, BadDefault, UnknownName, UnknownValue, Cycle, DefaultForbidden}
use Rattle.param_space.specs.declared.lists.Breach.{Breach}
use Rattle.param_space.specs.declared.lists.SpaceFault.{SpaceFault}
use Rattle.param_space.specs.declared.lists.SpaceFault.TheVariants.{At, Memory}
use Rattle.param_space.specs.Limits
use Rattle.param_space.specs.Space.{Lists, value_count, defaults}
use Rattle.param_space.specs.Ancestors.{is_ancestor}
use Rattle.param_space.specs.Configurations.{is_forbidden_by}

-- ---- lists of rules

-- what the first rule that doesn't hold is called
abbrev pub first_broken : List (Bool × SpaceWhat) → Option SpaceWhat
first_broken [] = None
first_broken ((true, _) ∷ rules) = first_broken rules
first_broken ((false, what) ∷ _) = Some what

-- this fault of the element at a place, or else what follows
abbrev pub or_later : Part → ℕ → Option SpaceWhat → Option Breach → Option Breach
or_later part place (Some what) later = Some (record { part = part; place = place; what = what })
or_later part place None later = later

-- the first fault of the elements of a list, which stand from a place on
abbrev pub first_in : {X : Type 0} → Part → (ℕ → X → Option SpaceWhat) → ℕ → List X → Option Breach
first_in part fault place [] = None
first_in part fault place (x ∷ later) = or_later part place (fault place x) (first_in part fault (place + 1) later)

-- the first of two faults
abbrev pub or_else : Option Breach → Option Breach → Option Breach
or_else (Some fault) later = Some fault
or_else None later = later

-- no two of the numbers are equal
abbrev pub numbers_differ : List ℕ → Bool
numbers_differ numbers = differ (◌==◌) numbers

-- ---- parameters

-- the rules of the parameter at a place, after parameters with these names
abbrev pub param_rules : List (List ℕ) → ℕ → Param → List (Bool × SpaceWhat)
param_rules earlier place p =
    (nat_lt place Limits.max_params && nat_le (length p.values) Limits.max_values, TooMany)
    ∷ (is_word p.name && list_all is_word p.values, BadWord)
    ∷ (not (list_any (bytes_eq p.name) earlier), DoubleName)
    ∷ (nat_lt 0 (length p.values), NoValues)
    ∷ (texts_differ p.values, DoubleValue)
    ∷ (nat_lt p.default (length p.values), BadDefault)
    ∷ []

-- the first of them that it breaks
abbrev pub param_fault : List (List ℕ) → ℕ → Param → Option SpaceWhat
param_fault earlier place p = first_broken (param_rules earlier place p)

-- the first fault of the parameters from a place on, after parameters with these names
abbrev pub later_params_fault : List (List ℕ) → ℕ → List Param → Option Breach
later_params_fault earlier place [] = None
later_params_fault earlier place (p ∷ later) =
    or_later part.Param place (param_fault earlier place p) (later_params_fault (earlier ++ p.name ∷ []) (place + 1) later)

-- the first fault of the parameters
abbrev pub params_fault : List Param → Option Breach
params_fault [] = Some (record { part = part.Whole; place = 0; what = NoParameters })
params_fault (p ∷ later) = later_params_fault [] 0 (p ∷ later)

-- ---- conditions

-- the rules of the condition at a place
abbrev pub condition_rules : List Param → ℕ → Condition → List (Bool × SpaceWhat)
condition_rules params place c =
    (nat_lt place Limits.max_conditions, TooMany)
    ∷ (nat_lt 0 (length c.values), NoValues)
    ∷ (numbers_differ c.values, DoubleValue)
    ∷ (nat_lt c.child (length params) && nat_lt c.parent (length params), UnknownName)
    ∷ (list_all (λ v. nat_lt v (value_count params c.parent)) c.values, UnknownValue)
    ∷ []

-- the first of them that it breaks
abbrev pub condition_fault : List Param → ℕ → Condition → Option SpaceWhat
condition_fault params place c = first_broken (condition_rules params place c)

-- the first fault of the conditions
abbrev pub conditions_fault : List Param → List Condition → Option Breach
conditions_fault params conditions = first_in part.Condition (condition_fault params) 0 conditions

-- ---- forbidden clauses

-- the rules of the forbidden clause at a place
abbrev pub clause_rules : List Param → ℕ → Forbidden → List (Bool × SpaceWhat)
clause_rules params place f =
    (nat_lt place Limits.max_clauses && nat_le (length f.picks) Limits.max_picks, TooMany)
    ∷ (nat_lt 0 (length f.picks), NoValues)
    ∷ (numbers_differ (map (λ k. k.param) f.picks), DoubleName)
    ∷ (list_all (λ k. nat_lt k.param (length params)) f.picks, UnknownName)
    ∷ (list_all (λ k. nat_lt k.value (value_count params k.param)) f.picks, UnknownValue)
    ∷ []

-- the first of them that it breaks
abbrev pub clause_fault : List Param → ℕ → Forbidden → Option SpaceWhat
clause_fault params place f = first_broken (clause_rules params place f)

-- the first fault of the forbidden clauses
abbrev pub clauses_fault : List Param → List Forbidden → Option Breach
clauses_fault params forbidden = first_in part.Forbidden (clause_fault params) 0 forbidden

-- ---- the space as a whole

-- no condition's child is its own ancestor
abbrev pub cycle_rules : Lists → Condition → List (Bool × SpaceWhat)
cycle_rules lists c = (not (is_ancestor lists c.child c.child), Cycle) ∷ []

-- the first condition whose child is its own ancestor
abbrev pub cycle_fault : Lists → Option Breach
cycle_fault lists = first_in part.Condition (λ _ c. first_broken (cycle_rules lists c)) 0 lists.conditions

-- no clause forbids the configuration of the defaults
abbrev pub default_rules : Lists → Forbidden → List (Bool × SpaceWhat)
default_rules lists f = (not (is_forbidden_by lists (defaults lists.params) f), DefaultForbidden) ∷ []

-- the first clause that forbids the configuration of the defaults
abbrev pub default_fault : Lists → Option Breach
default_fault lists = first_in part.Forbidden (λ _ f. first_broken (default_rules lists f)) 0 lists.forbidden

-- the first fault of three lists, each by itself
abbrev pub lists_fault : Lists → Option Breach
lists_fault lists =
    or_else (params_fault lists.params) (or_else (conditions_fault lists.params lists.conditions) (clauses_fault lists.params lists.forbidden))

-- the first fault of them as a whole
abbrev pub whole_fault : Lists → Option Breach
whole_fault lists = or_else (cycle_fault lists) (default_fault lists)

-- the first fault of three lists
abbrev pub space_fault : Lists → Option Breach
space_fault lists = or_else (lists_fault lists) (whole_fault lists)

-- lists of which each by itself has no fault
pub record AreFaultless (lists : Lists) : Type 0 where
  pub params : params_fault lists.params ≡ None
  pub conditions : conditions_fault lists.params lists.conditions ≡ None
  pub clauses : clauses_fault lists.params lists.forbidden ≡ None

-- lists that make a space: they break no rule
pub record IsSpace (lists : Lists) : Type 0 where
  pub params : params_fault lists.params ≡ None
  pub conditions : conditions_fault lists.params lists.conditions ≡ None
  pub clauses : clauses_fault lists.params lists.forbidden ≡ None
  pub acyclic : cycle_fault lists ≡ None
  pub default : default_fault lists ≡ None

-- the breach that a fault tells of; none where there was no memory left
abbrev pub breach_of : SpaceFault → Option Breach
breach_of (At part place what) = Some (record { part = part; place = place; what = what })
breach_of Memory = None

-- the breach that a fault tells of is the one that is found
abbrev pub IsBreach : SpaceFault → Option Breach → Type 0
IsBreach fault found = IfSome (breach_of fault) (λ breach. found ≡ Some breach)
