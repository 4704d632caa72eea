-- What marks and ranks that were made say of the rules of a space.
use Rattle.std.proofs.Common.{ℕ, suc, ◌≡◌, ◌<◌, ◌≤◌, Bool, false, not, ◌&&◌, ◌==◌, List, [], ◌∷◌, Option, Some, None, Result, Ok, Err, IfErr, IfSome, length, slice_index, sym, ap, subst, ◌∙◌, arith}
use Rattle.std.specs.List.{All, list_any, slice_index_or}
use Rattle.std.proofs.lemmas.List.{length-map}
use Rattle.param_space.specs.Limits
use Rattle.param_space.specs.declared.lists.Condition.{Condition}
use Rattle.param_space.specs.declared.lists.Forbidden.{Forbidden}
use Rattle.param_space.specs.declared.lists.Part.TheVariants as part
use Rattle.param_space.specs.declared.lists.SpaceWhat.TheVariants.{Cycle, DefaultForbidden}
use Rattle.param_space.specs.declared.lists.Breach.{Breach}
use Rattle.param_space.specs.declared.lists.SpaceFault.{SpaceFault}
use Rattle.param_space.specs.declared.lists.SpaceFault.TheVariants.{At, Memory}
use Rattle.param_space.specs.Space.{Lists, defaults, Belongs}
use Rattle.param_space.specs.Ancestors.{is_ancestor_within, IsNamed, IsAcyclic, rank}
use Rattle.param_space.proofs.Ranks.{rank_rises}
use Rattle.param_space.proofs.ActiveParams.{all_alike}
use Rattle.param_space.specs.Configurations.{is_active_within, is_active, is_picked, is_forbidden_by, is_allowed}
use Rattle.param_space.specs.Faults.{first_broken, first_in, or_else, params_fault, conditions_fault, clauses_fault, cycle_rules, cycle_fault, default_rules, default_fault, lists_fault, AreFaultless, IsSpace, breach_of}
use Rattle.param_space.specs.Marks.{is_marked, is_marked_by, ArePicksNamed}
use Rattle.param_space.proofs.BelongsLemmas.{length-Belongs}
use Rattle.param_space.proofs.SpaceSizes.{few_params}
use Rattle.param_space.proofs.Soundness.{conditions_named, conditions_acyclic, faultless_picks}
use Rattle.param_space.proofs.ParamMarks.{any_alike}
use Rattle.param_space.proofs.RuleLemmas.{first_in-alike, neither}

-- marks of the parameters that are their own ancestors tell the first cycle
pub cycle_told : (lists : Lists) (own : List Bool) → All (IsNamed (length lists.params)) lists.conditions
    → ((p : ℕ) → p < length lists.params → slice_index_or own p false ≡ is_ancestor_within (length lists.params) lists.conditions p p)
    → first_in part.Condition (λ _ c. first_broken ((not (slice_index_or own c.child false), Cycle) ∷ [])) 0 lists.conditions ≡ cycle_fault lists
cycle_told lists own named same =
    first_in-alike part.Condition (λ _ c. first_broken ((not (slice_index_or own c.child false), Cycle) ∷ [])) (λ _ c. first_broken (cycle_rules lists c)) (IsNamed (length lists.params)) lists.conditions 0 named
    (λ _ c here. ap (λ b. first_broken ((not b, Cycle) ∷ [])) (same c.child here.child))

-- ranks that were made rise from parents to children
pub ranks_rise : (n : ℕ) (cs : List Condition) (ranks : List ℕ) → All (IsNamed n) cs → IsAcyclic n cs → ((p : ℕ) → p < n → slice_index ranks p ≡ rank n cs p) → All (λ c. slice_index ranks c.parent < slice_index ranks c.child) cs
ranks_rise n cs ranks named acyclic same i d lt =
    let here = named i d lt in
    let rises = rank_rises n cs named acyclic i d lt in
    omega (arith, same (slice_index_or cs i d).parent here.parent, same (slice_index_or cs i d).child here.child, rises)

-- marks of the active parameters tell whether a clause forbids the configuration
pub forbidden_told : (lists : Lists) (config : List ℕ) (active : List Bool) (clause : Forbidden) → length lists.params ≤ Limits.max_params → ArePicksNamed (length lists.params) clause
    → ((p : ℕ) → p < Limits.max_params → slice_index_or active p false ≡ is_active lists config p) → is_marked_by active config clause ≡ is_forbidden_by lists config clause
forbidden_told lists config active clause few named same =
    all_alike (λ k. k.param < length lists.params) (is_marked active config) (is_picked lists config) clause.picks named
    (λ k here. ap (λ b. b && (slice_index_or config k.param 0 == k.value)) (same k.param (omega (arith, here, few))))

-- and the first clause that forbids the defaults
pub default_told : (lists : Lists) (active : List Bool) → length lists.params ≤ Limits.max_params → All (ArePicksNamed (length lists.params)) lists.forbidden
    → ((p : ℕ) → p < Limits.max_params → slice_index_or active p false ≡ is_active lists (defaults lists.params) p)
    → first_in part.Forbidden (λ _ f. first_broken ((not (is_marked_by active (defaults lists.params) f), DefaultForbidden) ∷ [])) 0 lists.forbidden ≡ default_fault lists
default_told lists active few named same =
    first_in-alike part.Forbidden (λ _ f. first_broken ((not (is_marked_by active (defaults lists.params) f), DefaultForbidden) ∷ [])) (λ _ f. first_broken (default_rules lists f)) (ArePicksNamed (length lists.params)) lists.forbidden 0 named
    (λ _ f here. ap (λ b. first_broken ((not b, DefaultForbidden) ∷ [])) (forbidden_told lists (defaults lists.params) active f few here same))

-- lists without a fault of their own
pub faultless : (lists : Lists) → lists_fault lists ≡ None → AreFaultless lists
faultless lists h =
    let first = neither (params_fault lists.params) (or_else (conditions_fault lists.params lists.conditions) (clauses_fault lists.params lists.forbidden)) h in
    let second = neither (conditions_fault lists.params lists.conditions) (clauses_fault lists.params lists.forbidden) first.1 in
    record { params = first.0; conditions = second.0; clauses = second.1 }

-- lists without any fault make a space
pub is_space : (lists : Lists) → AreFaultless lists → cycle_fault lists ≡ None → default_fault lists ≡ None → IsSpace lists
is_space lists none acyclic allowed = record { params = none.params; conditions = none.conditions; clauses = none.clauses; acyclic = acyclic; default = allowed }

-- a fault tells of the breach that was found
pub cause_found : (fault : SpaceFault) (breach : Breach) (found : Option Breach) → breach_of fault ≡ Some breach → found ≡ Some breach → IfSome (breach_of fault) (λ b. found ≡ Some b)
cause_found fault breach found is h = rw is h

-- and of the same one where the same one was found
pub cause_kept : {A : Type 0} (r : Result A SpaceFault) (found found' : Option Breach) → found ≡ found' → IfErr r (λ e. IfSome (breach_of e) (λ b. found ≡ Some b)) → IfErr r (λ e. IfSome (breach_of e) (λ b. found' ≡ Some b))
cause_kept (Ok x) found found' same h = tt
cause_kept (Err (At part place what)) found found' same h = sym same ∙ h
cause_kept (Err Memory) found found' same h = tt

-- the same of the values that a loop collected and of the marks that were made of them
pub default_made : (lists : Lists) (values values' : List ℕ) (active : List Bool) (result : Option Breach) → length lists.params ≤ Limits.max_params → All (ArePicksNamed (length lists.params)) lists.forbidden
    → values ≡ defaults lists.params → values' ≡ defaults lists.params
    → ((p : ℕ) → p < Limits.max_params → slice_index_or active p false ≡ is_active_within (suc (length values)) lists.conditions values p)
    → result ≡ first_in part.Forbidden (λ _ f. first_broken ((not (is_marked_by active values' f), DefaultForbidden) ∷ [])) 0 lists.forbidden
    → result ≡ default_fault lists
default_made lists values values' active result few named made made' marks found =
    let long : length values ≡ length lists.params = ap length made ∙ length-map lists.params (λ p. p.default) in
    let marked : (p : ℕ) → p < Limits.max_params → slice_index_or active p false ≡ is_active lists (defaults lists.params) p =
    λ p lt. marks p lt ∙ ap (λ n. is_active_within (suc n) lists.conditions values p) long ∙ ap (λ vs. is_active lists vs p) made in
    found ∙ ap (λ vs. first_in part.Forbidden (λ _ f. first_broken ((not (is_marked_by active vs f), DefaultForbidden) ∷ [])) 0 lists.forbidden) made' ∙ default_told lists active few named marked

-- what is known of a space's conditions at a configuration, as lists that were read
pub record IsReadable (n : ℕ) (cs : List Condition) : Type 0 where
  pub named : All (IsNamed n) cs
  pub acyclic : IsAcyclic n cs
  pub few : n ≤ Limits.max_params

pub readable : (lists : Lists) (config : List ℕ) (cs : List Condition) (values : List ℕ) → IsSpace lists → Belongs lists.params config → cs ≡ lists.conditions → values ≡ config → IsReadable (length values) cs
readable lists config cs values space belongs same-conditions same-values =
    let long : length values ≡ length lists.params = ap length same-values ∙ length-Belongs lists.params config belongs in
    subst (λ n. IsReadable n cs) (sym long) (subst (IsReadable (length lists.params)) (sym same-conditions) (record {
      named = conditions_named lists space;
      acyclic = conditions_acyclic lists space;
      few = few_params lists.params space.params;
    }))

-- activity that was made of lists that were read
pub activity_read : (lists : Lists) (config : List ℕ) (cs : List Condition) (values : List ℕ) → Belongs lists.params config → cs ≡ lists.conditions → values ≡ config
    → (p : ℕ) → is_active_within (suc (length values)) cs values p ≡ is_active lists config p
activity_read lists config cs values belongs same-conditions same-values p =
    ap (λ n. is_active_within (suc n) cs values p) (ap length same-values ∙ length-Belongs lists.params config belongs)
    ∙ ap (λ ds. is_active_within (suc (length lists.params)) ds values p) same-conditions
    ∙ ap (λ vs. is_active lists vs p) same-values

-- the clauses of a space, as they were read
pub picks_read : (lists : Lists) (config : List ℕ) (clauses : List Forbidden) (values : List ℕ) → IsSpace lists → Belongs lists.params config → clauses ≡ lists.forbidden → values ≡ config → All (ArePicksNamed (length values)) clauses
picks_read lists config clauses values space belongs same same-values =
    subst (λ n. All (ArePicksNamed n) clauses) (sym (ap length same-values ∙ length-Belongs lists.params config belongs))
    (subst (All (ArePicksNamed (length lists.params))) (sym same) (faultless_picks lists.params lists.forbidden space.clauses))

-- whether a clause forbids a configuration, by the marks of its active parameters
pub allowed_told : (lists : Lists) (config : List ℕ) (active : List Bool) (clauses : List Forbidden) (values : List ℕ) (found : Bool) → IsSpace lists → length lists.params ≤ Limits.max_params → clauses ≡ lists.forbidden → values ≡ config
    → ((p : ℕ) → p < Limits.max_params → slice_index_or active p false ≡ is_active lists config p) → found ≡ list_any (is_marked_by active values) clauses → not found ≡ is_allowed lists config
allowed_told lists config active clauses values found space few same same-values marked is =
    ap not (is ∙ ap (λ fs. list_any (is_marked_by active values) fs) same ∙ ap (λ vs. list_any (is_marked_by active vs) lists.forbidden) same-values
    ∙ any_alike (ArePicksNamed (length lists.params)) (is_marked_by active config) (is_forbidden_by lists config) lists.forbidden (faultless_picks lists.params lists.forbidden space.clauses)
    (λ f named. forbidden_told lists config active f few named marked))
