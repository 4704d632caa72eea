-- Which configurations belong to a space.
use Rattle.std.proofs.Common.{◌≡◌, ◌<◌, ◌+◌, ◌++◌, ℕ, zero, suc, List, [], ◌∷◌, None, length, get_or, refl, sym, ap, subst, ◌∙◌, arith}
use Rattle.std.specs.List.{slice_set}
use Rattle.std.proofs.lemmas.Bool.Decides.{nat_tests}
use Rattle.param_space.specs.declared.lists.Param.{Param}
use Rattle.param_space.specs.declared.lists.Part.TheVariants as part
use Rattle.param_space.specs.Space.{defaults, Belongs}
use Rattle.param_space.specs.Faults.{param_rules, param_fault, later_params_fault, params_fault}
use Rattle.param_space.proofs.RuleLemmas.{rules_hold, none_here}

-- the default of a parameter without a fault is one of its values
default_is_value : (earlier : List (List ℕ)) (place : ℕ) (p : Param) → param_fault earlier place p ≡ None → p.default < length p.values
default_is_value earlier place p h =
    let below = (rules_hold (param_rules earlier place p) h).1.1.1.1.1.0 in
    grind (arith, nat_tests, below)

defaults_belong : (params : List Param) (earlier : List (List ℕ)) (place : ℕ) → later_params_fault earlier place params ≡ None → Belongs params (defaults params)
defaults_belong [] earlier place h = tt
defaults_belong (p ∷ later) earlier place h =
    let none = none_here part.Param place (param_fault earlier place p) (later_params_fault (earlier ++ p.name ∷ []) (place + 1) later) h in
    (default_is_value earlier place p none.0, defaults_belong later (earlier ++ p.name ∷ []) (place + 1) none.1)

-- the defaults of a space belong to it
pub Belongs-defaults : (params : List Param) → params_fault params ≡ None → Belongs params (defaults params)
Belongs-defaults [] h = absurd (cc)
Belongs-defaults (p ∷ later) h = defaults_belong (p ∷ later) [] 0 h

-- a configuration has as many value numbers as there are parameters
pub length-Belongs : (params : List Param) (values : List ℕ) → Belongs params values → length values ≡ length params
length-Belongs [] [] h = refl
length-Belongs [] (v ∷ vs) h = absurd h
length-Belongs (p ∷ ps) [] h = absurd h
length-Belongs (p ∷ ps) (v ∷ vs) h = let more = length-Belongs ps vs h.1 in cc

-- each of them is below the parameter's number of values
pub value_in_range : (params : List Param) (values : List ℕ) (i : ℕ) (d : Param) → Belongs params values → i < length params → get_or values i 0 < length (get_or params i d).values
value_in_range [] values i d h lt = absurd (omega arith)
value_in_range (p ∷ ps) [] i d h lt = absurd h
value_in_range (p ∷ ps) (v ∷ vs) zero d h lt = h.0
value_in_range (p ∷ ps) (v ∷ vs) (suc i) d h lt = value_in_range ps vs i d h.1 (omega arith)

-- another of the parameter's values in its place makes a configuration again
pub Belongs-set : (params : List Param) (values : List ℕ) (i v : ℕ) (d : Param) → Belongs params values → i < length params → v < length (get_or params i d).values → Belongs params (slice_set values i v)
Belongs-set [] values i v d h lt below = absurd (omega arith)
Belongs-set (p ∷ ps) [] i v d h lt below = absurd h
Belongs-set (p ∷ ps) (w ∷ ws) zero v d h lt below = (below, h.1)
Belongs-set (p ∷ ps) (w ∷ ws) (suc i) v d h lt below = (h.0, Belongs-set ps ws i v d h.1 (omega arith) below)

-- the same of the parameter that a loop reads
pub read_value_in_range : (params : List Param) (values : List ℕ) (i : ℕ) (p : Param) (texts : List (List ℕ)) → Belongs params values → i < length params → p ≡ get_or params i p → texts ≡ p.values → get_or values i 0 < length texts
read_value_in_range params values i p texts h lt is e =
    let fits = value_in_range params values i p h lt in
    subst (λ n. get_or values i 0 < n) (sym (ap length (e ∙ ap (λ q. q.values) is))) fits
