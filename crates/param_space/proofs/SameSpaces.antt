-- Spaces that are equal are the same.
use Rattle.std.proofs.Common.{◌≡◌, ◌==◌, true, ◌&&◌}
use Rattle.std.specs.Cmp.Lexicographic.{pointwise}
use Rattle.std.specs.Str.{bytes_eq}
use Rattle.std.proofs.lemmas.Bool.{eqb-true, and_parts}
use Rattle.plain_text.proofs.SameItems.{same_items, same_text}
use Rattle.param_space.specs.declared.lists.Param.{Param}
use Rattle.param_space.specs.declared.lists.Condition.{Condition}
use Rattle.param_space.specs.declared.lists.Pick.{Pick}
use Rattle.param_space.specs.declared.lists.Forbidden.{Forbidden}
use Rattle.param_space.specs.contracts.lists.ParamPartialEq.TheImpl as param
use Rattle.param_space.specs.contracts.lists.ConditionPartialEq.TheImpl as condition
use Rattle.param_space.specs.contracts.lists.PickPartialEq.TheImpl as pick
use Rattle.param_space.specs.contracts.lists.ForbiddenPartialEq.TheImpl as forbidden
use Rattle.param_space.specs.Space.{Lists}
use Rattle.param_space.specs.contracts.space.SpacePartialEq.TheImpl as space

-- parameters that are equal are the same
same_param : (a b : Param) → param.ghosts.eq a b ≡ true → a ≡ b
same_param a b equal =
    let values = pointwise bytes_eq a.values b.values in
    let default = a.default == b.default in
    let front = and_parts (bytes_eq a.name b.name) (values && default) equal in
    let back = and_parts values default front.1 in
    let name_same = same_text a.name b.name front.0 in
    let values_same = same_items bytes_eq same_text a.values b.values back.0 in
    let default_same = eqb-true a.default b.default back.1 in
    λ i. record { name = name_same i; values = values_same i; default = default_same i }

-- conditions that are equal are the same
same_condition : (a b : Condition) → condition.ghosts.eq a b ≡ true → a ≡ b
same_condition a b equal =
    let parent = a.parent == b.parent in
    let values = bytes_eq a.values b.values in
    let front = and_parts (a.child == b.child) (parent && values) equal in
    let back = and_parts parent values front.1 in
    let child_same = eqb-true a.child b.child front.0 in
    let parent_same = eqb-true a.parent b.parent back.0 in
    let values_same = same_text a.values b.values back.1 in
    λ i. record { child = child_same i; parent = parent_same i; values = values_same i }

-- picks that are equal are the same
same_pick : (a b : Pick) → pick.ghosts.eq a b ≡ true → a ≡ b
same_pick a b equal =
    let both = and_parts (a.param == b.param) (a.value == b.value) equal in
    let param_same = eqb-true a.param b.param both.0 in
    let value_same = eqb-true a.value b.value both.1 in
    λ i. record { param = param_same i; value = value_same i }

-- clauses that are equal are the same
same_forbidden : (a b : Forbidden) → forbidden.ghosts.eq a b ≡ true → a ≡ b
same_forbidden a b equal =
    let picks_same = same_items pick.ghosts.eq same_pick a.picks b.picks equal in
    λ i. record { picks = picks_same i }

-- spaces that are equal are the same
pub same_space : (a b : Lists) → space.ghosts.eq a b ≡ true → a ≡ b
same_space a b equal =
    let conditions = pointwise condition.ghosts.eq a.conditions b.conditions in
    let forbids = pointwise forbidden.ghosts.eq a.forbidden b.forbidden in
    let front = and_parts (pointwise param.ghosts.eq a.params b.params) (conditions && forbids) equal in
    let back = and_parts conditions forbids front.1 in
    let params_same = same_items param.ghosts.eq same_param a.params b.params front.0 in
    let conditions_same = same_items condition.ghosts.eq same_condition a.conditions b.conditions back.0 in
    let forbidden_same = same_items forbidden.ghosts.eq same_forbidden a.forbidden b.forbidden back.1 in
    λ i. record { params = params_same i; conditions = conditions_same i; forbidden = forbidden_same i }
