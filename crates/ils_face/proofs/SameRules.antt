-- Rules that are equal are the same.
use Rattle.std.specs.Prelude.{ℕ, ◌≡◌, List, nat_eq, true, ◌&&◌, get_or}
use Rattle.std.specs.Cmp.Lexicographic.{pointwise}
use Rattle.std.proofs.Common.{ap}
use Rattle.std.proofs.lemmas.Bool.{eqb-true, and_parts}
use Rattle.plain_text.proofs.SameItems.{same_items}
use Rattle.objective.proofs.SameLimits.{same_limits}
use Rattle.objective.specs.contracts.LimitsPartialEq.TheImpl as limits
use Rattle.param_space.specs.contracts.space.SpacePartialEq.TheImpl as space
use Rattle.param_space.proofs.SameSpaces.{same_space}
use Rattle.ils_face.specs.Rules.{Rules, numbers_of}
use Rattle.ils_face.specs.contracts.rules.RulesPartialEq.TheImpl as rules

-- rules with the same parts are the same
same_parts : (a b : Rules) → a.space ≡ b.space → a.limits ≡ b.limits → numbers_of a ≡ numbers_of b → a ≡ b
same_parts a b spaces limits_same numbers =
    let number : ℕ → List ℕ → ℕ = λ i all. get_or all i 0 in
    λ i. record {
      space = spaces i;
      seed = ap (number 0) numbers i;
      max_runs = ap (number 1) numbers i;
      budget = ap (number 2) numbers i;
      initial = ap (number 3) numbers i;
      strength = ap (number 4) numbers i;
      restart = ap (number 5) numbers i;
      limits = limits_same i;
      workers = ap (number 6) numbers i;
    }

-- rules that are equal are the same
pub same_rules : (a b : Rules) → rules.ghosts.eq a b ≡ true → a ≡ b
same_rules a b equal =
    let limits_equal = limits.ghosts.eq a.limits b.limits in
    let numbers_equal = pointwise nat_eq (numbers_of a) (numbers_of b) in
    let one = and_parts (space.ghosts.eq a.space b.space) (limits_equal && numbers_equal) equal in
    let two = and_parts limits_equal numbers_equal one.1 in
    let numbers = same_items nat_eq eqb-true (numbers_of a) (numbers_of b) two.1 in
    same_parts a b (same_space a.space b.space one.0) (same_limits a.limits b.limits two.0) numbers
