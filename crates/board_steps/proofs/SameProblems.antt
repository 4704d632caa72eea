-- Problems are equal exactly where they are the same.
use Rattle.std.proofs.Common.{◌≡◌, Bool, true, false, sym, ◌∙◌, subst}
use Rattle.std.proofs.lemmas.Bool.{and_parts, and_from}
use Rattle.ils_face.specs.contracts.rules.RulesPartialEq.TheImpl as rules
use Rattle.ils_face.proofs.SameRules.{same_rules}
use Rattle.instance_pairs.specs.contracts.pairs.PairsPartialEq.TheImpl as pairs
use Rattle.instance_pairs.proofs.SamePairs.{same_pairs}
use Rattle.board_steps.specs.Problem.{Problem}
use Rattle.board_steps.specs.contracts.problem.ProblemPartialEq.TheImpl as problem
use Rattle.board_steps.specs.contracts.problem.ProblemEq.TheImpl.Laws as laws

-- problems that are equal are the same
same_problem : (a b : Problem) → problem.ghosts.eq a b ≡ true → a ≡ b
same_problem a b equal =
    let both = and_parts (rules.ghosts.eq a.rules b.rules) (pairs.ghosts.eq a.pairs b.pairs) equal in
    let rules_same = same_rules a.rules b.rules both.0 in
    let pairs_same = same_pairs a.pairs b.pairs both.1 in
    λ i. record { rules = rules_same i; pairs = pairs_same i }

-- the parts of a problem are equal to themselves
equal_parts : (a b : Problem) → a ≡ b → (rules.ghosts.eq a.rules b.rules ≡ true) × (pairs.ghosts.eq a.pairs b.pairs ≡ true)
equal_parts a b same =
    let equal = subst (λ x. problem.ghosts.eq a x ≡ true) same (laws.laws-law.refl a) in
    and_parts (rules.ghosts.eq a.rules b.rules) (pairs.ghosts.eq a.pairs b.pairs) equal

-- where the rules are equal the pairs decide
pub by_pairs : (a b : Problem) (r s : Bool) → r ≡ rules.ghosts.eq a.rules b.rules → r ≡ true → s ≡ pairs.ghosts.eq a.pairs b.pairs
    → (s ≡ true → a ≡ b) × (a ≡ b → s ≡ true)
by_pairs a b r s rules_equal holds pairs_equal = (
  λ h. same_problem a b (and_from (rules.ghosts.eq a.rules b.rules) (pairs.ghosts.eq a.pairs b.pairs) (sym rules_equal ∙ holds) (sym pairs_equal ∙ h)),
  λ same. pairs_equal ∙ (equal_parts a b same).1,
)

-- where the rules aren't equal the problems differ
pub by_rules : (a b : Problem) (r : Bool) → r ≡ rules.ghosts.eq a.rules b.rules → r ≡ false → (r ≡ true → a ≡ b) × (a ≡ b → r ≡ true)
by_rules a b r rules_equal fails = (λ h. absurd (let e : false ≡ true = sym fails ∙ h in cc), λ same. rules_equal ∙ (equal_parts a b same).0)
