-- Limits that are equal are the same.
use Rattle.std.proofs.Common.{◌≡◌, ◌==◌, true, false, ◌&&◌, refl}
use Rattle.std.proofs.lemmas.Bool.{eqb-true, and_parts}
use Rattle.objective.specs.declared.Factor.{Factor}
use Rattle.objective.specs.declared.Factor.TheVariants.{One, Ten, Thousand}
use Rattle.objective.specs.Bounds.{Bounds}
use Rattle.objective.specs.contracts.LimitsPartialEq.TheImpl as limits
use Rattle.objective.specs.contracts.FactorPartialEq.TheImpl as factor

-- factors that are equal are the same
same_factor : (a b : Factor) → factor.ghosts.eq a b ≡ true → a ≡ b
same_factor One One same = refl
same_factor Ten Ten same = refl
same_factor Thousand Thousand same = refl
same_factor One Ten same = absurd (let e : false ≡ true = same in cc)
same_factor One Thousand same = absurd (let e : false ≡ true = same in cc)
same_factor Ten One same = absurd (let e : false ≡ true = same in cc)
same_factor Ten Thousand same = absurd (let e : false ≡ true = same in cc)
same_factor Thousand One same = absurd (let e : false ≡ true = same in cc)
same_factor Thousand Ten same = absurd (let e : false ≡ true = same in cc)

-- limits that are equal are the same
pub same_limits : (a b : Bounds) → limits.ghosts.eq a b ≡ true → a ≡ b
same_limits a b same =
    let all = and_parts (a.cutoff == b.cutoff) (factor.ghosts.eq a.factor b.factor && (a.floor == b.floor)) same in
    let rest = and_parts (factor.ghosts.eq a.factor b.factor) (a.floor == b.floor) all.1 in
    let cutoff = eqb-true a.cutoff b.cutoff all.0 in
    let factors = same_factor a.factor b.factor rest.0 in
    let floor = eqb-true a.floor b.floor rest.1 in
    λ i. record { cutoff = cutoff i; factor = factors i; floor = floor i }
