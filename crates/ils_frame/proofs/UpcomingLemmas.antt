-- What is made ready stands for the next comparison.
use Rattle.std.proofs.Common.{ℕ, zero, suc, ◌≡◌, ◌+◌, ◌-◌, List, [], ◌∷◌, refl, sym, ◌∙◌, ap, arith}
use Rattle.uncapped.specs.Procedure.{Settings}
use Rattle.uncapped.specs.Setup.{Setup}
use Rattle.ils_face.specs.Rules.{Rules}
use Rattle.ils_face.proofs.Setups.{SetupOf, setup_of-numbers}
use Rattle.ils_face.specs.Setups.{setup_of}
use Rattle.ils_frame.specs.declared.purpose.After.{After}
use Rattle.ils_frame.specs.declared.purpose.After.TheVariants.{Turn}
use Rattle.ils_frame.specs.declared.upcoming.Among.{Among}
use Rattle.ils_frame.specs.declared.upcoming.Among.TheVariants.{Over, Compared, Spent}
use Rattle.ils_frame.specs.NextComparison.{Next, next_among, next_turn, next_after, perturbation, neighbours_in_order, Compare, Finish}
use Rattle.ils_frame.specs.Laws.TurnsLeft.{perturbation-event}
use Rattle.ils_frame.specs.UpcomingComparison.{among_of}

-- what comes of a list as the next comparison
abbrev pub among_seen : (After → Settings → ℕ → Next) → ℕ → Among → Next
among_seen done e (Compared purpose first second) = Compare purpose first second e
among_seen done e Spent = Finish e
among_seen done e (Over after θ) = done after θ e

-- what comes of a list is the next comparison
pub among_seen-of : (done : After → Settings → ℕ → Next) (after : After) (left : ℕ) (θ : Settings) (around : List Settings) (e : ℕ) → among_seen done e (among_of after left θ around) ≡ next_among after (done after) left θ around e
among_seen-of done after zero θ [] e = refl
among_seen-of done after (suc left) θ [] e = refl
among_seen-of done after zero θ (φ ∷ rest) e = refl
among_seen-of done after (suc left) θ (φ ∷ rest) e = refl

-- an improvement that is over came to its current configuration
pub over_found : (after : After) (left : ℕ) (θ : Settings) (around : List Settings) (a : After) (φ : Settings) → Over a φ ≡ among_of after left θ around → φ ≡ θ
over_found after zero θ [] a φ h = cc
over_found after (suc left) θ [] a φ h = cc
over_found after zero θ (ψ ∷ rest) a φ h = absurd (cc)
over_found after (suc left) θ (ψ ∷ rest) a φ h = absurd (cc)

pub over_after : (after : After) (left : ℕ) (θ : Settings) (around : List Settings) (a : After) (φ : Settings) → Over a φ ≡ among_of after left θ around → a ≡ after
over_after after zero θ [] a φ h = cc
over_after after (suc left) θ [] a φ h = cc
over_after after zero θ (ψ ∷ rest) a φ h = absurd (cc)
over_after after (suc left) θ (ψ ∷ rest) a φ h = absurd (cc)

-- the list round a perturbed configuration
pub turn_seen : (setup : Setup) (m more : ℕ) (ils far : Settings) (e drawn : ℕ) (a : Among) → far ≡ (perturbation setup setup.strength ils e).config → drawn ≡ e + setup.strength
    → a ≡ among_of (Turn more ils) (setup.budget - m) far (neighbours_in_order setup far drawn) → among_seen (next_after setup m) (drawn + 1) a ≡ next_turn setup m (suc more) ils e
turn_seen setup m more ils far e drawn a f d h =
    let event : drawn ≡ (perturbation setup setup.strength ils e).event = omega (arith, d, perturbation-event setup setup.strength ils e) in
    ap (among_seen (next_after setup m) (drawn + 1)) h
    ∙ among_seen-of (next_after setup m) (Turn more ils) (setup.budget - m) far (neighbours_in_order setup far drawn) (drawn + 1)
    ∙ ap (λ n. next_among (Turn more ils) (next_after setup m (Turn more ils)) (setup.budget - m) far (neighbours_in_order setup far n) (n + 1)) event
    ∙ ap (λ θ. next_among (Turn more ils) (next_after setup m (Turn more ils)) (setup.budget - m) θ (neighbours_in_order setup θ (perturbation setup setup.strength ils e).event) ((perturbation setup setup.strength ils e).event + 1)) f

-- the same by the rules of a search
pub turn_made : (rules : Rules) (m turns less : ℕ) (ils best far : Settings) (e n drawn left : ℕ) (around : List Settings) (a : Among)
    → turns ≡ suc less → n ≡ rules.strength → drawn ≡ e + n → left ≡ rules.budget - m → far ≡ (perturbation (setup_of rules) rules.strength ils e).config → around ≡ neighbours_in_order (setup_of rules) far drawn → best ≡ ils
    → a ≡ among_of (Turn less best) left far around → among_seen (next_after (setup_of rules) m) (drawn + 1) a ≡ next_turn (setup_of rules) m turns ils e
turn_made rules m turns less ils best far e n drawn left around a t s d l f o b h =
    let same : SetupOf rules (setup_of rules) = setup_of-numbers rules in
    let steps : rules.strength ≡ (setup_of rules).strength = sym same.strength in
    let budget : rules.budget ≡ (setup_of rules).budget = sym same.budget in
    turn_seen (setup_of rules) m less ils far e drawn a (f ∙ ap (λ k. (perturbation (setup_of rules) k ils e).config) steps) (omega (arith, d, s, steps))
    (h ∙ ap (λ θ. among_of (Turn less θ) left far around) b ∙ ap (λ k. among_of (Turn less ils) k far around) (l ∙ ap (λ k. k - m) budget) ∙ ap (among_of (Turn less ils) ((setup_of rules).budget - m) far) o)
    ∙ ap (λ k. next_turn (setup_of rules) m k ils e) (sym t)
