-- What holds where no rule is broken.
use Rattle.std.proofs.Common.{ℕ, ◌+◌, ◌≡◌, ◌<◌, ◌≤◌, Bool, true, false, List, [], ◌∷◌, Option, Some, None, length, refl, ap, ◌∙◌, arith}
use Rattle.std.specs.List.{All}
use Rattle.std.proofs.lemmas.List.Elements.{All-nil, All-cons, All-head, All-tail}
use Rattle.param_space.specs.declared.lists.Part.{Part}
use Rattle.param_space.specs.declared.lists.SpaceWhat.{SpaceWhat}
use Rattle.param_space.specs.declared.lists.Breach.{Breach}
use Rattle.param_space.specs.Faults.{first_broken, or_later, first_in, or_else}

-- each of the rules holds
abbrev pub Hold : List (Bool × SpaceWhat) → Type 0
Hold [] = Unit {0}
Hold ((b, what) ∷ rules) = (b ≡ true) × Hold rules

-- where none is broken they hold
pub rules_hold : (rules : List (Bool × SpaceWhat)) → first_broken rules ≡ None → Hold rules
rules_hold [] h = tt
rules_hold ((true, what) ∷ rules) h = (refl, rules_hold rules h)
rules_hold ((false, what) ∷ rules) h = absurd (cc)

-- and where they hold none is broken
pub none_broken : (rules : List (Bool × SpaceWhat)) → Hold rules → first_broken rules ≡ None
none_broken [] h = refl
none_broken ((true, what) ∷ rules) h = none_broken rules h.1
none_broken ((false, what) ∷ rules) h = absurd (cc)

-- without a fault at a place and later there is none
pub none_here : (part : Part) (place : ℕ) (what : Option SpaceWhat) (later : Option Breach) → or_later part place what later ≡ None → (what ≡ None) × (later ≡ None)
none_here part place None later h = (refl, h)
none_here part place (Some what) later h = absurd (cc)

-- without one of two faults there is neither
pub neither : (first second : Option Breach) → or_else first second ≡ None → (first ≡ None) × (second ≡ None)
neither None second h = (refl, h)
neither (Some fault) second h = absurd (cc)

-- where no element of a list has a fault, each has what follows from that
pub All-faultless : {X : Type 0} (part : Part) (fault : ℕ → X → Option SpaceWhat) (P : X → Type 0) (xs : List X) (place : ℕ)
    → ((i : ℕ) (x : X) → fault i x ≡ None → P x) → first_in part fault place xs ≡ None → All P xs
All-faultless part fault P [] place follows h = All-nil P
All-faultless part fault P (x ∷ xs) place follows h =
    let none = none_here part place (fault place x) (first_in part fault (place + 1) xs) h in
    All-cons P x xs (follows place x none.0) (All-faultless part fault P xs (place + 1) follows none.1)

-- where each element without a fault stands below m, there are no more of them
pub few-faultless : {X : Type 0} (part : Part) (fault : ℕ → X → Option SpaceWhat) (m : ℕ) (xs : List X) (place : ℕ)
    → ((i : ℕ) (x : X) → fault i x ≡ None → i < m) → place ≤ m → first_in part fault place xs ≡ None → place + length xs ≤ m
few-faultless part fault m [] place below le h = omega arith
few-faultless part fault m (x ∷ xs) place below le h =
    let none = none_here part place (fault place x) (first_in part fault (place + 1) xs) h in
    let here = below place x none.0 in
    let later = few-faultless part fault m xs (place + 1) below (omega arith) none.1 in
    omega arith

-- faults that are the same of each element are the same of all
pub first_in-alike : {X : Type 0} (part : Part) (f g : ℕ → X → Option SpaceWhat) (P : X → Type 0) (xs : List X) (place : ℕ)
    → All P xs → ((i : ℕ) (x : X) → P x → f i x ≡ g i x) → first_in part f place xs ≡ first_in part g place xs
first_in-alike part f g P [] place h same = refl
first_in-alike part f g P (x ∷ xs) place h same =
    ap (λ what. or_later part place what (first_in part f (place + 1) xs)) (same place x (All-head P x xs h))
    ∙ ap (or_later part place (g place x)) (first_in-alike part f g P xs (place + 1) (All-tail P x xs h) same)
