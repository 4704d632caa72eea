-- The turns that are left never run out before the budget, and few draws are made between two comparisons.
use Rattle.std.proofs.Common.{ℕ, zero, suc, ◌≡◌, ◌+◌, ◌-◌, ◌≤◌, ◌<◌, Bool, true, false, List, [], ◌∷◌, if◌then◌else◌, refl, arith}
use Rattle.uncapped.specs.Procedure.{Settings}
use Rattle.uncapped.specs.Setup.{Setup}
use Rattle.ils_frame.specs.declared.purpose.After.{After}
use Rattle.ils_frame.specs.declared.purpose.After.TheVariants.{First, Turn}
use Rattle.ils_frame.specs.declared.purpose.Purpose.{Purpose}
use Rattle.ils_frame.specs.declared.purpose.Purpose.TheVariants.{Opening, Trying, Improving, Returning}
use Rattle.ils_frame.specs.NextComparison.{Next, Compare, Finish, Reached, neighbours_in_order, random_step, perturbation, next_among, next_return, next_far, next_turn, next_after, next_tried, next}

module _ (setup : Setup) where
  -- the turns that follow suffice for the comparisons that are left
  abbrev pub IsAfterSpare : ℕ → After → Type 0
  IsAfterSpare m First = Unit {0}
  IsAfterSpare m (Turn more ils) = setup.budget ≤ more + m

  -- the same, where m comparisons are begun
  abbrev pub IsSpare : ℕ → Purpose → Type 0
  IsSpare m Opening = Unit {0}
  IsSpare m (Trying more θ current) = Unit {0}
  IsSpare m (Improving after left θ tried) = (left ≡ setup.budget - m) × IsAfterSpare m after
  IsSpare m (Returning more θ ils) = setup.budget < more + m

  -- a next comparison leaves enough turns, and the end comes with the budget
  abbrev pub IsNextSpare : ℕ → Next → Type 0
  IsNextSpare m (Compare purpose θ φ e) = IsSpare (m + 1) purpose
  IsNextSpare m (Finish e) = m ≡ setup.budget

  later : (m : ℕ) (after : After) → IsAfterSpare m after → IsAfterSpare (m + 1) after
  later m First a = tt
  later m (Turn more ils) a = omega (arith, a)

  module _ (m : ℕ) (within : m ≤ setup.budget) where
    among-spare : (after : After) (done : Settings → ℕ → Next) → IsAfterSpare m after → ((θ : Settings) (e : ℕ) → IsNextSpare m (done θ e))
        → (left : ℕ) → left ≡ setup.budget - m → (θ : Settings) (around : List Settings) (e : ℕ) → IsNextSpare m (next_among after done left θ around e)
    among-spare after done a d zero z θ [] e = d θ e
    among-spare after done a d (suc left) z θ [] e = d θ e
    among-spare after done a d zero z θ (φ ∷ rest) e = omega (arith, z, within)
    among-spare after done a d (suc left) z θ (φ ∷ rest) e = (omega (arith, z), later m after a)

    turn-spare : (n : ℕ) → setup.budget < n + m → (ils : Settings) (e : ℕ) → IsNextSpare m (next_turn setup m n ils e)
    turn-spare zero h ils e = absurd (omega (arith, h, within))
    turn-spare (suc more) h ils e = far (perturbation setup setup.strength ils e)
      where
        far : (p : Reached) → IsNextSpare m (next_far setup m more ils p)
        far p = among-spare (Turn more ils) (next_return more ils) (omega (arith, h)) (λ θ e. omega (arith, h)) (setup.budget - m) refl p.config (neighbours_in_order setup p.config p.event) (p.event + 1)

    after-spare : (after : After) → IsAfterSpare m after → (θ : Settings) (e : ℕ) → IsNextSpare m (next_after setup m after θ e)
    after-spare First a θ e = turn-spare (suc setup.budget) (omega arith) θ e
    after-spare (Turn more ils) a θ e = omega (arith, a)

    tried-spare : (n : ℕ) (current : Settings) (e : ℕ) → IsNextSpare m (next_tried setup m n current e)
    tried-spare zero current e = among-spare First (next_after setup m First) tt (after-spare First tt) (setup.budget - m) refl current (neighbours_in_order setup current e) (e + 1)
    tried-spare (suc n) current e = tt

    pub next-spare : (purpose : Purpose) (won : Bool) (e : ℕ) → IsSpare m purpose → IsNextSpare m (next setup m purpose won e)
    next-spare Opening won e s = tried-spare setup.initial setup.start e
    next-spare (Trying more θ current) won e s = tried-spare more (if won then θ else current) e
    next-spare (Improving after left θ tried) true e s = among-spare after (next_after setup m after) s.1 (after-spare after s.1) left s.0 tried.neighbour (neighbours_in_order setup tried.neighbour e) (e + 1)
    next-spare (Improving after left θ tried) false e s = among-spare after (next_after setup m after) s.1 (after-spare after s.1) left s.0 θ tried.rest e
    next-spare (Returning more θ ils) won e s = at_coin (setup.coin e)
      where
        at_coin : (r : Bool) → IsNextSpare m (if r then next_turn setup m more (setup.random (e + 1)) (e + 1 + 1) else next_turn setup m more (if won then θ else ils) (e + 1))
        at_coin true = turn-spare more s (setup.random (e + 1)) (e + 1 + 1)
        at_coin false = turn-spare more s (if won then θ else ils) (e + 1)

  -- ---- the number of the next draw

  -- the draws up to the next comparison have numbers below this one
  abbrev pub IsDrawnBy : ℕ → Next → Type 0
  IsDrawnBy most (Compare purpose θ φ e) = e ≤ most
  IsDrawnBy most (Finish e) = e ≤ most

  pub perturbation-event : (n : ℕ) (θ : Settings) (e : ℕ) → (perturbation setup n θ e).event ≡ n + e
  unfolding perturbation
  perturbation-event zero θ e = omega arith
  perturbation-event (suc n) θ e = omega (arith, perturbation-event n (random_step setup θ e) (e + 1))

  module _ (m most : ℕ) where
    among-drawn : (after : After) (done : Settings → ℕ → Next) → (left : ℕ) (θ : Settings) (around : List Settings) (e : ℕ) → ((θ : Settings) → IsDrawnBy most (done θ e)) → e ≤ most → IsDrawnBy most (next_among after done left θ around e)
    among-drawn after done zero θ [] e d h = d θ
    among-drawn after done (suc left) θ [] e d h = d θ
    among-drawn after done zero θ (φ ∷ rest) e d h = h
    among-drawn after done (suc left) θ (φ ∷ rest) e d h = h

    turn-drawn : (n : ℕ) (ils : Settings) (e : ℕ) → setup.strength + e + 1 ≤ most → IsDrawnBy most (next_turn setup m n ils e)
    turn-drawn zero ils e h = omega (arith, h)
    turn-drawn (suc more) ils e h = far (perturbation setup setup.strength ils e) (perturbation-event setup.strength ils e)
      where
        far : (p : Reached) → p.event ≡ setup.strength + e → IsDrawnBy most (next_far setup m more ils p)
        far p k = among-drawn (Turn more ils) (next_return more ils) (setup.budget - m) p.config (neighbours_in_order setup p.config p.event) (p.event + 1) (λ θ. omega (arith, h, k)) (omega (arith, h, k))

    after-drawn : (after : After) (θ : Settings) (e : ℕ) → setup.strength + e + 1 ≤ most → IsDrawnBy most (next_after setup m after θ e)
    after-drawn First θ e h = turn-drawn (suc setup.budget) θ e h
    after-drawn (Turn more ils) θ e h = omega (arith, h)

    tried-drawn : (n : ℕ) (current : Settings) (e : ℕ) → setup.strength + e + 2 ≤ most → IsDrawnBy most (next_tried setup m n current e)
    tried-drawn zero current e h = among-drawn First (next_after setup m First) (setup.budget - m) current (neighbours_in_order setup current e) (e + 1) (λ θ. after-drawn First θ (e + 1) (omega (arith, h))) (omega (arith, h))
    tried-drawn (suc n) current e h = omega (arith, h)

    pub next-drawn : (purpose : Purpose) (won : Bool) (e : ℕ) → setup.strength + e + 3 ≤ most → IsDrawnBy most (next setup m purpose won e)
    next-drawn Opening won e h = tried-drawn setup.initial setup.start e (omega (arith, h))
    next-drawn (Trying more θ current) won e h = tried-drawn more (if won then θ else current) e (omega (arith, h))
    next-drawn (Improving after left θ tried) true e h = among-drawn after (next_after setup m after) left tried.neighbour (neighbours_in_order setup tried.neighbour e) (e + 1) (λ θ. after-drawn after θ (e + 1) (omega (arith, h))) (omega (arith, h))
    next-drawn (Improving after left θ tried) false e h = among-drawn after (next_after setup m after) left θ tried.rest e (λ θ. after-drawn after θ e (omega (arith, h))) (omega (arith, h))
    next-drawn (Returning more θ ils) won e h = at_coin (setup.coin e)
      where
        at_coin : (r : Bool) → IsDrawnBy most (if r then next_turn setup m more (setup.random (e + 1)) (e + 1 + 1) else next_turn setup m more (if won then θ else ils) (e + 1))
        at_coin true = turn-drawn more (setup.random (e + 1)) (e + 1 + 1) (omega (arith, h))
        at_coin false = turn-drawn more (if won then θ else ils) (e + 1) (omega (arith, h))
