-- Each comparison is of allowed configurations.
use Rattle.std.proofs.Common.{ℕ, zero, suc, ◌+◌, ◌-◌, Bool, true, false, List, [], ◌∷◌, Option, Some, None, IfSome, if◌then◌else◌}
use Rattle.uncapped.specs.Procedure.{Settings}
use Rattle.uncapped.specs.Setup.{Setup}
use Rattle.uncapped.specs.Searching.{or_stay}
use Rattle.ils_frame.specs.declared.purpose.After.{After}
use Rattle.ils_frame.specs.declared.purpose.After.TheVariants.{First, Turn}
use Rattle.ils_frame.specs.declared.purpose.Purpose.{Purpose}
use Rattle.ils_frame.specs.declared.purpose.Purpose.TheVariants.{Opening, Trying, Improving, Returning}
use Rattle.ils_frame.specs.NextComparison.{Next, Compare, Finish, Reached, neighbours_in_order, random_step, perturbation, next_among, next_return, next_far, next_turn, next_after, next_tried, next}
use Rattle.ils_frame.specs.AllowedPurposes.{AreAllowed, IsAfterAllowed, IsPurposeAllowed}

module _ (allowed : Settings → Type 0) where
  -- what is drawn is allowed
  pub record DrawsAllowed (setup : Setup) : Type 0 where
    pub start : allowed setup.start
    pub around : (e : ℕ) (θ : Settings) → allowed θ → AreAllowed allowed (setup.in_order e (setup.neighbours θ))
    pub one : (e : ℕ) (θ : Settings) → allowed θ → IfSome (setup.one_of e (setup.neighbours θ)) allowed
    pub random : (e : ℕ) → allowed (setup.random e)

  -- the next comparison is of allowed configurations
  abbrev pub IsNextAllowed : Next → Type 0
  IsNextAllowed (Compare purpose θ φ e) = IsPurposeAllowed allowed purpose × allowed θ × allowed φ
  IsNextAllowed (Finish e) = Unit {0}

  chosen : (b : Bool) (θ φ : Settings) → allowed θ → allowed φ → allowed (if b then θ else φ)
  chosen true θ φ s t = s
  chosen false θ φ s t = t

  module _ (setup : Setup) (draws : DrawsAllowed setup) where
    pub random_step-allowed : (θ : Settings) (e : ℕ) → allowed θ → allowed (random_step setup θ e)
    random_step-allowed θ e a = stays (setup.one_of e (setup.neighbours θ)) (draws.one e θ a)
      where
        stays : (o : Option Settings) → IfSome o allowed → allowed (or_stay θ o)
        stays None h = a
        stays (Some φ) h = h

    pub perturbation-allowed : (n : ℕ) (θ : Settings) (e : ℕ) → allowed θ → allowed (perturbation setup n θ e).config
    unfolding perturbation
    perturbation-allowed zero θ e a = a
    perturbation-allowed (suc n) θ e a = perturbation-allowed n (random_step setup θ e) (e + 1) (random_step-allowed θ e a)

    among-allowed : (after : After) (done : Settings → ℕ → Next) → IsAfterAllowed allowed after → ((θ : Settings) (e : ℕ) → allowed θ → IsNextAllowed (done θ e))
        → (left : ℕ) (θ : Settings) (around : List Settings) (e : ℕ) → allowed θ → AreAllowed allowed around → IsNextAllowed (next_among after done left θ around e)
    among-allowed after done n d zero θ [] e a h = d θ e a
    among-allowed after done n d (suc left) θ [] e a h = d θ e a
    among-allowed after done n d zero θ (φ ∷ rest) e a h = tt
    among-allowed after done n d (suc left) θ (φ ∷ rest) e a h = ((n, a, h.0, h.1), h.0, a)

    turn-allowed : (m n : ℕ) (ils : Settings) (e : ℕ) → allowed ils → IsNextAllowed (next_turn setup m n ils e)
    turn-allowed m zero ils e a = tt
    turn-allowed m (suc more) ils e a = far (perturbation setup setup.strength ils e) (perturbation-allowed setup.strength ils e a)
      where
        far : (p : Reached) → allowed p.config → IsNextAllowed (next_far setup m more ils p)
        far p h = among-allowed (Turn more ils) (next_return more ils) a (λ θ e b. ((b, a), b, a)) (setup.budget - m) p.config (neighbours_in_order setup p.config p.event) (p.event + 1) h (draws.around p.event p.config h)

    after-allowed : (m : ℕ) (after : After) → IsAfterAllowed allowed after → (θ : Settings) (e : ℕ) → allowed θ → IsNextAllowed (next_after setup m after θ e)
    after-allowed m First n θ e a = turn-allowed m (suc setup.budget) θ e a
    after-allowed m (Turn more ils) n θ e a = ((a, n), a, n)

    tried-allowed : (m n : ℕ) (current : Settings) (e : ℕ) → allowed current → IsNextAllowed (next_tried setup m n current e)
    tried-allowed m zero current e a = among-allowed First (next_after setup m First) tt (after-allowed m First tt) (setup.budget - m) current (neighbours_in_order setup current e) (e + 1) a (draws.around e current a)
    tried-allowed m (suc n) current e a = ((draws.random e, a), draws.random e, a)

    pub next-allowed : (m : ℕ) (purpose : Purpose) (won : Bool) (e : ℕ) → IsPurposeAllowed allowed purpose → IsNextAllowed (next setup m purpose won e)
    next-allowed m Opening won e n = tried-allowed m setup.initial setup.start e draws.start
    next-allowed m (Trying more θ current) won e n = tried-allowed m more (if won then θ else current) e (chosen won θ current n.0 n.1)
    next-allowed m (Improving after left θ tried) true e n = among-allowed after (next_after setup m after) n.0 (after-allowed m after n.0) left tried.neighbour (neighbours_in_order setup tried.neighbour e) (e + 1) n.2 (draws.around e tried.neighbour n.2)
    next-allowed m (Improving after left θ tried) false e n = among-allowed after (next_after setup m after) n.0 (after-allowed m after n.0) left θ tried.rest e n.1 n.3
    next-allowed m (Returning more θ ils) won e n = at_coin (setup.coin e)
      where
        at_coin : (r : Bool) → IsNextAllowed (if r then next_turn setup m more (setup.random (e + 1)) (e + 1 + 1) else next_turn setup m more (if won then θ else ils) (e + 1))
        at_coin true = turn-allowed m more (setup.random (e + 1)) (e + 1 + 1) (draws.random (e + 1))
        at_coin false = turn-allowed m more (if won then θ else ils) (e + 1) (chosen won θ ils n.0 n.1)
