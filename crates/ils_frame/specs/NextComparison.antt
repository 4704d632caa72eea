-- The search between two comparisons: which comparison is next.
use Rattle.std.specs.Prelude.{ℕ, zero, suc, ◌+◌, ◌-◌, Bool, List, [], ◌∷◌, if◌then◌else◌}
use Rattle.uncapped.specs.Procedure.{Settings}
use Rattle.uncapped.specs.Setup.{Setup}
use Rattle.uncapped.specs.Searching.{or_stay}
use Rattle.ils_frame.specs.declared.purpose.After.{After}
use Rattle.ils_frame.specs.declared.purpose.After.TheVariants.{First, Turn}
use Rattle.ils_frame.specs.declared.purpose.Purpose.{Purpose}
use Rattle.ils_frame.specs.declared.purpose.Purpose.TheVariants.{Opening, Trying, Improving, Returning}

-- the next comparison and what it is for, or the end; with the number of the next draw
pub data Next : Type 0 where
  Compare : Purpose → (first second : Settings) → (event : ℕ) → Next
  Finish : (event : ℕ) → Next

-- a configuration that was reached, with the number of the next draw
pub record Reached : Type 0 where
  pub config : Settings
  pub event : ℕ

-- the first of these neighbours is next, or else what follows the improvement
abbrev pub next_among : After → (Settings → ℕ → Next) → ℕ → Settings → List Settings → ℕ → Next
next_among after done left θ [] e = done θ e
next_among after done zero θ (φ ∷ rest) e = Finish e
next_among after done (suc left) θ (φ ∷ rest) e = Compare (Improving after left θ (record { neighbour = φ; rest = rest })) φ θ e

-- what was found is compared with the best so far
abbrev pub next_return : ℕ → Settings → Settings → ℕ → Next
next_return more ils θ e = Compare (Returning more θ ils) θ ils e

module _ (setup : Setup) where
  -- the neighbours of a configuration in the order of an event
  abbrev pub neighbours_in_order : Settings → ℕ → List Settings
  neighbours_in_order θ e = setup.in_order e (setup.neighbours θ)

  -- the neighbour that an event draws, or the configuration itself where it has none
  abbrev pub random_step : Settings → ℕ → Settings
  random_step θ e = or_stay θ (setup.one_of e (setup.neighbours θ))

  -- after so many random steps
  unfoldable pub perturbation : ℕ → Settings → ℕ → Reached
  perturbation zero θ e = record { config = θ; event = e }
  perturbation (suc more) θ e = perturbation more (random_step θ e) (e + 1)

  -- the improvement of a perturbed configuration begins, where m comparisons are begun
  abbrev pub next_far : ℕ → ℕ → Settings → Reached → Next
  next_far m more ils far = next_among (Turn more ils) (next_return more ils) (setup.budget - m) far.config (neighbours_in_order far.config far.event) (far.event + 1)

  -- a turn of the outer search begins
  abbrev pub next_turn : ℕ → ℕ → Settings → ℕ → Next
  next_turn m zero ils e = Finish e
  next_turn m (suc more) ils e = next_far m more ils (perturbation setup.strength ils e)

  -- what follows an improvement
  abbrev pub next_after : ℕ → After → Settings → ℕ → Next
  next_after m First ils e = next_turn m (suc setup.budget) ils e
  next_after m (Turn more ils) θ e = next_return more ils θ e

  -- an improvement goes on with these neighbours, or what follows it comes
  abbrev pub next_improving : ℕ → After → ℕ → Settings → List Settings → ℕ → Next
  next_improving m after left θ around e = next_among after (next_after m after) left θ around e

  -- an improvement begins anew at a neighbour that has won
  abbrev pub next_won : ℕ → After → ℕ → Settings → ℕ → Next
  next_won m after left winner e = next_improving m after left winner (neighbours_in_order winner e) (e + 1)

  -- the first improvement begins
  abbrev pub next_improved : ℕ → Settings → ℕ → Next
  next_improved m θ e = next_won m First (setup.budget - m) θ e

  -- the next random configuration is tried, or else the first improvement begins
  abbrev pub next_tried : ℕ → ℕ → Settings → ℕ → Next
  next_tried m zero current e = next_improved m current e
  next_tried m (suc more) current e = Compare (Trying more (setup.random e) current) (setup.random e) current (e + 1)

  -- the coin decides whether the next turn begins at the best so far or at random
  abbrev pub next_restarted : ℕ → ℕ → Settings → ℕ → Next
  next_restarted m more best e = if setup.coin e then next_turn m more (setup.random (e + 1)) (e + 1 + 1) else next_turn m more best (e + 1)

  -- what follows when the present comparison came to this, where m comparisons are begun
  abbrev pub next : ℕ → Purpose → Bool → ℕ → Next
  next m Opening won e = next_tried m setup.initial setup.start e
  next m (Trying more θ current) won e = next_tried m more (if won then θ else current) e
  next m (Improving after left θ tried) won e = if won
      then next_won m after left tried.neighbour e
      else next_improving m after left θ tried.rest e
  next m (Returning more θ ils) won e = next_restarted m more (if won then θ else ils) e
