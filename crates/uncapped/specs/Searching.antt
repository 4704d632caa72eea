-- The search: initial draws, iterative first improvement, perturbation, restarts (ParamILS framework,
-- Hutter et al., JAIR 36), over any comparison.
use Rattle.std.specs.Prelude.{ℕ, zero, suc, ◌+◌, ◌-◌, ◌==◌, Bool, List, [], ◌∷◌, Option, Some, None, if◌then◌else◌}
use Rattle.uncapped.specs.Procedure.{Settings, PlainState, Finished, Procedure, ◌>>=◌, ◌>>◌, give, state, becomes, stop, when, draw}
use Rattle.uncapped.specs.Setup.{Setup}

-- one more comparison has begun
abbrev pub after_begin : PlainState → PlainState
after_begin s = record s { compared = s.compared + 1 }

-- a configuration that was drawn, or else this one
abbrev pub or_stay : Settings → Option Settings → Settings
or_stay θ None = θ
or_stay θ (Some φ) = φ

module _ (setup : Setup) (better : Settings → Settings → Procedure Bool) where
  -- a comparison, or the end where the budget is used up
  unfoldable pub compare : Settings → Settings → Procedure Bool
  compare θ φ = do
    s ← state
    when (s.compared == setup.budget) (stop Finished)
    becomes after_begin
    better θ φ

  -- the neighbours of a configuration, in an order that is drawn
  abbrev pub around : Settings → Procedure (List Settings)
  around θ = draw (λ e. setup.in_order e (setup.neighbours θ))

  -- iterative first improvement among these neighbours, with so many comparisons left
  unfoldable pub improve_among : ℕ → Settings → List Settings → Procedure Settings
  improve_among left θ [] = give θ
  improve_among zero θ (φ ∷ rest) = stop Finished
  improve_among (suc left) θ (φ ∷ rest) = do
    won ← compare φ θ
    if won
        then (around φ >>= improve_among left φ)
        else improve_among left θ rest

  -- iterative first improvement
  unfoldable pub improve : Settings → Procedure Settings
  improve θ = do
    s ← state
    first ← around θ
    improve_among (setup.budget - s.compared) θ first

  -- so many random configurations are tried in place of the current one
  unfoldable pub try_random : ℕ → Settings → Procedure Settings
  try_random zero current = give current
  try_random (suc more) current = do
    θ ← draw setup.random
    won ← compare θ current
    try_random more (if won then θ else current)

  -- so many random steps to neighbours
  unfoldable pub perturb : ℕ → Settings → Procedure Settings
  perturb zero θ = give θ
  perturb (suc more) θ = do
    φ ← draw (λ e. setup.one_of e (setup.neighbours θ))
    perturb more (or_stay θ φ)

  -- again and again; each turn compares, so the budget is used up before these turns are
  unfoldable pub search_on : ℕ → Settings → Procedure (Unit {0})
  search_on zero ils = stop Finished
  search_on (suc turns) ils = do
    far ← perturb setup.strength ils
    θ ← improve far
    won ← compare θ ils
    restart ← draw setup.coin
    if restart
        then (draw setup.random >>= search_on turns)
        else search_on turns (if won then θ else ils)

  -- the whole search after an opening evaluation
  unfoldable pub search_after : Procedure (Unit {0}) → Procedure (Unit {0})
  search_after opening = do
    opening
    current ← try_random setup.initial setup.start
    ils ← improve current
    search_on (suc setup.budget) ils
