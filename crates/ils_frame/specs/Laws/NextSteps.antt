-- The procedure goes on by the next comparison.
use Rattle.std.proofs.Common.{ℕ, zero, suc, ◌≡◌, ◌+◌, ◌-◌, Bool, true, false, List, [], ◌∷◌, if◌then◌else◌, refl, ◌∙◌, ap}
use Rattle.uncapped.specs.Procedure.{Settings, PlainState, Step, Goes, Ends, Procedure, goes_on, ◌>>=◌, Finished, draw}
use Rattle.uncapped.specs.Setup.{Setup}
use Rattle.uncapped.specs.Searching.{compare, improve_among, improve, try_random, perturb, search_on, around}
use Rattle.ils_frame.specs.declared.purpose.After.{After}
use Rattle.ils_frame.specs.declared.purpose.After.TheVariants.{First, Turn}
use Rattle.ils_frame.specs.declared.purpose.Purpose.{Purpose}
use Rattle.ils_frame.specs.declared.purpose.Purpose.TheVariants.{Opening, Trying, Improving, Returning}
use Rattle.ils_frame.specs.NextComparison.{Next, Compare, Finish, Reached, neighbours_in_order, random_step, perturbation, next_among, next_return, next_far, next_turn, next_after, next_improved, next_tried, next}

module _ (setup : Setup) (better : Settings → Settings → Procedure Bool) where
  -- the outer search
  abbrev pub search_from : Settings → Procedure (Unit {0})
  search_from ils = search_on setup better (suc setup.budget) ils

  -- the coin, and the next turn
  abbrev pub come_back : ℕ → Settings → Settings → Bool → Procedure (Unit {0})
  come_back more θ ils won = draw setup.coin >>= λ restart.
      if restart
      then (draw setup.random >>= search_on setup better more)
      else search_on setup better more (if won then θ else ils)

  -- what follows an improvement
  abbrev pub finish : After → Settings → Procedure (Unit {0})
  finish First ils = search_from ils
  finish (Turn more ils) θ = compare setup better θ ils >>= λ won. come_back more θ ils won

  -- an improvement goes on after a comparison
  abbrev pub go_on : ℕ → Settings → Settings → List Settings → Bool → Procedure Settings
  go_on left θ φ rest won = if won
      then (around setup better φ >>= improve_among setup better left φ)
      else improve_among setup better left θ rest

  -- the random configurations, the first improvement and the outer search
  abbrev pub try_from : ℕ → Settings → Procedure (Unit {0})
  try_from more current = try_random setup better more current >>= λ current. improve setup better current >>= search_from

  -- what follows the present comparison
  abbrev pub continuation : Purpose → Bool → Procedure (Unit {0})
  continuation Opening won = try_from setup.initial setup.start
  continuation (Trying more θ current) won = try_from more (if won then θ else current)
  continuation (Improving after left θ tried) won = go_on left θ tried.neighbour tried.rest won >>= finish after
  continuation (Returning more θ ils) won = come_back more θ ils won

  -- the next comparison with all that follows it
  abbrev pub run_next : Next → Procedure (Unit {0})
  run_next (Compare purpose θ φ e) = λ s. (compare setup better θ φ >>= continuation purpose) (record s { event = e })
  run_next (Finish e) = λ s. Ends (record s { event = e }) Finished

-- the state before another draw
abbrev pub at_event : PlainState → ℕ → PlainState
at_event s e = record s { event = e }

-- two procedures after another are one after two
pub bind_assoc : {A B C : Type 0} (a : Step A) (f : A → Procedure B) (g : B → Procedure C) → goes_on (goes_on a f) g ≡ goes_on a (λ x. f x >>= g)
bind_assoc (Goes s a) f g = refl
bind_assoc (Ends s e) f g = refl

module _ (setup : Setup) (better : Settings → Settings → Procedure Bool) where
  perturbs : (n : ℕ) (θ : Settings) (s : PlainState) → perturb setup better n θ s ≡ Goes (at_event s (perturbation setup n θ s.event).event) (perturbation setup n θ s.event).config
  unfolding perturbation perturb
  perturbs zero θ s = refl
  perturbs (suc n) θ s = perturbs n (random_step setup θ s.event) (at_event s (s.event + 1))

  anywhere : (n : Next) (s : PlainState) (e : ℕ) → run_next setup better n (at_event s e) ≡ run_next setup better n s
  anywhere (Compare purpose θ φ e') s e = refl
  anywhere (Finish e') s e = refl

  amongs_turn : (more : ℕ) (ils : Settings) (left : ℕ) (θ : Settings) (around : List Settings) (s : PlainState)
      → (improve_among setup better left θ around >>= finish setup better (Turn more ils)) s ≡ run_next setup better (next_among (Turn more ils) (next_return more ils) left θ around s.event) s
  unfolding improve_among
  amongs_turn more ils zero θ [] s = refl
  amongs_turn more ils (suc left) θ [] s = refl
  amongs_turn more ils zero θ (φ ∷ rest) s = refl
  amongs_turn more ils (suc left) θ (φ ∷ rest) s = bind_assoc (compare setup better φ θ s) _ _

  fars : (more : ℕ) (ils : Settings) (far : Reached) (s : PlainState) → (improve setup better far.config >>= finish setup better (Turn more ils)) (at_event s far.event) ≡ run_next setup better (next_far setup s.compared more ils far) s
  unfolding improve
  fars more ils far s =
      amongs_turn more ils (setup.budget - s.compared) far.config (neighbours_in_order setup far.config far.event) (at_event s (far.event + 1))
      ∙ anywhere (next_far setup s.compared more ils far) s (far.event + 1)

  turns : (n : ℕ) (ils : Settings) (s : PlainState) → search_on setup better n ils s ≡ run_next setup better (next_turn setup s.compared n ils s.event) s
  unfolding search_on
  turns zero ils s = refl
  turns (suc more) ils s =
      ap (λ a. goes_on a (λ far. improve setup better far >>= λ θ. compare setup better θ ils >>= λ won. come_back setup better more θ ils won)) (perturbs setup.strength ils s)
      ∙ fars more ils (perturbation setup setup.strength ils s.event) s

  afters : (m : ℕ) (after : After) (θ : Settings) (s : PlainState) → s.compared ≡ m → finish setup better after θ s ≡ run_next setup better (next_after setup m after θ s.event) s
  afters m First ils s e = rw (← e) (turns (suc setup.budget) ils s)
  afters m (Turn more ils) θ s e = refl

  -- with the number of comparisons fixed, since no draw changes it
  amongs : (m : ℕ) (after : After) (left : ℕ) (θ : Settings) (around : List Settings) (s : PlainState) → s.compared ≡ m
      → (improve_among setup better left θ around >>= finish setup better after) s ≡ run_next setup better (next_among after (next_after setup m after) left θ around s.event) s
  unfolding improve_among
  amongs m after zero θ [] s e = afters m after θ s e
  amongs m after (suc left) θ [] s e = afters m after θ s e
  amongs m after zero θ (φ ∷ rest) s e = refl
  amongs m after (suc left) θ (φ ∷ rest) s e = bind_assoc (compare setup better φ θ s) _ _

  improves : (θ : Settings) (s : PlainState) → (improve setup better θ >>= search_from setup better) s ≡ run_next setup better (next_improved setup s.compared θ s.event) s
  unfolding improve
  improves θ s = amongs s.compared First (setup.budget - s.compared) θ (neighbours_in_order setup θ s.event) (at_event s (s.event + 1)) refl ∙ anywhere (next_improved setup s.compared θ s.event) s (s.event + 1)

  tries : (n : ℕ) (current : Settings) (s : PlainState) → try_from setup better n current s ≡ run_next setup better (next_tried setup s.compared n current s.event) s
  unfolding try_random
  tries zero current s = improves current s
  tries (suc n) current s = bind_assoc (compare setup better (setup.random s.event) current (at_event s (s.event + 1))) _ _

  -- what follows the present comparison is the next one with all that follows it
  pub nexts : (purpose : Purpose) (won : Bool) (s : PlainState) → continuation setup better purpose won s ≡ run_next setup better (next setup s.compared purpose won s.event) s
  nexts Opening won s = tries setup.initial setup.start s
  nexts (Trying more θ current) won s = tries more (if won then θ else current) s
  nexts (Improving after left θ tried) true s = amongs s.compared after left tried.neighbour (neighbours_in_order setup tried.neighbour s.event) (at_event s (s.event + 1)) refl ∙ anywhere (next_among after (next_after setup s.compared after) left tried.neighbour (neighbours_in_order setup tried.neighbour s.event) (s.event + 1)) s (s.event + 1)
  nexts (Improving after left θ tried) false s = amongs s.compared after left θ tried.rest s refl
  nexts (Returning more θ ils) won s = at_coin (setup.coin s.event) refl
    where
      at_coin : (r : Bool) → setup.coin s.event ≡ r
          → come_back setup better more θ ils won s
          ≡ run_next setup better (if r then next_turn setup s.compared more (setup.random (s.event + 1)) (s.event + 1 + 1) else next_turn setup s.compared more (if won then θ else ils) (s.event + 1)) s
      at_coin true e = rw e (turns more (setup.random (s.event + 1)) (at_event s (s.event + 1 + 1)) ∙ anywhere (next_turn setup s.compared more (setup.random (s.event + 1)) (s.event + 1 + 1)) s (s.event + 1 + 1))
      at_coin false e = rw e (turns more (if won then θ else ils) (at_event s (s.event + 1)) ∙ anywhere (next_turn setup s.compared more (if won then θ else ils) (s.event + 1)) s (s.event + 1))
