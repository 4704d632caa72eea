-- Evaluations of configurations, and the comparisons of BasicILS and FocusedILS (Hutter et al., JAIR 36).
use Rattle.std.specs.Prelude.{ℕ, zero, suc, ◌+◌, max, min, Bool, true, false, not, ◌&&◌, ◌||◌, ◌==◌, [], ◌∷◌, ◌++◌, Option, Some, None, nat_le, nat_lt, length, bytes_eq, if◌then◌else◌}
use Rattle.uncapped.specs.Procedure.{Settings, Sums, PlainState, Procedure, ◌>>=◌, ◌>>◌, give, state, becomes, when, cost_or_abort}
use Rattle.uncapped.specs.Setup.{Setup}

-- the count of a configuration becomes at least n
abbrev pub counts_after : (Settings → ℕ) → Settings → ℕ → Settings → ℕ
counts_after counts θ n φ = if bytes_eq φ θ then max (counts θ) n else counts φ

-- the state after one more ask
abbrev pub after_ask : Settings → ℕ → Option ℕ → PlainState → PlainState
after_ask θ n bound s = record s { asks = s.asks ++ record { config = θ; places = n; bound = bound } ∷ [] }

-- the state after one more entry
abbrev pub after_entry : Settings → ℕ → ℕ → PlainState → PlainState
after_entry θ n x s = record s {
  entries = s.entries ++ record {
    asks_before = length s.asks;
    entry = record { compared = s.compared; runs = n; sum = x; config = θ };
  } ∷ [];
}

-- the total cost over n places is asked for, and the count rises
unfoldable pub measure : Sums → Settings → ℕ → Option ℕ → Procedure ℕ
measure sums θ n bound = do
  becomes (after_ask θ n bound)
  x ← cost_or_abort (sums θ n)
  becomes (λ s. record s { counts = counts_after s.counts θ n })
  give x

-- the number is below one that is known
abbrev pub is_below : ℕ → Option ℕ → Bool
is_below x (Some y) = nat_lt x y
is_below x None = false

-- another configuration is to be evaluated on more places than the incumbent has runs
abbrev pub overtakes : PlainState → Settings → ℕ → Bool
overtakes s θ n = not (bytes_eq θ s.incumbent) && nat_lt (s.counts s.incumbent) n

-- another configuration costs less than the incumbent on as many places as that has runs
abbrev pub beats : Sums → PlainState → Settings → ℕ → ℕ → Bool
beats sums s θ n x = not (bytes_eq θ s.incumbent) && (n == s.counts s.incumbent) && is_below x (sums s.incumbent n)

-- a new incumbent, with its entry
abbrev pub after_win : Settings → ℕ → ℕ → PlainState → PlainState
after_win θ n x s = after_entry θ n x (record s { incumbent = θ })

-- an evaluation: the incumbent is never left with fewer runs
unfoldable pub evaluate : Sums → Settings → ℕ → Option ℕ → Procedure ℕ
evaluate sums θ n bound = do
  before ← state
  when (overtakes before θ n) (measure sums before.incumbent n None >> give tt)
  x ← measure sums θ n bound
  s ← state
  when (beats sums s θ n x) (becomes (after_win θ n x))
  give x

-- BasicILS compares on all places; a tie is won
unfoldable pub better_basic : Setup → Sums → Settings → Settings → Procedure Bool
better_basic setup sums θ φ = do
  x ← evaluate sums φ setup.max_runs None
  y ← evaluate sums θ setup.max_runs (Some x)
  give (nat_le y x)

-- the first cost is known, and at most the second
abbrev pub is_at_most : Option ℕ → Option ℕ → Bool
is_at_most (Some x) (Some y) = nat_le x y
is_at_most (Some x) None = false
is_at_most None y = false

-- at least as many runs, and on the other one's places no greater cost
abbrev pub dominates : Sums → PlainState → Settings → Settings → Bool
dominates sums s θ φ = nat_le (s.counts φ) (s.counts θ) && is_at_most (sums θ (s.counts φ)) (sums φ (s.counts φ))

-- the one with fewer runs catches up until one dominates; so many turns suffice
unfoldable pub catch_up : Setup → Sums → ℕ → Settings → Settings → Procedure (Unit {0})
catch_up setup sums zero low high = give tt
catch_up setup sums (suc turns) low high = do
  s ← state
  x ← evaluate sums high (min (s.counts low + 1) setup.max_runs) None
  evaluate sums low (min (s.counts low + 1) setup.max_runs) (Some x)
  now ← state
  if dominates sums now low high || dominates sums now high low then give tt else catch_up setup sums turns low high

-- FocusedILS compares by domination, and the winner gets further runs as a bonus
unfoldable pub better_focused : Setup → Sums → Settings → Settings → Procedure Bool
better_focused setup sums θ φ = do
  becomes (λ s. record s { bonus = s.bonus + (if s.counts θ == s.counts φ then 2 else 1) })
  s ← state
  if nat_le (s.counts θ) (s.counts φ) then catch_up setup sums (suc setup.max_runs) θ φ else catch_up setup sums (suc setup.max_runs) φ θ
  now ← state
  if dominates sums now θ φ
      then (evaluate sums θ (min (now.counts θ + now.bonus) setup.max_runs) None >> becomes (λ s. record s { bonus = 0 }) >> give true)
      else give false
