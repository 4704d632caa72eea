-- Wishes: the runs that may be needed next, told by what a search shows after the replies that are likely.
use Rattle.std.specs.Prelude.{ℕ, zero, suc, ◌-◌, Bool, true, false, List, [], ◌∷◌, ◌++◌, Option, Some, None}
use Rattle.objective.specs.Bounds.{Bounds}
use Rattle.uncapped.specs.Procedure.{Settings}
use Rattle.ils_face.specs.declared.asks.Ask.{Ask}
use Rattle.ils_face.specs.declared.asks.Ask.TheVariants.{Full, Versus, End}
use Rattle.ils_face.specs.declared.asks.Reply.{Reply}
use Rattle.ils_face.specs.declared.asks.Reply.TheVariants.{Exceeds}
use Rattle.ils_face.specs.Views.{View}
use Rattle.run_cache.specs.Caches.{Cached, Knowledge, known_in}
use Rattle.capping.specs.declared.verdicts.Verdict.{Verdict}
use Rattle.capping.specs.declared.verdicts.Verdict.TheVariants.{Need, Reply as Replied}
use Rattle.capping.specs.Verdicts.{verdict_of}
use Rattle.predictor.specs.declared.wish.Wish.{Wish}
use Rattle.predictor.specs.Choices.{run_of, none_yet, with_runs}

-- runs of a configuration at so many places, from this one on
abbrev pub runs_from : Settings → ℕ → ℕ → ℕ → List Wish
runs_from config cutoff place zero = []
runs_from config cutoff place (suc left) = run_of config place cutoff ∷ runs_from config cutoff (suc place) left

-- runs at the places after this one, up to the last
abbrev pub runs_after : Settings → ℕ → ℕ → ℕ → List Wish
runs_after config cutoff place last = runs_from config cutoff (suc place) (last - place)

-- a turn of looking ahead: the runs that the ask needs, and what it is then answered, unless that is the last turn
pub record AheadTurn : Type 0 where
  pub runs : List Wish
  pub reply : Option Reply

-- the last turn, with these runs
abbrev pub ends : List Wish → AheadTurn
ends runs = record { runs = runs; reply = None }

-- the turn at an ask: a known reply is given, a bound is taken to be exceeded, and a need in full ends the look ahead
abbrev pub turn_of : Ask → Verdict → AheadTurn
turn_of ask (Replied r) = record { runs = []; reply = Some r }
turn_of (Full θ n) (Need place cutoff) = ends (run_of θ place cutoff.0 ∷ runs_after θ cutoff.0 place n)
turn_of (Versus θ n bound) (Need place cutoff) = record { runs = run_of θ place cutoff.0 ∷ []; reply = Some Exceeds }
turn_of ask verdict = ends []

-- an ask has a bound
abbrev pub has_bound : Ask → Bool
has_bound (Full θ n) = false
has_bound (Versus θ n bound) = true
has_bound End = false

-- the runs of a turn, and those after the reply that it ends with
abbrev pub followed_by : AheadTurn → (Reply → List Wish) → List Wish
followed_by turn after = turn.runs ++ (elim turn.reply [ None ↦ [] | Some r ↦ after r ])

module _ (shown : List Reply → View) (limits : Bounds) (known : Knowledge) where
  -- the verdict on what is asked for after these replies
  abbrev pub verdict_after : List Reply → Verdict
  verdict_after replies = verdict_of limits known (shown replies).ask

  -- the turn after these replies
  abbrev pub turn_after : List Reply → AheadTurn
  turn_after replies = turn_of (shown replies).ask (verdict_after replies)

  -- the runs of at most so many turns after these replies
  unfoldable pub runs_ahead : ℕ → List Reply → List Wish
  runs_ahead zero replies = []
  runs_ahead (suc turns) replies = followed_by (turn_after replies) (λ r. runs_ahead turns (replies ++ r ∷ []))

  -- the wishes beside a needed cell: at most k of these runs
  abbrev pub wishes_beside : Settings → ℕ → List Wish → ℕ → List Wish
  wishes_beside config place runs k = (with_runs known (none_yet k config place) runs).wishes

  -- the wishes at an ask: its later places, but at one with a bound first what comes should it be exceeded
  unfoldable pub wishes_at : List Reply → Ask → Verdict → ℕ → List Wish
  wishes_at replies (Full θ n) (Need place cutoff) k = wishes_beside θ place (runs_after θ cutoff.0 place n) k
  wishes_at replies (Versus θ n bound) (Need place cutoff) k =
      wishes_beside θ place (runs_ahead 256 (replies ++ Exceeds ∷ []) ++ runs_after θ cutoff.0 place n) k
  wishes_at replies ask verdict k = []

  -- the wishes after these replies, at most k
  abbrev pub wishes_of : List Reply → ℕ → List Wish
  wishes_of replies k = wishes_at replies (shown replies).ask (verdict_after replies) k

-- the wishes at an ask after these replies, by what a cache knows: at most k
abbrev pub wishes_by : (List Reply → View) → Cached → List Reply → Ask → ℕ → List Wish
wishes_by shown cache replies ask k =
    wishes_at shown cache.limits (known_in cache) replies ask (verdict_of cache.limits (known_in cache) ask) k
