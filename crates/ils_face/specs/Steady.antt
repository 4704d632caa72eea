-- What a search promises whatever fitting replies come.
use Rattle.std.specs.Prelude.{ℕ, ◌≤◌, ◌<◌, ◌≡◌, ◌++◌, ◌⊎◌, List, [], ◌∷◌, IsSome}
use Rattle.param_space.specs.Configurations.{IsConfig}
use Rattle.uncapped.specs.Procedure.{Settings, Incumbent}
use Rattle.ils_face.specs.declared.asks.Ask.{Ask}
use Rattle.ils_face.specs.declared.asks.Ask.TheVariants.{Full, Versus, End}
use Rattle.ils_face.specs.declared.asks.Reply.{Reply}
use Rattle.ils_face.specs.declared.asks.Reply.TheVariants.{Exact}
use Rattle.ils_face.specs.Replies.{Fits}
use Rattle.ils_face.specs.Rules.{Rules}
use Rattle.ils_face.specs.Views.{View, AreFitting}
use Rattle.ils_face.specs.Trajectories.{newest, IsTrajectory}

-- an allowed canonical configuration on a number of places
pub record IsEvaluation (rules : Rules) (θ : Settings) (n : ℕ) : Type 0 where
  pub config : IsConfig rules.space θ
  pub some : 1 ≤ n
  pub within : n ≤ rules.max_runs

-- an ask names an allowed canonical configuration and a number of places
abbrev pub IsAsk : Rules → Ask → Type 0
IsAsk rules (Full θ n) = IsEvaluation rules θ n
IsAsk rules (Versus θ n bound) = IsEvaluation rules θ n
IsAsk rules End = Unit {0}

-- the ask is of this configuration on so many places
abbrev pub AsksFor : Ask → Settings → ℕ → Type 0
AsksFor (Full φ m) θ n = (φ ≡ θ) × (m ≡ n)
AsksFor (Versus φ m bound) θ n = (φ ≡ θ) × (m ≡ n)
AsksFor End θ n = ⊥

-- this cost of the configuration on so many places was replied to an ask of it
abbrev pub WasReplied : (List Reply → View) → List Reply → Settings → ℕ → ℕ → Type 0
WasReplied shown [] θ n x = ⊥
WasReplied shown (r ∷ later) θ n x =
    (AsksFor (shown []).ask θ n × (r ≡ Exact (record { 0 = x }))) ⊎ WasReplied (λ rest. shown (r ∷ rest)) later θ n x

-- the cost of the incumbent's runs was replied, and is 0 where it has none
abbrev pub IsEarned : (List Reply → View) → List Reply → Incumbent → Type 0
IsEarned shown replies last = ((last.runs ≡ 0) × (last.sum ≡ 0)) ⊎ WasReplied shown replies last.config last.runs last.sum

-- the later list is the former with more at its end
pub record Grows (former later : List Incumbent) : Type 0 where
  pub added : List Incumbent
  pub grown : later ≡ former ++ added

-- what holds after one more fitting reply
pub record Steps (before after : View) : Type 0 where
  pub falls : after.left < before.left
  pub grows : Grows before.entries after.entries

-- what a search promises whatever fitting replies come
pub record IsSteady (rules : Rules) (shown : List Reply → View) : Type 0 where
  pub asks : (replies : List Reply) → AreFitting shown replies → IsAsk rules (shown replies).ask
  pub trajectory : (replies : List Reply) → AreFitting shown replies
      → IsTrajectory rules.max_runs (IsConfig rules.space) (shown replies).entries (shown replies).last
  pub earned : (replies : List Reply) → AreFitting shown replies → IsEarned shown replies (shown replies).last
  pub spent : (replies : List Reply) → AreFitting shown replies → (shown replies).ask ≡ End → (shown replies).last.compared ≡ rules.budget
  pub opened : (replies : List Reply) → AreFitting shown replies → (shown replies).ask ≡ End
      → IsSome (newest (shown replies).entries)  -- at the end there is an entry
  pub steps : (replies : List Reply) (r : Reply) → AreFitting shown replies → Fits (shown replies).ask r → Steps (shown replies) (shown (replies ++ r ∷ []))
