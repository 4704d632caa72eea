-- What the entries of a search and its incumbent are, at any time.
use Rattle.std.specs.Prelude.{ℕ, ◌≡◌, ◌≤◌, All, List, Option, None, IfSome}
use Rattle.std.specs.List.{last_or}
use Rattle.std.specs.List.Sorted.{IsNonDecreasingBy}
use Rattle.uncapped.specs.Procedure.{Settings, Incumbent}

-- the newest entry, where there is one
abbrev pub newest : List Incumbent → Option Incumbent
newest entries = last_or None entries

-- the newest entry is of the incumbent, and with as many runs it has the same cost
pub record IsNewest (last entry : Incumbent) : Type 0 where
  pub config : entry.config ≡ last.config
  pub sum : entry.runs ≡ last.runs → entry.sum ≡ last.sum

-- the entries are in the order of their comparisons, and they and the incumbent are allowed configurations with at
-- most so many runs
pub record IsTrajectory (max_runs : ℕ) (allowed : Settings → Type 0) (entries : List Incumbent) (last : Incumbent)
    : Type 0 where
  pub config : allowed last.config
  pub runs : last.runs ≤ max_runs
  pub configs : All (λ e. allowed e.config) entries
  pub entry_runs : All (λ e. e.runs ≤ max_runs) entries
  pub in_order : IsNonDecreasingBy (λ e. e.compared) entries
  pub begun : All (λ e. e.compared ≤ last.compared) entries
  pub newest : IfSome (newest entries) (IsNewest last)
