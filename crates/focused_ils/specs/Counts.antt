-- The runs of each configuration that was met, as a finite map.
use Rattle.std.specs.Prelude.{ℕ, ◌≡◌, cond, List, Option, Some, None, max, bytes_eq}
use Rattle.std.specs.Ordering.{nat_cmp}
use Rattle.std.specs.Cmp.Lexicographic.{slice_cmp}
use Rattle.std.specs.FinMap as map
use Rattle.std.specs.Map.{lookup}
use Rattle.uncapped.specs.Procedure.{Settings}

-- the count of each configuration that was met
abbrev pub Counts : Type 0
Counts = map.FinMap (slice_cmp nat_cmp) ℕ

-- a count, or 0 where there is none
abbrev pub count_of : Option ℕ → ℕ
count_of (Some n) = n
count_of None = 0

-- the count of a configuration, 0 where it wasn't met
abbrev pub count_in : Counts → Settings → ℕ
count_in counts θ = count_of (map.get counts θ)

-- no configuration was met
abbrev pub no_counts : Counts
no_counts = map.empty

-- the count of a configuration becomes at least n
abbrev pub raised : Counts → Settings → ℕ → Counts
raised counts θ n = map.insert counts θ (max (count_in counts θ) n)

-- ---- the entries of a hash map

-- configurations with their runs
abbrev pub Pairs : Type 0
Pairs = List (Settings × ℕ)

-- what a hash map has at a configuration
abbrev pub at : Settings → Pairs → Option ℕ
at θ pairs = lookup (bytes_eq θ) pairs

-- one count was put, and the others stayed
abbrev pub IsPut : Pairs → Pairs → Settings → ℕ → Type 0
IsPut old new k n = (θ : Settings) → at θ new ≡ cond (bytes_eq k θ) (Some n) (at θ old)
