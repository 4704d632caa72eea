-- The greatest numbers of a tuning.
use Rattle.std.specs.Prelude.{ℕ}

-- a cutoff, in microseconds
abbrev pub max_cutoff : ℕ
max_cutoff = 1000000000000

-- a sum of costs: so many runs, each a thousand of the greatest cutoffs
abbrev pub max_sum : ℕ
max_sum = 10000000000000000000

-- the pairs of a comparison (N)
abbrev pub max_runs : ℕ
max_runs = 10000

-- the comparisons of a tuning
abbrev pub max_comparisons : ℕ
max_comparisons = 100000

-- the random configurations that the default is compared with at first
abbrev pub max_initial : ℕ
max_initial = 1000

-- the random steps of a perturbation
abbrev pub max_strength : ℕ
max_strength = 100

-- how often a search restarts: always, in ten-thousandths
abbrev pub max_restart : ℕ
max_restart = 10000

-- the seats that work on a tuning
abbrev pub max_workers : ℕ
max_workers = 64
