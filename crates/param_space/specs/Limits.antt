-- How large a space may be.
use Rattle.std.specs.Prelude.{ℕ}

-- the greatest number of parameters
abbrev pub max_params : ℕ
max_params = 256

-- the greatest number of values of a parameter
abbrev pub max_values : ℕ
max_values = 256

-- the greatest number of conditions
abbrev pub max_conditions : ℕ
max_conditions = 1024

-- the greatest number of forbidden clauses
abbrev pub max_clauses : ℕ
max_clauses = 4096

-- the greatest number of picks of a forbidden clause
abbrev pub max_picks : ℕ
max_picks = 16
