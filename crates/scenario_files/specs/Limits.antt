-- The greatest cutoff length, for which `max` stands.
use Rattle.std.specs.Prelude.{ℕ}

-- the greatest cutoff length, for which `max` stands
abbrev pub max_length : ℕ
max_length = 2147483647
