-- How many bytes a file may have.
use Rattle.std.specs.Prelude.{ℕ}

-- the most bytes that a file may have
abbrev pub max_bytes : ℕ
max_bytes = 16777216
