-- How many instances a file may have.
use Rattle.std.specs.Prelude.{ℕ}

-- the greatest number of instances
abbrev pub max_instances : ℕ
max_instances = 100000
