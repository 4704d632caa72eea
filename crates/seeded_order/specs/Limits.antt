-- How many configurations are drawn before the default is taken.
use Rattle.std.specs.Prelude.{ℕ}

-- how many configurations are drawn at most before the default is taken
abbrev pub max_attempts : ℕ
max_attempts = 1000
