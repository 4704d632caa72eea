-- What the words of a call ask for.
use Rattle.std.specs.Prelude.{ℕ, List, [], ◌∷◌, Option, Some, None, bytes_eq, codes, if◌then◌else◌}
use Rattle.toy_bench.specs.Numbers.{number_of}
use Rattle.paramils.specs.declared.command.Command.{Command}
use Rattle.paramils.specs.declared.command.Command.TheVariants.{Help, Version, Toy, Tune}

-- the command of one word
abbrev pub lone_command : List ℕ → Command
lone_command word = if bytes_eq word (codes "--help") then Help else if bytes_eq word (codes "--version") then Version else Tune

-- the tuning of a toy, where there is a number
abbrev pub toy_command : Option ℕ → Command
toy_command (Some number) = Toy number
toy_command None = Tune

-- the command of words that begin with these two
abbrev pub numbered_command : List ℕ → List ℕ → Command
numbered_command first second = if bytes_eq first (codes "toy") then toy_command (number_of second) else Tune

-- what words ask for: all words that ask for nothing else are those of a tuning
abbrev pub command_of : List (List ℕ) → Command
command_of [] = Tune
command_of (word ∷ []) = lone_command word
command_of (first ∷ second ∷ later) = numbered_command first second
