-- A line without its comment.
use Rattle.std.specs.Prelude.{ℕ, ◌==◌, List}
use Rattle.std.specs.List.{before_first}

-- what stands before the first # of a line, or the whole line
abbrev pub uncommented : List ℕ → List ℕ
uncommented line = before_first (λ b. b == 35) line
