-- The text of a tuning, and the lines of a run.
use Rattle.std.specs.Prelude.{ℕ, List, ◌++◌, map, codes}
use Rattle.std.specs.Fmt.{decimal}
use Rattle.param_space.specs.Space.{Lists}
use Rattle.uncapped.specs.Procedure.{Incumbent}
use Rattle.uncapped.specs.Uncapped.{Run}
use Rattle.tuning_logs.specs.EntryLines.{settings_of, entry_lines, all_lines}

-- the lines of these entries, and then this one
abbrev pub lines_with : Lists → List Incumbent → List ℕ → List ℕ
lines_with space entries line = entry_lines space entries ++ line

-- all that a run of the procedure prints
abbrev pub output_of : Lists → Run → List ℕ
output_of space run = all_lines space (map (λ added. added.entry) run.entries) run.last

-- a word, and the place and the settings of a run
abbrev pub run_line : List ℕ → Lists → ℕ → List ℕ → List ℕ
run_line word space place config =
    word ++ (codes " " ++ (decimal place ++ (codes " " ++ (settings_of space config ++ codes "\n"))))

-- the line of the run that aborted
abbrev pub aborted_line : Lists → ℕ → List ℕ → List ℕ
aborted_line = run_line (codes "aborted")

-- the line of the run that failed
abbrev pub child_fault_line : Lists → ℕ → List ℕ → List ℕ
child_fault_line = run_line (codes "childfault")
