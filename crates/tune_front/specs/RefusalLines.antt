-- The lines of calls that are refused, or have no memory left.
use Rattle.std.specs.Prelude.{ℕ, List, ◌++◌, codes}
use Rattle.std.specs.Fmt.{decimal}
use Rattle.tune_front.specs.RuleNames.{rule_name}
use Rattle.tune_front.specs.declared.status.What.{What}

abbrev pub no_memory_line : List ℕ
no_memory_line = codes "nomemory\n"

abbrev pub usage_line : ℕ → List ℕ
usage_line place = codes "usage " ++ (decimal place ++ codes "\n")

abbrev pub read_fault_line : List ℕ → List ℕ
read_fault_line name = codes "readfault " ++ (name ++ codes "\n")

abbrev pub seats_line : ℕ → ℕ → List ℕ
seats_line asked given = codes "seats " ++ (decimal asked ++ (codes " " ++ (decimal given ++ codes "\n")))

-- the file, the line and the rule that it breaks
abbrev pub bad_file_line : List ℕ → ℕ → What → List ℕ
bad_file_line name line what = codes "badfile " ++ (name ++ (codes " " ++ (decimal line ++ (codes " " ++ (rule_name what ++ codes "\n")))))
