-- The result line that shows an answer.
use Rattle.std.specs.Prelude.{List, ℕ, ◌++◌, codes}
use Rattle.plain_text.specs.Decimals.{seconds}
use Rattle.objective.specs.declared.Answer.{Answer}
use Rattle.objective.specs.declared.Answer.TheVariants.{Solved, Timeout, Crashed, Abort}

-- the line with this word and this time
abbrev pub result_line : List ℕ → List ℕ → List ℕ
result_line word time = codes "Result for ParamILS: " ++ (word ++ (codes ", " ++ (time ++ codes ", 0, 0, 0\n")))

-- the line that shows an answer; only a solved run has a time
abbrev pub answer_line : Answer → List ℕ
answer_line (Solved t) = result_line (codes "SAT") (seconds t.0)
answer_line Timeout = result_line (codes "TIMEOUT") (codes "0")
answer_line Crashed = result_line (codes "CRASHED") (codes "0")
answer_line Abort = result_line (codes "ABORT") (codes "0")
