-- What the output of a run is read as.
use Rattle.std.specs.Prelude.{ℕ, ◌≡◌, List, Option, IfSome}
use Rattle.objective.specs.Costs.{seen}
use Rattle.objective.specs.declared.Outcome.{Outcome}
use Rattle.wrapper_lines.specs.ResultLines.{answer_of}
use Rattle.wrapper_lines.specs.declared.runs.Key.{Key}
use Rattle.wrapper_lines.specs.declared.runs.Run.{Run}

-- the output of this run is read as what its outcome shows under its cutoff
abbrev pub ReadsAs : (Key → Outcome) → Option Run → List ℕ → Type 0
ReadsAs outcome current output = IfSome current (λ run. answer_of output run.cutoff.0 ≡ seen (outcome run.key) run.cutoff.0)
