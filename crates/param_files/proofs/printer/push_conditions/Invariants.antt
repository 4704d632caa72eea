use Rattle.std.proofs.Common.{◌≡◌, ◌++◌, take}
use Rattle.std.specs.Prelude.{string_bytes}
use Rattle.std.specs.List.{flat_map}
use Rattle.param_files.specs.PrintedLines.{condition_line}
use Rattle.param_files.proofs.Commas.{ended}
use Rattle.param_files.proofs.printer.push_conditions.Given as goal

-- the lines so far are appended
abbrev pub invariant-loop-condition : goal.invariant-loop-condition
invariant-loop-condition l = string_bytes l.text ≡ string_bytes l.initial.text ++ flat_map (λ x. ended (condition_line l.params x)) (take l.condition-index l.conditions)
