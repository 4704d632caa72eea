use Rattle.std.proofs.Common.{◌≡◌, ◌++◌, take}
use Rattle.std.specs.Prelude.{string_bytes}
use Rattle.std.specs.List.{flat_map}
use Rattle.param_files.specs.PrintedLines.{param_line}
use Rattle.param_files.proofs.Commas.{ended}
use Rattle.param_files.proofs.printer.push_params.Given as goal

-- the lines so far are appended
abbrev pub invariant-loop-param : goal.invariant-loop-param
invariant-loop-param l = string_bytes l.text ≡ string_bytes l.initial.text ++ flat_map (λ x. ended (param_line x)) (take l.param-index l.params)
