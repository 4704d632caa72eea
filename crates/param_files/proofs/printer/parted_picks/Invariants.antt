use Rattle.std.proofs.Common.{◌≡◌, map, take}
use Rattle.std.specs.Prelude.{string_bytes}
use Rattle.param_files.specs.PrintedLines.{pick_text}
use Rattle.param_files.proofs.printer.parted_picks.Given as goal

-- the picks so far are paired
abbrev pub invariant-loop-pick : goal.invariant-loop-pick
invariant-loop-pick l = map (λ t. string_bytes t) l.pairs.items ≡ map (pick_text l.params) (take l.pick-index l.picks)
