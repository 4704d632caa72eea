use Rattle.std.proofs.Common.{◌≡◌, map, take}
use Rattle.param_files.proofs.printer.parted.Given as goal

-- the texts so far are listed
abbrev pub invariant-loop-text : goal.invariant-loop-text
invariant-loop-text l = map (λ t. t.now) l.listed.items ≡ take l.text-index l.texts
