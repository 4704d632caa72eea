use Rattle.std.proofs.Common.{◌≡◌, take}
use Rattle.ils_face.specs.Setups.{configs_at}
use Rattle.ils_frame.proofs.drawing.picked.Given as goal

-- the configurations with the numbers so far
abbrev pub invariant-loop-number : goal.invariant-loop-number
invariant-loop-number l = l.picked.items ≡ configs_at l.configs (take l.number-index l.numbers)
