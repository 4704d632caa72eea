use Rattle.std.proofs.Common.{All, take}
use Rattle.tuner.specs.KeptFaults.{KeepsTaken}
use Rattle.tuner.proofs.kept_faults.first_fault.Given as goal

-- none of the seats so far keeps a fault of the board
abbrev pub invariant-loop-k : goal.invariant-loop-k
invariant-loop-k g l = All (λ seat. ¬ KeepsTaken l.board seat) (take l.k l.seats)
