-- The exit number of each answer.
use Rattle.std.specs.Prelude.{ℕ}
use Rattle.tune_front.specs.declared.status.Status.{Status}
use Rattle.tune_front.specs.declared.status.Status.TheVariants.{Ok, Usage, BadFile, ReadFault, WriteFault, Aborted, ChildFault, NoMemory, TooFewSeats}

abbrev pub code_of : Status → ℕ
code_of Ok = 0
code_of (Usage place) = 2
code_of (BadFile kind line what) = 3
code_of (ReadFault kind) = 4
code_of WriteFault = 5
code_of (Aborted cell) = 6
code_of (ChildFault seat) = 7
code_of NoMemory = 8
code_of (TooFewSeats asked given) = 9
