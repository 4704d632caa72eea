-- The answers that any call may end with, whatever it was to end with.
use Rattle.std.specs.Prelude.{◌≡◌, ◌⊎◌, Bool, true, false, IsTrue}
use Rattle.tune_front.specs.declared.status.Status.{Status}
use Rattle.tune_front.specs.declared.status.Status.TheVariants as status

-- any call may end with this answer: want of memory, or a failed write
abbrev pub may_end_any_call : Status → Bool
may_end_any_call status.NoMemory = true
may_end_any_call status.WriteFault = true
may_end_any_call status.Ok = false
may_end_any_call (status.Usage place) = false
may_end_any_call (status.BadFile kind line what) = false
may_end_any_call (status.ReadFault kind) = false
may_end_any_call (status.Aborted cell) = false
may_end_any_call (status.ChildFault seat) = false
may_end_any_call (status.TooFewSeats asked given) = false

-- a call that is to end so ends so, or for want of memory or a failed write
abbrev pub EndsAs : Status → Status → Type 0
EndsAs end result = (result ≡ end) ⊎ IsTrue (may_end_any_call result)

-- any call that reads files may end with this answer: one of these, or a failed read
abbrev pub may_end_any_call_that_reads : Status → Bool
may_end_any_call_that_reads (status.ReadFault kind) = true
may_end_any_call_that_reads status.NoMemory = true
may_end_any_call_that_reads status.WriteFault = true
may_end_any_call_that_reads status.Ok = false
may_end_any_call_that_reads (status.Usage place) = false
may_end_any_call_that_reads (status.BadFile kind line what) = false
may_end_any_call_that_reads (status.Aborted cell) = false
may_end_any_call_that_reads (status.ChildFault seat) = false
may_end_any_call_that_reads (status.TooFewSeats asked given) = false
