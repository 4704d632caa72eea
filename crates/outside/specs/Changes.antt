-- How the calls of files, sinks and spawners change what they tell.
use Rattle.std.specs.Prelude.{ℕ, ◌≡◌, Bool, true, false, ◌==◌, ◌&&◌, List, ◌++◌, ◌∷◌, [], length, nat_lt, Option, Some, None, Result, Ok, Err}
use Rattle.outside.specs.declared.faults.Fault.{Fault}
use Rattle.outside.specs.declared.faults.Fault.TheVariants.{Failed, Memory}
use Rattle.outside.specs.declared.faults.Fail.{Fail}
use Rattle.outside.specs.declared.faults.Poll.{Poll}
use Rattle.outside.specs.declared.faults.Poll.TheVariants.{Pending, Ended}
use Rattle.outside.specs.ToldStates.{SpawnerTold}
use Rattle.wrapper_lines.specs.declared.runs.Run.{Run}

-- the call failed, and not for want of memory
abbrev pub has_failed : {A : Type 0} → Result A Fault → Bool
has_failed (Ok _) = false
has_failed (Err Failed) = true
has_failed (Err Memory) = false

-- the bytes taken, where they are told, after these are taken
abbrev pub after_taking : Option (List ℕ) → List ℕ → Option (List ℕ)
after_taking None piece = None
after_taking (Some bytes) piece = Some (bytes ++ piece)

-- a write that took nothing of a piece that isn't empty
abbrev pub is_empty_taking : Result ℕ Fault → List ℕ → Bool
is_empty_taking (Ok n) piece = (n == 0) && nat_lt 0 (length piece)
is_empty_taking (Err _) piece = false

-- what was started, where it is told, after a start of one more
abbrev pub started_after : {A X : Type 0} → Result A Fault → Option (List X) → X → Option (List X)
started_after (Ok _) None x = None
started_after (Ok _) (Some xs) x = Some (xs ++ x ∷ [])
started_after (Err _) xs x = xs

-- the call fails exactly where the test is met, unless it finds no memory
abbrev pub FailsWhere : {A : Type 0} → Bool → Result A Fault → Type 0
FailsWhere test (Ok _) = test ≡ false
FailsWhere test (Err Failed) = test ≡ true
FailsWhere test (Err Memory) = Unit {0}

-- the run of the last start or look that failed
abbrev pub failed_after : Bool → Option Run → Option Run → Option Run
failed_after true run before = run
failed_after false run before = before

-- the run of the last start or look that failed, after a start of this run
abbrev pub failed_after_start : {A : Type 0} → Result A Fault → Run → SpawnerTold → Option Run
failed_after_start result run before = failed_after (has_failed result) (Some run) before.failed_run

-- the look found that the child had ended
abbrev pub has_ended : Result Poll Fail → Bool
has_ended (Ok Pending) = false
has_ended (Ok Ended) = true
has_ended (Err _) = false

-- the look failed
abbrev pub has_look_failed : Result Poll Fail → Bool
has_look_failed (Ok _) = false
has_look_failed (Err _) = true

-- the run of the last start or look that failed, after a look at the current run
abbrev pub failed_after_look : Result Poll Fail → SpawnerTold → Option Run
failed_after_look found before = failed_after (has_look_failed found) before.current before.failed_run
