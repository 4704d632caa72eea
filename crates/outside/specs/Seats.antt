-- What contracts see of a seat in memory with a script.
use Rattle.std.specs.Prelude.{ℕ, true, false, List, [], Some, Result, Ok, Err}
use Rattle.outside.specs.Courses.{after_start}
use Rattle.outside.specs.MemoryChildren.{first_child}
use Rattle.outside.specs.ToldStates.{SpawnerTold}
use Rattle.outside.specs.declared.course.Course.{Course}
use Rattle.outside.specs.declared.faults.Fault.{Fault}
use Rattle.outside.specs.declared.faults.Fault.TheVariants.{Failed, Memory}

pub record Seat : Type 0 where
  pub told : SpawnerTold
  pub course : Course  -- how far it is with its script
  pub left : List ℕ  -- what its last child leaves behind

-- a seat that has started nothing
abbrev pub told_first : SpawnerTold
told_first = record first_child.told { started = Some []; folders = Some [] }

-- how far a seat is after a start; one that finds no memory leaves that
abbrev pub course_after : {A : Type 0} → Result A Fault → Course → Course
course_after (Ok _) c = after_start true c
course_after (Err Failed) c = after_start false c
course_after (Err Memory) c = c
