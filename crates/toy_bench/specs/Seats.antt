-- What contracts see of a toy's seat.
use Rattle.std.specs.Prelude.{ℕ, ◌==◌, Result, Ok, if◌then◌else◌}
use Rattle.outside.specs.ToldStates.{SpawnerTold}
use Rattle.outside.specs.declared.faults.Fail.{Fail}
use Rattle.outside.specs.declared.faults.Poll.{Poll}
use Rattle.outside.specs.declared.faults.Poll.TheVariants.{Pending, Ended}

pub record Seat : Type 0 where
  pub told : SpawnerTold  -- what was started isn't told
  pub looks : ℕ  -- how many looks come before the child that runs has ended

-- what a look finds where so many come before the end
abbrev pub found_after : ℕ → Result Poll Fail
found_after looks = if looks == 0 then Ok Ended else Ok Pending
