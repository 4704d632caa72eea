-- What files, sinks and spawners tell.
use Rattle.std.specs.Prelude.{ℕ, Bool, List, Option}
use Rattle.wrapper_lines.specs.declared.runs.Run.{Run}

pub record FilesTold : Type 0 where
  pub contents : Option (List ℕ → Option (List ℕ))  -- by name, where they are told
  pub faults : ℕ  -- how many reads have failed

pub record SinkTold : Type 0 where
  pub taken : Option (List ℕ)  -- the bytes taken so far, where they are told
  pub faults : ℕ  -- how many writes have failed
  pub empties : ℕ  -- how many writes of a piece that isn't empty took nothing

pub record SpawnerTold : Type 0 where
  pub idle : Bool  -- no child runs
  pub held : Bool  -- the output of an ended child is held
  pub current : Option Run  -- the run that was started last
  pub failed_run : Option Run  -- the run of the last start or look that failed
  pub started : Option (List (List (List ℕ)))  -- the lists of words started so far, oldest first, where they are told
  pub folders : Option (List (List ℕ))  -- the folders that these were started in, where they are told
  pub faults : ℕ  -- how many starts and looks have failed
