-- The children of a seat, by the runs that they are of.
use Rattle.std.specs.Prelude.{◌≡◌, Bool, List, [], ◌∷◌, ◌++◌, map, Option, Some, None, if◌then◌else◌}
use Rattle.wrapper_lines.specs.Runs.{words_of}
use Rattle.wrapper_lines.specs.declared.runs.Program.{Program}
use Rattle.wrapper_lines.specs.declared.runs.Run.{Run}
use Rattle.outside.specs.ToldStates.{SpawnerTold}

-- what is told, where it is told, after these
abbrev pub told_more : {X : Type 0} → Option (List X) → List X → Option (List X)
told_more None more = None
told_more (Some xs) more = Some (xs ++ more)

-- a seat tells that it started these runs of a program, and nothing else: one child each, in order, in the program's folder
pub record HasStarted (program : Program) (before after : SpawnerTold) (runs : List Run) : Type 0 where
  pub words : after.started ≡ told_more before.started (map (words_of program) runs)
  pub folders : after.folders ≡ told_more before.folders (map (λ run. program.dir) runs)

-- the run alone where its child was started, else none
abbrev pub run_if : Bool → Run → List Run
run_if has run = if has then run ∷ [] else []

-- the child of a run was started, or none
pub record MayHaveStarted (program : Program) (before after : SpawnerTold) (run : Run) : Type 0 where
  pub has : Bool
  pub runs : HasStarted program before after (run_if has run)
