-- The runs that a board's asks need are due there.
use Rattle.std.specs.Prelude.{ℕ, ◌≤◌, List, Option, All, IfSome, length, option_map}
use Rattle.std.specs.List.{flat_map}
use Rattle.std.specs.List.Sorted.{IsNonDecreasing}
use Rattle.objective.specs.Bounds.{Bounds}
use Rattle.objective.specs.Costs.{Table}
use Rattle.objective.specs.declared.Answer.{Answer}
use Rattle.objective.specs.declared.Outcome.{Outcome}
use Rattle.wrapper_lines.specs.declared.runs.Key.{Key}
use Rattle.uncapped.specs.Procedure.{Question}
use Rattle.uncapped.specs.Uncapped.{Run}
use Rattle.ils_face.specs.Rules.{Rules}
use Rattle.run_cache.specs.Runs.{IsDue}
use Rattle.board_steps.specs.declared.events.Event.{Event}
use Rattle.board_steps.specs.declared.tickets.Kind.{Kind}
use Rattle.board_steps.specs.declared.tickets.Kind.TheVariants.{Asked, Ahead}
use Rattle.board_steps.specs.Boards.{PlainBoard}
use Rattle.board_steps.specs.Events.{TakenRun, taken, listed}
use Rattle.board_steps.specs.ProblemRuns.{table_of}
use Rattle.board_steps.specs.RepliedAsks.{quiet_by}

-- the run of an asked ticket is due, whatever it answers, at the ask at which it was taken
abbrev pub IsDueRun : Bounds → Table → List Question → Kind → TakenRun → Type 0
IsDueRun limits T asks Asked t = (answer : Answer) → IsDue limits T asks t.asked_at (record { cell = t.cell; cutoff = t.cutoff; answer = answer })
IsDueRun limits T asks Ahead t = Unit {0}

-- what an event takes is due, where it was asked for
abbrev pub IsDueTake : Bounds → Table → List Question → Event → Type 0
IsDueTake limits T asks e = IfSome (taken e) (λ t. IsDueRun limits T asks t.kind t)

-- the number of the ask at which an event took a ticket
abbrev pub ask_taken : Event → List ℕ
ask_taken e = listed (option_map (λ t. t.asked_at) (taken e))

-- the numbers of the asks at which all tickets were taken, oldest first
abbrev pub asks_taken : List Event → List ℕ
asks_taken journal = flat_map ask_taken journal

-- along a journal the asks at which tickets were taken never fall, and none is above this number of replies
pub record AreInOrder (replies : ℕ) (journal : List Event) : Type 0 where
  pub rising : IsNonDecreasing (asks_taken journal)
  pub within : All (λ ask. ask ≤ replies) (asks_taken journal)

-- each run that was asked for is due, and the asks at which tickets were taken are in order
pub record AreDueTickets (procedure : Rules → Table → Run) (truth : Option (Key → Outcome)) (b : PlainBoard) : Type 0 where
  pub due : All (IsDueTake b.problem.rules.limits (table_of truth b.problem) (quiet_by procedure truth b.problem).asks) b.journal
  pub order : AreInOrder (length b.replies) b.journal
