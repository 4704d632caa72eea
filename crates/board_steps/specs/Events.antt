-- What an event of a journal takes, records and ends.
use Rattle.std.specs.Prelude.{ℕ, Bool, true, false, List, [], ◌∷◌, Option, Some, None}
use Rattle.objective.specs.declared.Answer.{Answer}
use Rattle.run_cache.specs.declared.cell.Cell.{Cell}
use Rattle.board_steps.specs.declared.events.Event.{Event}
use Rattle.board_steps.specs.declared.events.Event.TheVariants.{Advance, Take, Record, Lost, Killed}
use Rattle.board_steps.specs.declared.tickets.Kind.{Kind}

-- a run that a ticket was taken for
pub record TakenRun : Type 0 where
  pub number : ℕ  -- the ticket's
  pub kind : Kind
  pub cell : Cell
  pub cutoff : ℕ
  pub asked_at : ℕ  -- the number of replies that the search had

-- an answer that was learnt
pub record RecordedAnswer : Type 0 where
  pub number : ℕ  -- the ticket's
  pub answer : Answer

-- the run that an event takes a ticket for
abbrev pub taken : Event → Option TakenRun
taken (Take kind number cell cutoff asked_at) =
    Some (record { number = number; kind = kind; cell = cell; cutoff = cutoff.0; asked_at = asked_at })
taken e = None

-- the answer that an event records
abbrev pub recorded : Event → Option RecordedAnswer
recorded (Record number answer) = Some (record { number = number; answer = answer })
recorded e = None

-- the number of the ticket that an event ends
abbrev pub ended : Event → Option ℕ
ended (Record number answer) = Some number
ended (Lost number) = Some number
ended (Killed number) = Some number
ended e = None

-- the event is an advance
abbrev pub is_advance : Event → Bool
is_advance Advance = true
is_advance e = false

-- what there is, as a list
abbrev pub listed : {A : Type 0} → Option A → List A
listed None = []
listed (Some x) = x ∷ []
