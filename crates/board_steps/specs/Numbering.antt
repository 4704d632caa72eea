-- How tickets are numbered along a journal, and what each of them is.
use Rattle.std.specs.Prelude.{ℕ, ◌≡◌, ◌≤◌, ◌<◌, ◌+◌, ◌-◌, ◌==◌, ◌++◌, List, [], ◌∷◌, All, map, IsTrue, IfSome, option_map}
use Rattle.std.specs.List.{Contains, count_by, flat_map, range_with_len}
use Rattle.param_space.specs.Configurations.{IsConfig}
use Rattle.ils_face.specs.Rules.{Rules}
use Rattle.run_cache.specs.declared.cell.Cell.{Cell}
use Rattle.run_cache.specs.Caches.{IsCutoff, has_place_in}
use Rattle.board_steps.specs.declared.events.Event.{Event}
use Rattle.board_steps.specs.declared.tickets.LiveTicket.{LiveTicket}
use Rattle.board_steps.specs.declared.tickets.Ticket.{Ticket}
use Rattle.board_steps.specs.Boards.{BoardState}
use Rattle.board_steps.specs.Events.{taken, ended, listed}
use Rattle.board_steps.specs.Problem.{Problem}
use Rattle.board_steps.specs.ProblemRuns.{key_of}
use Rattle.board_steps.specs.Tickets.{same_cell}

-- the number that an event gives to a ticket
abbrev pub number_taken : Event → List ℕ
number_taken e = listed (option_map (λ t. t.number) (taken e))

-- the number of the ticket that an event ends
abbrev pub number_ended : Event → List ℕ
number_ended e = listed (ended e)

-- the numbers of all tickets, in the order in which they were taken
abbrev pub numbers_taken : List Event → List ℕ
numbers_taken journal = flat_map number_taken journal

-- the numbers of the tickets that were recorded, lost or killed
abbrev pub numbers_ended : List Event → List ℕ
numbers_ended journal = flat_map number_ended journal

-- each ticket that is ended was taken before, given the numbers that were taken before this journal
abbrev pub AreEndsOfTaken : List ℕ → List Event → Type 0
AreEndsOfTaken taken [] = Unit {0}
AreEndsOfTaken taken (e ∷ later) = All (Contains taken) (number_ended e) × AreEndsOfTaken (taken ++ number_taken e) later

-- a cell that may be run under a cutoff: an allowed canonical configuration at a place of a comparison
pub record IsRunnable (rules : Rules) (cell : Cell) (cutoff : ℕ) : Type 0 where
  pub config : IsConfig rules.space cell.config
  pub some : 1 ≤ cell.place
  pub within : cell.place ≤ rules.max_runs
  pub in_range : IsCutoff rules.limits cutoff

-- what an event takes may be run
abbrev pub IsRunnableTake : Rules → Event → Type 0
IsRunnableTake rules e = IfSome (taken e) (λ t. IsRunnable rules t.cell t.cutoff)

-- a ticket with a number that was given, for the key of its cell
pub record IsTicket (problem : Problem) (next : ℕ) (t : Ticket) : Type 0 where
  pub first : 1 ≤ t.number
  pub below : t.number < next
  pub key : t.run.key ≡ key_of problem t.cell
  pub runnable : IsRunnable problem.rules t.cell t.run.cutoff.0

-- the tickets of live ones
abbrev pub tickets_of : List LiveTicket → List Ticket
tickets_of live = map (λ l. l.ticket) live

-- tickets are numbered 1, 2, .. along the journal; each is ended once at most, and not while it is live; those that are
-- live have different cells
pub record AreNumbered (problem : Problem) (tickets : List Ticket) (next : ℕ) (journal : List Event) : Type 0 where
  pub first : 1 ≤ next
  pub taken : numbers_taken journal ≡ range_with_len 1 (next - 1)
  pub ended : AreEndsOfTaken [] journal
  pub once : (n : ℕ) → count_by (λ m. m == n) (numbers_ended journal) + count_by (λ t. t.number == n) tickets ≤ 1
  pub cells : (cell : Cell) → count_by (λ t. same_cell cell t.cell) tickets ≤ 1
  pub each : All (IsTicket problem next) tickets
  pub takes : All (IsRunnableTake problem.rules) journal

-- the tickets and the wishes of a board
pub record IsNumbered (b : BoardState) : Type 0 where
  pub numbers : AreNumbered b.problem (tickets_of b.live) b.next b.journal
  pub wishes : All (λ w. IsRunnable b.problem.rules w.cell w.cutoff.0) b.wishes
  pub places : All (λ t. IsTrue (has_place_in b.cache t.cell.config t.cell.place)) (tickets_of b.live)
