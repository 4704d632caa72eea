-- The board as plain data.
use Rattle.std.specs.Prelude.{ℕ, Bool, false, List, [], Option, None}
use Rattle.ils_face.specs.declared.asks.Reply.{Reply}
use Rattle.run_cache.specs.declared.cell.Cell.{Cell}
use Rattle.run_cache.specs.declared.known.Known.TheVariants.{Nothing}
use Rattle.run_cache.specs.Caches.{Cached, Knowledge, known_in}
use Rattle.predictor.specs.declared.wish.Wish.{Wish}
use Rattle.board_steps.specs.declared.tickets.LiveTicket.{LiveTicket}
use Rattle.board_steps.specs.declared.events.Event.{Event}
use Rattle.board_steps.specs.Ledgers.{LedgerState}
use Rattle.board_steps.specs.Problem.{Problem}

-- a board, with what is known as a function
pub record PlainBoard : Type 0 where
  pub problem : Problem
  pub replies : List Reply  -- to the search, oldest first
  pub known : Knowledge
  pub conflicts : ℕ  -- the runs that contradicted what was known
  pub wishes : List Wish  -- runs that may be made ahead
  pub live : List LiveTicket
  pub lost_ahead : List Cell  -- cells whose run ahead was lost, each once
  pub next : ℕ  -- the number of the next ticket
  pub stopped : Bool
  pub aborted : Option Cell  -- the cell that the walk of an ask came to and that aborts
  pub journal : List Event  -- oldest first

-- what a board holds: its cache has places besides what is known
pub record BoardState : Type 0 where
  pub problem : Problem
  pub replies : List Reply
  pub cache : Cached
  pub wishes : List Wish
  pub live : List LiveTicket
  pub lost_ahead : List Cell
  pub next : ℕ
  pub stopped : Bool
  pub aborted : Option Cell
  pub journal : List Event

-- what a board holds, by its parts
abbrev pub state_of : Problem → List Reply → Cached → List Wish → Option Cell → LedgerState → BoardState
state_of problem replies cache wishes aborted ledger = record {
  problem = problem;
  replies = replies;
  cache = cache;
  wishes = wishes;
  live = ledger.live;
  lost_ahead = ledger.lost_ahead;
  next = ledger.next;
  stopped = ledger.stopped;
  aborted = aborted;
  journal = ledger.journal;
}

-- a board without the places of its cache
unfoldable pub plain_board : BoardState → PlainBoard
plain_board b = record {
  problem = b.problem;
  replies = b.replies;
  known = known_in b.cache;
  conflicts = b.cache.conflicts;
  wishes = b.wishes;
  live = b.live;
  lost_ahead = b.lost_ahead;
  next = b.next;
  stopped = b.stopped;
  aborted = b.aborted;
  journal = b.journal;
}

-- the opening board: nothing is known
abbrev pub opening : Problem → PlainBoard
opening problem = record {
  problem = problem;
  replies = [];
  known = λ config place. Nothing;
  conflicts = 0;
  wishes = [];
  live = [];
  lost_ahead = [];
  next = 1;
  stopped = false;
  aborted = None;
  journal = [];
}
