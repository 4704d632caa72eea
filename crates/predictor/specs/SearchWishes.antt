-- The wishes of a search, by what it shows and what a cache knows.
use Rattle.std.specs.Prelude.{ℕ, List, Option}
use Rattle.ils_face.specs.declared.asks.Ask.{Ask}
use Rattle.ils_face.specs.declared.asks.Reply.{Reply}
use Rattle.ils_face.specs.declared.search.Search.{Ghosts}
use Rattle.run_cache.specs.declared.cell.Cell.{Cell}
use Rattle.run_cache.specs.Caches.{Cached, known_in}
use Rattle.capping.specs.Verdicts.{verdict_of}
use Rattle.predictor.specs.declared.wish.Wish.{Wish}
use Rattle.predictor.specs.Wishes.{AheadTurn, turn_of, runs_ahead, wishes_at, wishes_of}
use Rattle.predictor.specs.Promises.{needed_after}

-- the turn at an ask
abbrev pub turn_by : Cached → Ask → AheadTurn
turn_by cache ask = turn_of ask (verdict_of cache.limits (known_in cache) ask)

-- the runs of at most 256 turns after these replies
abbrev pub found_ahead : {S : Type 0} → Ghosts S → S → Cached → List Reply → List Wish
found_ahead P search cache replies = runs_ahead (P.shown (P.rules_of search)) cache.limits (known_in cache) 256 replies

-- the wishes at an ask after the search's replies, at most k
abbrev pub wishes_on : {S : Type 0} → Ghosts S → S → Cached → Ask → ℕ → List Wish
wishes_on P search cache ask k =
    let known = known_in cache in
    wishes_at (P.shown (P.rules_of search)) cache.limits known (P.replies_of search) ask (verdict_of cache.limits known ask) k

-- the wishes at the search's present ask, at most k
abbrev pub wishes_now : {S : Type 0} → Ghosts S → S → Cached → ℕ → List Wish
wishes_now P search cache k = wishes_of (P.shown (P.rules_of search)) cache.limits (known_in cache) (P.replies_of search) k

-- the cell that is needed at present, where one is
abbrev pub needed_now : {S : Type 0} → Ghosts S → S → Cached → Option Cell
needed_now P search cache = needed_after (P.shown (P.rules_of search)) cache.limits (known_in cache) (P.replies_of search)
